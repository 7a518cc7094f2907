-- How a time is made up (document 02, change 5): the six parts of a task's sum, in cycles, and the reason. What they add up to is the sum itself.
-- Assumes nothing.
use Rattle.std.specs.Prelude.{ℕ, ◌+◌, ◌-◌, ◌*◌, List, [], ◌∷◌, length, get_or}
use Rattle.folds.specs.Folds.{sum_to, first_largest}
use Rattle.board.specs.Layout.{access_cycles, refresh, refresh_cycles}
use Rattle.figures.specs.Figures.{task_pd}
use Rattle.sums.specs.Sums.{own_accesses, bus_accesses, refreshes, higher_work}

-- of task i at the times R
module _ (b R : List ℕ) (i : ℕ) where
  -- "own PD"
  abbrev pub own_work : ℕ
  own_work = task_pd b i

  -- "S × d"
  abbrev pub own_access_part : ℕ
  own_access_part = own_accesses b R i * access_cycles b

  -- "accesses from other cores or their slots, (B − S − 1) × d"
  abbrev pub interference_part : ℕ
  interference_part = (bus_accesses b R i - own_accesses b R i - 1) * access_cycles b

  -- "the one blocking access, d"
  abbrev pub blocking_part : ℕ
  blocking_part = access_cycles b

  -- "refresh, Q × dr"
  abbrev pub refresh_part : ℕ
  refresh_part = refreshes b R i (refresh b) * refresh_cycles b

  -- the six, in document 02's order; the second is "PD of higher tasks on the core"
  unfoldable pub six_parts : List ℕ
  six_parts = own_work ∷ higher_work b R i ∷ own_access_part ∷ interference_part ∷ blocking_part ∷ refresh_part ∷ []

-- what numbers add up to
unfoldable pub total : List ℕ → ℕ
total parts = sum_to (λ k. get_or parts k 0) (length parts)

-- "the largest is named as the reason, the earliest of equals": its number from 1
unfoldable pub reason : List ℕ → ℕ
reason parts = first_largest (λ k. get_or parts k 0) (length parts) + 1
