-- For the code: what the loops over the tasks off a core, and over a run of cores, add up. The laws of proofs/ByTask.antt and proofs/ByCore.antt join these
-- to the definitions: a reader of the definitions can pass this file by.
-- Assumes nothing.
use Rattle.std.specs.Prelude.{ℕ, ◌+◌, ◌&&◌, List, leb}
use Rattle.folds.specs.Folds.{only_if, sum_to}
use Rattle.board.specs.Layout.{core}
use Rattle.sums.specs.Sums.{is_other, carry_in, core_accesses}

-- within t cycles, at the times R
module _ (b R : List ℕ) (t : ℕ) where
  -- W(j, k), if task k is a or after it and off core x
  abbrev pub carried_if : ℕ → ℕ → ℕ → ℕ → ℕ
  carried_if x j a k = only_if (leb a k && is_other x (core b k)) (carry_in b R t j k)

  -- over the tasks from a up to j
  unfoldable pub carried_off : ℕ → ℕ → ℕ → ℕ
  carried_off x j a = sum_to (carried_if x j a) (j + 1)

  -- A(j, y) of the cores from `first` up to core n
  unfoldable pub cores_from : ℕ → ℕ → ℕ → ℕ
  cores_from j first n = sum_to (λ y. only_if (leb first (y + 1)) (core_accesses b R t j (y + 1))) n
