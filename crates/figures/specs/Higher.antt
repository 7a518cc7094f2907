-- For the code: the tasks above task i on its core, as a list, the lowest first.
-- Assumes nothing.
use Rattle.std.specs.Prelude.{ℕ, zero, suc, ◌+◌, ◌-◌, ◌≤◌, ◌<◌, List, ◌≡◌, length, get_or}
use Rattle.folds.specs.Folds.{last_to}
use Rattle.figures.specs.Rows.{same_core}

-- the number, from 1, of the q-th of them, and 0 where there are no more
unfoldable pub higher_at : List ℕ → ℕ → ℕ → ℕ
higher_at b i zero = last_to (same_core b i) i
higher_at b i (suc q) = last_to (same_core b i) (higher_at b i q - 1)

pub record Higher (b : List ℕ) (i : ℕ) (list : List ℕ) : Type 0 where
  pub few : length list ≤ i
  pub each : (q : ℕ) → q < length list → get_or list q 0 + 1 ≡ higher_at b i q
  pub last : higher_at b i (length list) ≡ 0
