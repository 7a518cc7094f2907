-- What a sum is handed holds what its parts are handed.
-- Assumes nothing.
use Prim.Native.Nat.{ℕ, ◌≤◌}
use mathlib.Core.List.{List}
use mathlib.Core.Path.{◌≡◌}
use native.Mathlib.Omega.{arith}
use Rattle.sums.specs.Sums.{lowest}
use Rattle.sums.specs.Limits.{latest_time}
use Rattle.sums.specs.Links.{Linked}
use Rattle.sums.specs.Inputs.{RowInput, CoresInput, SumInput}

module _ (b links pd own all R : List ℕ) (i : ℕ) (h : SumInput b links pd own all R i) where
  pub own_row : RowInput b own R i
  own_row = record { sound = h.sound; task = h.task; demands = h.owns; times = h.times }

  pub all_row : RowInput b all R (lowest b)
  all_row = record { sound = h.sound; task = omega (arith, h.task); demands = h.alls; times = h.times }

-- j is task n as code computes it
pub cores-input : {b links row R : List ℕ} {t j : ℕ} → RowInput b row R (lowest b) → j ≡ lowest b → t ≤ latest_time → Linked b links → CoresInput b links row R t j
cores-input rows last early linked = record { rows = rw last rows; last = last; early = early; linked = linked }
