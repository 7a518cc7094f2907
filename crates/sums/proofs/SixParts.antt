-- The six parts of a sum add up to it: B × d is the accesses of the task's own core, those of other cores and the one under way. The reason is the earliest of the
-- largest.
-- Assumes nothing.
use Prim.Native.Nat.{ℕ, ◌+◌, ◌-◌, ◌*◌, ◌≤◌, ◌<◌}
use mathlib.Core.List.{List}
use mathlib.Core.Path.{◌≡◌, ap, subst}
use native.Mathlib.Nat.{add-mul, one-mul}
use native.Mathlib.Omega.{arith}
use lib.ListN.{length, get_or}
use Rattle.folds.specs.Folds.{sum_to, first_largest, Largest}
use Rattle.folds.proofs.Largest.{largest-is, first_largest-largest}
use Rattle.board.specs.Layout.{bus, access_cycles}
use Rattle.sums.specs.Sums.{own_accesses, interference, bus_accesses, task_sum}
use Rattle.sums.specs.SixParts.{interference_part, six_parts, total, reason}

module _ (b R : List ℕ) (i : ℕ) where
  -- the fourth: B − S − 1 is the interference
  pub interference_part-is : interference b R i (bus b) * access_cycles b ≡ interference_part b R i
  unfolding bus_accesses
  interference_part-is = ap (λ (n : ℕ). n * access_cycles b) (omega arith)

  pub task_sum-parts : total (six_parts b R i) ≡ task_sum b R i
  unfolding total six_parts sum_to bus_accesses task_sum
  task_sum-parts =
      omega (
        arith,
        interference_part-is,
        add-mul (own_accesses b R i + interference b R i (bus b)) 1 (access_cycles b),
        add-mul (own_accesses b R i) (interference b R i (bus b)) (access_cycles b),
        one-mul (access_cycles b),
      )

-- ---- the reason, of any numbers

module _ (parts : List ℕ) where
  pub reason-largest : 0 < length parts → (1 ≤ reason parts) × Largest (λ k. get_or parts k 0) (length parts) (reason parts - 1)
  unfolding reason
  reason-largest some =
      let at : first_largest (λ k. get_or parts k 0) (length parts) ≡ reason parts - 1 = omega arith in
      (omega arith, subst (Largest (λ k. get_or parts k 0) (length parts)) at (first_largest-largest (λ k. get_or parts k 0) (length parts) some))

  pub reason-is : {at : ℕ} → Largest (λ k. get_or parts k 0) (length parts) at → at + 1 ≡ reason parts
  unfolding reason
  reason-is found = omega (arith, largest-is found)
