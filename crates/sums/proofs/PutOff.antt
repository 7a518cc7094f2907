-- Refreshes that are put off. On a board that puts none off every sum is the one of document 01. Where some are, there is still at most one refresh for
-- each bus access, and at time 0 those put off are all that are counted.
-- Assumes nothing.
use Prim.Native.Nat.{ℕ, zero, suc, ◌*◌, ◌≤◌, min}
use mathlib.Core.List.{List}
use mathlib.Core.Path.{◌≡◌, refl, ap}
use native.Mathlib.Omega.{arith}
use lib.ListN.{get_or}
use Rattle.folds.specs.Folds.{ceil_div}
use Rattle.folds.proofs.Numbers.{ceil_div-self}
use Rattle.board.specs.Layout.{refresh, refresh_interval, refresh_rows, refresh_cycles, put_off}
use Rattle.sums.specs.Sums.{bus_accesses, refreshes, task_sum}
use Rattle.sums.specs.Plain.{plain_refreshes, plain_sum}

module _ (b R : List ℕ) (i : ℕ) where
  module _ (none : put_off b ≡ 0) where
    pub refreshes-plain : (c : ℕ) → refreshes b R i c ≡ plain_refreshes b R i c
    unfolding refreshes plain_refreshes
    refreshes-plain zero = refl
    refreshes-plain (suc zero) = refl
    refreshes-plain (suc (suc m)) = omega arith

    pub task_sum-plain : task_sum b R i ≡ plain_sum b R i
    unfolding task_sum
    task_sum-plain = omega (arith, ap (λ (q : ℕ). q * refresh_cycles b) (refreshes-plain (refresh b)))

  -- with p = 0 it is that of document 01: min(B, ceil(t × rows/Tr))
  pub refreshes-none : put_off b ≡ 0 → refreshes b R i 2 ≡ min (bus_accesses b R i) (ceil_div (get_or R i 0 * refresh_rows b) (refresh_interval b))
  unfolding refreshes
  refreshes-none none = omega (arith, none)

  pub refreshes-capped : refreshes b R i 2 ≤ bus_accesses b R i
  unfolding refreshes
  refreshes-capped = omega arith

  pub refreshes-zero : get_or R i 0 ≡ 0 → refreshes b R i 2 ≡ min (bus_accesses b R i) (put_off b)
  unfolding refreshes
  refreshes-zero zero-time =
      omega (arith, ceil_div-self (get_or R i 0 * refresh_rows b) (refresh_interval b), ap (λ (t : ℕ). t * refresh_rows b) zero-time)
