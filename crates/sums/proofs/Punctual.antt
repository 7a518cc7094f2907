-- On a board whose releases are punctual, J = 0 for every task, every sum is what it was before a release could be late, part by part and at any times.
-- Assumes nothing.
use Prim.Native.Nat.{ℕ, zero, suc, ◌+◌, ◌*◌, ◌/◌, ◌%◌, ◌≤◌, ◌<◌, min}
use mathlib.Core.Bool.{◌&&◌}
use mathlib.Core.List.{List}
use mathlib.Core.Path.{◌≡◌, refl, ap, fun_ext}
use native.Mathlib.Omega.{arith}
use lib.Dec.{ltb}
use lib.ListN.{get_or}
use Rattle.folds.specs.Folds.{ceil_div}
use Rattle.folds.proofs.Folds.{sum_where-cong}
use Rattle.board.specs.Layout.{tasks, access_cycles, core, period, deadline}
use Rattle.figures.specs.Figures.{task_pd}
use Rattle.sums.specs.Sums.{lowest, bound, added_jitter, releases, memory_demand, window, carry_in, core_accesses, lower_accesses, own_accesses, interference, bus_accesses, refreshes, higher_work, task_sum}
use Rattle.sums.specs.Links.{is_on}
use Rattle.sums.specs.Inputs.{own_costs}
use Rattle.sums.specs.Punctual.{Punctual, punctual_window, punctual_carry_in, punctual_core_accesses, punctual_lower_accesses, punctual_costs, punctual_own_accesses, punctual_interference, punctual_bus_accesses, punctual_refreshes, punctual_higher_work, punctual_sum}
use Rattle.sums.proofs.Jitter.{added_jitter-few}

module _ (b : List ℕ) (punctual : Punctual b) where
  -- a task is late above D
  pub bound-punctual : (i : ℕ) → i < tasks b → bound b i ≡ deadline b i
  bound-punctual i task = omega (arith, punctual i task)

  -- ceil(t/T_k)
  pub releases-punctual : (i k t : ℕ) → k < tasks b → releases b i k t ≡ ceil_div t (period b k)
  releases-punctual i k t h =
      let none : t + added_jitter b i k ≡ t = omega (arith, added_jitter-few b i k, punctual k h) in
      ap (λ (a : ℕ). ceil_div a (period b k)) none

  module _ (R : List ℕ) where
    -- ---- u, W, A and L, within t cycles

    module _ (t : ℕ) where
      pub window-punctual : (j k : ℕ) → k < tasks b → window b R t j k ≡ punctual_window b R t j k
      window-punctual j k h = omega (arith, punctual k h)

      pub carry_in-punctual : (j k : ℕ) → k < tasks b → carry_in b R t j k ≡ punctual_carry_in b R t j k
      unfolding carry_in punctual_carry_in
      carry_in-punctual j k h =
          let D = memory_demand b j k in
          ap (λ (u : ℕ). D * (u / period b k) + min D (ceil_div (u % period b k) (access_cycles b))) (window-punctual j k h)

      pub core_accesses-punctual : (j : ℕ) → j < tasks b → core_accesses b R t j ≡ punctual_core_accesses b R t j
      unfolding core_accesses punctual_core_accesses
      core_accesses-punctual j l = fun_ext (λ y. sum_where-cong (is_on b y) _ _ (j + 1) (λ k h. carry_in-punctual j k (omega arith)))

      pub lower_accesses-punctual : (i : ℕ) → lower_accesses b R t i ≡ punctual_lower_accesses b R t i
      unfolding lower_accesses punctual_lower_accesses
      lower_accesses-punctual i = fun_ext (λ y. sum_where-cong (λ k. ltb i k && is_on b y k) _ _ (tasks b) (carry_in-punctual (lowest b)))

    -- ---- the sum of task i

    module _ (i : ℕ) (task : i < tasks b) where
      abbrev t : ℕ
      t = get_or R i 0

      -- the releases of the tasks below n on its core, at a cost
      own_costs-punctual : (cost : ℕ → ℕ) (n : ℕ) → n ≤ i + 1 → own_costs b R i cost n ≡ punctual_costs b R i cost n
      own_costs-punctual cost n few =
          sum_where-cong (is_on b (core b i)) _ _ n (λ k h. ap (λ (r : ℕ). r * cost k) (releases-punctual i k t (omega arith)))

      pub own_accesses-punctual : own_accesses b R i ≡ punctual_own_accesses b R i
      unfolding own_accesses punctual_own_accesses
      own_accesses-punctual = own_costs-punctual (memory_demand b i) (i + 1) (omega arith)

      pub higher_work-punctual : higher_work b R i ≡ punctual_higher_work b R i
      unfolding higher_work punctual_higher_work
      higher_work-punctual = own_costs-punctual (task_pd b) i (omega arith)

      -- A(n, y)
      every : core_accesses b R t (lowest b) ≡ punctual_core_accesses b R t (lowest b)
      every = core_accesses-punctual t (lowest b) (omega arith)

      pub interference-punctual : (c : ℕ) → interference b R i c ≡ punctual_interference b R i c
      unfolding interference punctual_interference
      interference-punctual zero = rw (core_accesses-punctual t i task, lower_accesses-punctual t i, own_accesses-punctual)
      interference-punctual (suc zero) = rw (every, own_accesses-punctual)
      interference-punctual (suc (suc zero)) = rw every
      interference-punctual (suc (suc (suc zero))) = rw (every, own_accesses-punctual)
      interference-punctual (suc (suc (suc (suc m)))) = rw own_accesses-punctual

      pub bus_accesses-punctual : bus_accesses b R i ≡ punctual_bus_accesses b R i
      unfolding bus_accesses punctual_bus_accesses
      bus_accesses-punctual = rw (own_accesses-punctual, interference-punctual)

      pub refreshes-punctual : (c : ℕ) → refreshes b R i c ≡ punctual_refreshes b R i c
      unfolding refreshes punctual_refreshes
      refreshes-punctual zero = refl
      refreshes-punctual (suc zero) = refl
      refreshes-punctual (suc (suc m)) = rw bus_accesses-punctual

      -- the sum, at any times
      pub task_sum-punctual : task_sum b R i ≡ punctual_sum b R i
      unfolding task_sum punctual_sum
      task_sum-punctual = rw (higher_work-punctual, bus_accesses-punctual, refreshes-punctual)
