-- A task's sum where all times are 0, as in the first pass, and no release is late: its own work, the one access under way, and one refresh where a
-- distributed memory puts some off.
-- Assumes nothing.
use Prim.Native.Nat.{ℕ, zero, suc, ◌+◌, ◌-◌, ◌*◌, ◌/◌, ◌%◌, ◌≤◌, ◌<◌, min}
use mathlib.Core.Bool.{Bool}
use mathlib.Core.List.{List}
use mathlib.Core.Path.{◌≡◌, ap, ◌∙◌}
use native.Mathlib.Nat.{div-le_self, div-add-mod'}
use native.Mathlib.Omega.{arith}
use lib.ListN.{get_or}
use Rattle.folds.specs.Folds.{ceil_div}
use Rattle.folds.proofs.Numbers.{ceil_div-self}
use Rattle.folds.proofs.Folds.{sum_where-zero}
use Rattle.board.specs.Layout.{cores, tasks, bus, slots_each, slots, access_cycles, refresh, refresh_interval, refresh_rows, refresh_cycles, put_off, core, period}
use Rattle.figures.specs.Figures.{task_pd}
use Rattle.sums.specs.Sums.{lowest, added_jitter, memory_demand, is_other, is_before, over_cores, window, own_accesses, carry_in, core_accesses, interference, bus_accesses, refreshes, higher_work, task_sum}
use Rattle.sums.specs.Punctual.{Punctual}
use Rattle.sums.specs.Links.{is_on}
use Rattle.sums.specs.Inputs.{release_cost, own_costs}
use Rattle.sums.proofs.Jitter.{added_jitter-few}
use Rattle.sums.proofs.PutOff.{refreshes-zero}

module _ (b R : List ℕ) (punctual : Punctual b) (zeros : (k : ℕ) → get_or R k 0 ≡ 0) where
  -- none of another core: W and A
  carry_in-zero : (i j k : ℕ) → k < tasks b → carry_in b R (get_or R i 0) j k ≡ 0
  unfolding carry_in
  carry_in-zero i j k h =
      let u = window b R (get_or R i 0) j k in
      let T = period b k in
      let empty : u ≡ 0 = omega (arith, zeros i, zeros k, punctual k h) in
      let whole : u / T ≡ 0 = omega (arith, div-le_self u T) in
      let rest : u % T ≡ 0 = omega (arith, div-add-mod' u T) in
      omega (arith, ap (λ (q : ℕ). memory_demand b j k * q) whole, ceil_div-self (u % T) (access_cycles b))

  core_accesses-zero : (i j : ℕ) → j < tasks b → (y : ℕ) → core_accesses b R (get_or R i 0) j y ≡ 0
  unfolding core_accesses
  core_accesses-zero i j l y = sum_where-zero (is_on b y) (carry_in b R (get_or R i 0) j) (j + 1) (λ k h. carry_in-zero i j k (omega arith))

  over_cores-zero : (test : ℕ → Bool) (f : ℕ → ℕ) → ((y : ℕ) → f y ≡ 0) → over_cores b test f ≡ 0
  over_cores-zero test f all = sum_where-zero (λ y. test (y + 1)) (λ y. f (y + 1)) (cores b) (λ y h. all (y + 1))

  module _ (i : ℕ) (task : i < tasks b) where
    -- nothing is released, and no interval begins
    begun : (t T cost : ℕ) → t ≡ 0 → ceil_div t T * cost ≡ 0
    begun t T cost none =
        let none_yet : ceil_div t T ≡ 0 = omega (arith, ceil_div-self t T) in
        omega (arith, ap (λ (n : ℕ). n * cost) none_yet)

    own_costs-zero : (cost : ℕ → ℕ) (n : ℕ) → n ≤ i + 1 → own_costs b R i cost n ≡ 0
    own_costs-zero cost n few =
        sum_where-zero (is_on b (core b i)) (release_cost b R i cost) n
        (λ k h. begun (get_or R i 0 + added_jitter b i k) (period b k) (cost k) (omega (arith, zeros i, added_jitter-few b i k, punctual k (omega arith))))

    own_accesses-zero : own_accesses b R i ≡ 0
    unfolding own_accesses
    own_accesses-zero = own_costs-zero (memory_demand b i) (i + 1) (omega arith)

    higher_work-zero : higher_work b R i ≡ 0
    unfolding higher_work
    higher_work-zero = own_costs-zero (task_pd b) i (omega arith)

    -- A(n, y)
    abbrev A : ℕ → ℕ
    A y = core_accesses b R (get_or R i 0) (lowest b) y

    everyone-zero : (y : ℕ) → A y ≡ 0
    everyone-zero = core_accesses-zero i (lowest b) (omega arith)

    interference-zero : (c : ℕ) → interference b R i c ≡ 0
    unfolding interference
    interference-zero zero =
        omega (
          arith,
          own_accesses-zero,
          over_cores-zero (is_other (core b i)) (λ y. core_accesses b R (get_or R i 0) i y) (core_accesses-zero i i task),
        )
    interference-zero (suc zero) = omega (arith, own_accesses-zero, over_cores-zero (is_before (core b i)) A everyone-zero)
    interference-zero (suc (suc zero)) = over_cores-zero (is_other (core b i)) A everyone-zero
    interference-zero (suc (suc (suc zero))) =
        over_cores-zero (is_other (core b i)) (λ y. min (A y) (slots b y * own_accesses b R i)) (λ y. omega (arith, everyone-zero y))
    interference-zero (suc (suc (suc (suc c)))) = omega (arith, ap (λ (s : ℕ). (cores b - 1) * slots_each b * s) own_accesses-zero)

    pub bus_accesses-zero : bus_accesses b R i ≡ 1
    unfolding bus_accesses
    bus_accesses-zero = omega (arith, own_accesses-zero, interference-zero (bus b))

    pub burst-zero : refreshes b R i 1 ≡ 0
    unfolding refreshes
    burst-zero = begun (get_or R i 0) (refresh_interval b) (refresh_rows b) (zeros i)

    pub distributed-zero : refreshes b R i 2 ≡ min 1 (put_off b)
    distributed-zero = refreshes-zero b R i (zeros i) ∙ ap (λ (n : ℕ). min n (put_off b)) bus_accesses-zero

    pub task_sum-zero : task_sum b R i ≡ task_pd b i + access_cycles b + refreshes b R i (refresh b) * refresh_cycles b
    unfolding task_sum
    task_sum-zero = omega (arith, higher_work-zero, ap (λ (n : ℕ). n * access_cycles b) bus_accesses-zero)
