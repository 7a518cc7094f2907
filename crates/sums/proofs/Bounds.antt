-- A task's sum is below 2^64 on every board that passes its checks, at times of at most D − J + 1, on every bus and with every refresh. It is at least d.
-- Assumes nothing.
use Prim.Native.Nat.{ℕ, zero, suc, ◌+◌, ◌-◌, ◌*◌, ◌/◌, ◌^◌, ◌≤◌, ◌<◌, min}
use mathlib.Core.Bool.{Bool}
use mathlib.Core.List.{List}
use mathlib.Core.Logic.{⊎_elim}
use mathlib.Core.Path.{◌≡◌, ap}
use native.Mathlib.Nat.{le_trans, le_refl, add-mul, one-mul, mul-div_cancel, mul-le-mul}
use native.Mathlib.Omega.{arith}
use lib.Dec.{eqb}
use lib.ListN.{get_or}
use Rattle.folds.specs.Folds.{ceil_div, sum_where}
use Rattle.folds.proofs.Numbers.{le-or-lt, ceil_div-self}
use Rattle.folds.proofs.Folds.{sum_where-bound}
use Rattle.board.specs.Layout.{most_tasks, longest, most_refresh_rows, cores, tasks, bus, slots_each, slots, access_cycles, refresh, refresh_interval, refresh_rows, refresh_cycles, core, period, jitter}
use Rattle.board.specs.Sound.{Sound}
use Rattle.figures.specs.Figures.{task_pd}
use Rattle.figures.proofs.Overhead.{γ-bound}
use Rattle.figures.proofs.Bounds.{task_pd-bound, task_md-bound}
use Rattle.sums.specs.Sums.{lowest, added_jitter, releases, memory_demand, is_other, is_before, is_after, over_cores, window, own_accesses, carry_in, core_accesses, interference, bus_accesses, refreshes, higher_work, task_sum}
use Rattle.sums.specs.Limits.{most_cores, most_slots, longest_access, latest_time, most_work, most_demand, most_releases, longest_window, most_carry_in, most_own_accesses, most_higher_work, most_accesses, most_interference, most_bus_accesses}
use Rattle.sums.specs.Inputs.{CappedTimes, own_costs}
use Rattle.sums.proofs.Jitter.{added_jitter-few}
use Rattle.sums.proofs.Rising.{carry-mono}

-- a sum of at most l terms
pub where-bound : (n l m : ℕ) (test : ℕ → Bool) (f : ℕ → ℕ) → n ≤ l → ((k : ℕ) → k < n → f k ≤ m) → sum_where test f n ≤ l * m
where-bound n l m test f h all = le_trans (sum_where-bound test f n m all) (mul-le-mul h (le_refl m))

-- D'(j, k): MD of 1,024 instructions, and the reloads of 512 sets of eight ways
pub demand-bound : (b : List ℕ) → Sound b → (j k : ℕ) → k < tasks b → memory_demand b j k ≤ most_demand
unfolding memory_demand
demand-bound b s j k h = omega (arith, task_md-bound b s k h, γ-bound b s j k)

pub work-bound : (b : List ℕ) → Sound b → (k : ℕ) → k < tasks b → task_pd b k ≤ most_work
work-bound b s k h = omega (arith, task_pd-bound b s k h)

-- D − J + 1, and D + 1 with J
pub time-bound : (b R : List ℕ) → Sound b → CappedTimes b R → (k : ℕ) → k < tasks b → get_or R k 0 ≤ latest_time
time-bound b R s times k h = omega (arith, times.short k h, (s.deadline k h).1, (s.period k h).1)

pub jittered-bound : (b R : List ℕ) → Sound b → CappedTimes b R → (k : ℕ) → k < tasks b → get_or R k 0 + jitter b k ≤ latest_time
jittered-bound b R s times k h = omega (arith, times.short k h, s.jitter k h, (s.deadline k h).1, (s.period k h).1)

jitter-bound : (b : List ℕ) → Sound b → (i k : ℕ) → k < tasks b → added_jitter b i k ≤ longest
jitter-bound b s i k h = omega (arith, added_jitter-few b i k, s.jitter k h, (s.deadline k h).1, (s.period k h).1)

-- the one access under way
pub task_sum-least : (b R : List ℕ) (i : ℕ) → access_cycles b ≤ task_sum b R i
unfolding task_sum bus_accesses
task_sum-least b R i = omega (arith, add-mul (own_accesses b R i + interference b R i (bus b)) 1 (access_cycles b), one-mul (access_cycles b))

slots-bound : (b : List ℕ) → Sound b → slots_each b ≤ most_slots
slots-bound b s = ⊎_elim (λ (h : 3 ≤ bus b). (s.slots h).1) (λ (h : bus b < 3). omega (arith, s.no_slots h)) (le-or-lt 3 (bus b))

rows_bound : (b : List ℕ) → Sound b → refresh_rows b ≤ most_refresh_rows
rows_bound b s = ⊎_elim (λ (h : 1 ≤ refresh b). (s.rows h).1) (λ (h : refresh b < 1). omega (arith, (s.no_refresh h).1)) (le-or-lt 1 (refresh b))

module _ (b R : List ℕ) (s : Sound b) (times : CappedTimes b R) where
  -- ---- within t cycles

  module _ (t : ℕ) (early : t ≤ latest_time) where
    -- W rises with its window, which is at most `longest_window` periods
    pub carry_in-bound : (j k : ℕ) → k < tasks b → carry_in b R t j k ≤ most_carry_in
    unfolding carry_in
    carry_in-bound j k h =
        let m = memory_demand b j k in
        let T = period b k in
        let most : longest_window * T / T ≡ longest_window = mul-div_cancel longest_window (s.period k h).0 in
        omega (
          arith,
          carry-mono m T (access_cycles b) (window b R t j k) (longest_window * T) (omega (arith, jittered-bound b R s times k h, (s.period k h).0)),
          ap (λ (q : ℕ). m * q) most,
          demand-bound b s j k h,
        )

    pub core_accesses-bound : (j y : ℕ) → j < tasks b → core_accesses b R t j y ≤ most_accesses
    unfolding core_accesses
    core_accesses-bound j y h =
        where-bound (j + 1) most_tasks most_carry_in (λ k. eqb (core b k) y) _ (omega (arith, s.tasks.1)) (λ k l. carry_in-bound j k (omega arith))

  -- a sum over cores of what is at most A's bound
  over_cores-bound : (test : ℕ → Bool) (f : ℕ → ℕ) → ((y : ℕ) → f y ≤ most_accesses) → over_cores b test f ≤ most_cores * most_accesses
  over_cores-bound test f all = where-bound (cores b) most_cores most_accesses (λ y. test (y + 1)) _ s.cores.1 (λ y h. all (y + 1))

  -- ---- of task i

  module _ (i : ℕ) (task : i < tasks b) where
    late : get_or R i 0 ≤ latest_time
    late = time-bound b R s times i task

    releases-bound : (k : ℕ) → k < tasks b → releases b i k (get_or R i 0) ≤ most_releases
    releases-bound k h = le_trans (ceil_div-self (get_or R i 0 + added_jitter b i k) (period b k)) (omega (arith, late, jitter-bound b s i k h))

    -- the releases of the tasks below n on its core, at a cost of at most m each
    pub own_costs-bound : (cost : ℕ → ℕ) (m n : ℕ) → n ≤ i + 1 → ((k : ℕ) → k < tasks b → cost k ≤ m)
        → own_costs b R i cost n ≤ most_tasks * (most_releases * m)
    own_costs-bound cost m n few small =
        where-bound n most_tasks (most_releases * m) (λ k. eqb (core b k) (core b i)) _ (omega (arith, s.tasks.1))
        (λ k h. mul-le-mul (releases-bound k (omega arith)) (small k (omega arith)))

    pub own_accesses-bound : own_accesses b R i ≤ most_own_accesses
    unfolding own_accesses
    own_accesses-bound = own_costs-bound (memory_demand b i) most_demand _ (omega arith) (demand-bound b s i)

    higher_work-bound : higher_work b R i ≤ most_higher_work
    unfolding higher_work
    higher_work-bound = own_costs-bound (task_pd b) most_work _ (omega arith) (work-bound b s)

    -- A(n, y)
    abbrev A : ℕ → ℕ
    A y = core_accesses b R (get_or R i 0) (lowest b) y

    everyone-bound : (y : ℕ) → A y ≤ most_accesses
    everyone-bound y = core_accesses-bound (get_or R i 0) late (lowest b) y (omega arith)

    interference-bound : (c : ℕ) → interference b R i c ≤ most_interference
    unfolding interference
    interference-bound zero =
        omega (
          arith,
          own_accesses-bound,
          over_cores-bound (is_other (core b i)) (λ y. core_accesses b R (get_or R i 0) i y) (λ y. core_accesses-bound (get_or R i 0) late i y task),
        )
    interference-bound (suc zero) =
        omega (
          arith,
          own_accesses-bound,
          over_cores-bound (is_before (core b i)) A everyone-bound,
          over_cores-bound (is_after (core b i)) A everyone-bound,
        )
    interference-bound (suc (suc zero)) = omega (arith, over_cores-bound (is_other (core b i)) A everyone-bound)
    interference-bound (suc (suc (suc zero))) =
        omega (
          arith,
          over_cores-bound (is_other (core b i)) (λ y. min (A y) (slots b y * own_accesses b R i)) (λ y. omega (arith, everyone-bound y)),
        )
    interference-bound (suc (suc (suc (suc c)))) =
        omega (
          arith,
          mul-le-mul {n₁ = (cores b - 1) * slots_each b} {m₁ = own_accesses b R i} {n₂ = (most_cores - 1) * most_slots} {m₂ = most_own_accesses}
              (mul-le-mul {n₁ = cores b - 1} {m₁ = slots_each b} {n₂ = most_cores - 1} {m₂ = most_slots} (omega (arith, s.cores.1)) (slots-bound b s)) own_accesses-bound,
        )

    pub bus_accesses-bound : bus_accesses b R i ≤ most_bus_accesses
    unfolding bus_accesses
    bus_accesses-bound = omega (arith, own_accesses-bound, interference-bound (bus b))

    pub refreshes-bound : (c : ℕ) → refreshes b R i c ≤ most_bus_accesses
    unfolding refreshes
    refreshes-bound zero = omega arith
    refreshes-bound (suc zero) =
        omega (
          arith,
          mul-le-mul {n₁ = ceil_div (get_or R i 0) (refresh_interval b)} {m₁ = refresh_rows b} {n₂ = latest_time} {m₂ = most_refresh_rows}
              (le_trans (ceil_div-self (get_or R i 0) (refresh_interval b)) late) (rows_bound b s),
        )
    refreshes-bound (suc (suc c)) = omega (arith, bus_accesses-bound)

    pub task_sum-bound : task_sum b R i < 2 ^ 64
    unfolding task_sum
    task_sum-bound =
        omega (
          arith,
          work-bound b s i task,
          higher_work-bound,
          mul-le-mul {n₁ = bus_accesses b R i} {m₁ = access_cycles b} {n₂ = most_bus_accesses} {m₂ = longest_access} bus_accesses-bound s.access.1,
          mul-le-mul {n₁ = refreshes b R i (refresh b)} {m₁ = refresh_cycles b} {n₂ = most_bus_accesses} {m₂ = longest_access} (refreshes-bound (refresh b)) s.refresh_cycles,
        )
