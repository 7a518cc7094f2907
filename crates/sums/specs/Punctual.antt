-- For the theorems about boards whose releases are punctual: that they are, and the sum as it was before a release could be late. No contract cites these.
-- Assumes nothing.
use Rattle.std.specs.Prelude.{ℕ, zero, suc, ◌+◌, ◌-◌, ◌*◌, ◌/◌, ◌%◌, ◌<◌, min, ◌&&◌, List, ◌≡◌, ltb, eqb}
use Rattle.folds.specs.Folds.{ceil_div, sum_where}
use Rattle.board.specs.Layout.{cores, tasks, bus, slots_each, slots, access_cycles, refresh, refresh_interval, refresh_rows, refresh_cycles, put_off, core, period, jitter}
use Rattle.figures.specs.Figures.{task_pd}
use Rattle.sums.specs.Sums.{lowest, memory_demand, time, own_time, own_core, other_cores, cores_before, cores_after}

-- J = 0 for every task
abbrev pub Punctual : List ℕ → Type 0
Punctual b = (k : ℕ) → k < tasks b → jitter b k ≡ 0

module _ (b R : List ℕ) where
  module _ (t : ℕ) where
    -- u = max(0, t + R_k − D' × d), eq. 24
    abbrev pub punctual_window : ℕ → ℕ → ℕ
    punctual_window j k = t + time b R k - memory_demand b j k * access_cycles b

    -- W(j, k), eq. 25
    unfoldable pub punctual_carry_in : ℕ → ℕ → ℕ
    punctual_carry_in j k =
        memory_demand b j k * (punctual_window j k / period b k)
        + min (memory_demand b j k) (ceil_div (punctual_window j k % period b k) (access_cycles b))

    -- A(j, y), eq. 26
    unfoldable pub punctual_core_accesses : ℕ → ℕ → ℕ
    punctual_core_accesses j y = sum_where (λ k. eqb (core b k) y) (λ k. punctual_carry_in j k) (j + 1)

    -- L(y), eq. 27
    unfoldable pub punctual_lower_accesses : ℕ → ℕ → ℕ
    punctual_lower_accesses i y = sum_where (λ k. ltb i k && eqb (core b k) y) (λ k. punctual_carry_in (lowest b) k) (tasks b)

  module _ (i : ℕ) where
    -- t, and A(j, y) and L(y) within it
    abbrev t : ℕ
    t = own_time b R i

    abbrev A : ℕ → ℕ → ℕ
    A j y = punctual_core_accesses t j y

    abbrev L : ℕ → ℕ
    L y = punctual_lower_accesses t i y

    -- what the releases of the tasks below n on the core of task i cost, at so much each: Σ ceil(t/T_k) × cost_k
    abbrev pub punctual_costs : (ℕ → ℕ) → ℕ → ℕ
    punctual_costs cost n = sum_where (λ k. eqb (core b k) (own_core b R i)) (λ k. ceil_div t (period b k) * cost k) n

    -- S, eq. 23
    unfoldable pub punctual_own_accesses : ℕ
    punctual_own_accesses = punctual_costs (memory_demand b i) (i + 1)

    -- by the bus, eq. 12 to 16
    unfoldable pub punctual_interference : ℕ → ℕ
    punctual_interference zero = other_cores b R i (A i) + min punctual_own_accesses (other_cores b R i L)
    punctual_interference (suc zero) = cores_before b R i (A (lowest b)) + min punctual_own_accesses (cores_after b R i (A (lowest b)))
    punctual_interference (suc (suc zero)) = other_cores b R i (A (lowest b))
    punctual_interference (suc (suc (suc zero))) = other_cores b R i (λ y. min (A (lowest b) y) (slots b y * punctual_own_accesses))
    punctual_interference (suc (suc (suc (suc m)))) = (cores b - 1) * slots_each b * punctual_own_accesses

    -- B
    unfoldable pub punctual_bus_accesses : ℕ
    punctual_bus_accesses = punctual_own_accesses + punctual_interference (bus b) + 1

    -- Q, eq. 29 and 30, with p that are put off
    unfoldable pub punctual_refreshes : ℕ → ℕ
    punctual_refreshes zero = 0
    punctual_refreshes (suc zero) = ceil_div t (refresh_interval b) * refresh_rows b
    punctual_refreshes (suc (suc m)) = min punctual_bus_accesses (ceil_div (t * refresh_rows b) (refresh_interval b) + put_off b)

    -- Σ ceil(t/T_k) × PD_k over k < i on x, eq. 18
    unfoldable pub punctual_higher_work : ℕ
    punctual_higher_work = punctual_costs (task_pd b) i

    -- Sum_i, eq. 32
    unfoldable pub punctual_sum : ℕ
    punctual_sum = task_pd b i + punctual_higher_work + punctual_bus_accesses * access_cycles b + punctual_refreshes (refresh b) * refresh_cycles b
