-- The sums of K1 to K8 at their settled times, of K8 with refreshes put off and of K1 with jitter, by computation: each is its time. How some of them are made up,
-- with each of the six parts as the reason once, and equal ones.
-- Assumes nothing.
use Prim.Native.Nat.{ℕ, ◌*◌}
use mathlib.Core.List.{List, [], ◌∷◌}
use mathlib.Core.Path.{◌≡◌, refl}
use lib.ListN.{set}
use Rattle.folds.specs.Folds.{ceil_div, sum_to, max_to, count_to, any_to, first_from, first_largest}
use Rattle.board.specs.Layout.{first_trace, first_instruction}
use Rattle.trace.specs.Traces.{trace_of, loads, trace_pd, bus_loads, trace_md, evicts, useful, useful_at, most_useful}
use Rattle.figures.specs.Figures.{task_pd, task_md, evicting}
use Rattle.figures.specs.Overhead.{evicted_by, reloads, γ}
use Rattle.sums.specs.Sums.{added_jitter, memory_demand, own_accesses, carry_in, core_accesses, lower_accesses, interference, bus_accesses, refreshes, higher_work, task_sum}
use Rattle.sums.specs.SixParts.{six_parts, reason}
use Rattle.sums.specs.Cases.{K1, K2, K6, K7, K8, K8_put_off, K1_jitter, K1_one_core}

-- at these two times each sum is its time
abbrev Stands : List ℕ → ℕ → ℕ → Type 0
Stands b time1 time2 = let R = time1 ∷ time2 ∷ [] in (task_sum b R 0 ≡ time1) × (task_sum b R 1 ≡ time2)

pub cases :
    Stands K1 35 29
    × Stands K2 40 29
    × Stands (K6 2) 35 34
    × Stands (K6 0) 35 34
    × Stands (K6 1) 35 34
    × Stands K7 40 29
    × Stands K8 49 35
    × Stands (K8_put_off 1) 52 38
    × Stands (K8_put_off 8) 61 44
    × Stands (K1_jitter 0 6) 35 29
    × Stands (K1_jitter 0 7) 40 29
    × Stands (K1_jitter 65 0) 35 29
    × Stands (K1_one_core 61 0) 25 39
    × Stands (K1_one_core 62 1) 25 59
unfolding ceil_div sum_to max_to count_to any_to first_from first_trace first_instruction trace_of loads trace_pd bus_loads trace_md evicts useful useful_at most_useful task_pd task_md evicting evicted_by reloads γ added_jitter memory_demand own_accesses carry_in core_accesses lower_accesses interference bus_accesses refreshes higher_work task_sum
cases = ((refl, refl), (refl, refl), (refl, refl), (refl, refl), (refl, refl), (refl, refl), (refl, refl), (refl, refl), (refl, refl), (refl, refl), (refl, refl), (refl, refl), (refl, refl), (refl, refl))

-- the sum of task 1 at these two times
abbrev Sums1 : List ℕ → ℕ → ℕ → ℕ → Type 0
Sums1 b time1 time2 sum = task_sum b (time1 ∷ time2 ∷ []) 0 ≡ sum

-- J_2 opens a window once it is more than D' × d = 10, at times 0 too; J_1 does not touch task 1's own count, at time 0 and past its bound
pub jitters :
    Sums1 (set (K6 2) 29 10) 0 0 10
    × Sums1 (set (K6 2) 29 11) 0 0 15
    × Sums1 (set (K6 2) 29 16) 0 0 20
    × Sums1 (K1_jitter 1 0) 0 0 10
    × Sums1 (K1_jitter 40 10) 61 51 40
unfolding ceil_div sum_to max_to count_to first_trace first_instruction trace_of loads trace_pd bus_loads trace_md task_pd task_md γ added_jitter memory_demand own_accesses carry_in core_accesses lower_accesses interference bus_accesses refreshes higher_work task_sum
jitters = (refl, refl, refl, refl, refl)

-- task i at these two times: the six parts, and the reason
abbrev Made : List ℕ → ℕ → ℕ → ℕ → List ℕ → ℕ → Type 0
Made b time1 time2 i parts k = (six_parts b (time1 ∷ time2 ∷ []) i ≡ parts) × (reason parts ≡ k)

-- K1 where the first instruction takes so many cycles more
abbrev longer : ℕ → List ℕ
longer Δ = set K1 35 (Δ * 65536)

-- the same with both tasks on one core
abbrev one_core : ℕ → List ℕ
one_core Δ = set (longer Δ) 25 1

pub made :
    Made K1 35 29 0 (5 ∷ 0 ∷ 15 ∷ 10 ∷ 5 ∷ 0 ∷ []) 3
    × Made K1 35 29 1 (4 ∷ 0 ∷ 10 ∷ 10 ∷ 5 ∷ 0 ∷ []) 3
    × Made K2 40 29 0 (5 ∷ 0 ∷ 15 ∷ 15 ∷ 5 ∷ 0 ∷ []) 3
    × Made (K6 2) 35 34 1 (4 ∷ 0 ∷ 10 ∷ 15 ∷ 5 ∷ 0 ∷ []) 4
    × Made K8 49 35 0 (5 ∷ 0 ∷ 15 ∷ 15 ∷ 5 ∷ 9 ∷ []) 3
    × Made K8 49 35 1 (4 ∷ 0 ∷ 10 ∷ 10 ∷ 5 ∷ 6 ∷ []) 3
    × Made (K8_put_off 8) 61 44 0 (5 ∷ 0 ∷ 15 ∷ 15 ∷ 5 ∷ 21 ∷ []) 6
    × Made (longer 20) 58 29 0 (23 ∷ 0 ∷ 15 ∷ 15 ∷ 5 ∷ 0 ∷ []) 1
    × Made (one_core 30) 10 50 1 (4 ∷ 33 ∷ 25 ∷ 0 ∷ 5 ∷ 0 ∷ []) 2
    × Made K1 0 0 0 (5 ∷ 0 ∷ 0 ∷ 0 ∷ 5 ∷ 0 ∷ []) 1
    × Made K1 0 0 1 (4 ∷ 0 ∷ 0 ∷ 0 ∷ 5 ∷ 0 ∷ []) 5
unfolding ceil_div sum_to max_to count_to any_to first_from first_largest first_trace first_instruction trace_of loads trace_pd bus_loads trace_md evicts useful useful_at most_useful task_pd task_md evicting evicted_by reloads γ added_jitter memory_demand own_accesses carry_in core_accesses lower_accesses interference bus_accesses refreshes higher_work six_parts reason
made = ((refl, refl), (refl, refl), (refl, refl), (refl, refl), (refl, refl), (refl, refl), (refl, refl), (refl, refl), (refl, refl), (refl, refl), (refl, refl))
