-- K1 with releases that may be late (document 02, change 7), as a theorem about the definitions that the contracts cite, by computation.
-- Assumes nothing.
use Rattle.std.specs.Prelude.{ℕ, List, [], ◌∷◌, ◌≡◌, refl, set, Result, Ok}
use Rattle.folds.specs.Folds.{ceil_div, sum_to, max_to, count_to, any_to, first_from, first_largest, tabulate, fill_to, same_list}
use Rattle.board.specs.Layout.{first_trace, first_instruction}
use Rattle.ranges.specs.Ranges.{header_ranges, header_ok, task_ranges, task_ok, work_ok}
use Rattle.refusals.specs.Refusals.{refuse_unless, first_bad, refuse_first, refusal_of}
use Rattle.trace.specs.Traces.{trace_of, loads, trace_pd, bus_loads, trace_md, evicts, useful, useful_at, most_useful}
use Rattle.figures.specs.Figures.{task_pd, task_md, evicting}
use Rattle.figures.specs.Overhead.{evicted_by, reloads, γ}
use Rattle.sums.specs.Sums.{added_jitter, memory_demand, own_accesses, carry_in, core_accesses, lower_accesses, interference, bus_accesses, refreshes, higher_work, task_sum}
use Rattle.sums.specs.SixParts.{six_parts, total, reason}
use Rattle.sums.specs.Cases.{K7, K1_jitter, K1_one_core}
use Rattle.passes.specs.Passes.{pass, times_by, unchanged, changes, passes_by, settled_by, first_late}
use Rattle.interference.specs.Parts.{sum_parts}
use Rattle.checks.specs.CallRefusals.{weigh_refusal, analyse_refusal, make_up_refusal}
use Rattle.refusals.specs.declared.Refusal.{Refusal}
use Rattle.refusals.specs.declared.Row.TheVariants.{GivenTime, TaskWord}
use Rattle.answers.specs.PartNumbers.{part_of}
use Rattle.cases.specs.Refused.{refused_by, RowNumbers, row_numbers}
use Rattle.answers.specs.Answers.{weigh_answer, settled_answer, analyse_answer, times_left, times_after}
use Rattle.answers.specs.MakeUp.{settled_made_up, make_up_answer}
use Rattle.text.specs.Text.{digits_of, decimal, line}
use Rattle.parts_page.specs.PartsPage.{part_name, last_lines}
use Rattle.answers.specs.declared.Answer.{Answer}
use Rattle.answers.specs.declared.Answer.TheVariants.{Times, Late}
use Rattle.answers.specs.declared.MadeUp.TheVariants.{Parts}

-- Analyse's answer, with buffers that are long enough for two tasks
abbrev answer : List ℕ → Result Answer Refusal
answer b = analyse_answer b 2 12 2

-- times, with these passes
abbrev Settles : List ℕ → ℕ → ℕ → ℕ → Type 0
Settles b time1 time2 passes = (answer b ≡ Ok (Times passes)) × (times_after b (answer b) (0 ∷ 0 ∷ []) ≡ time1 ∷ time2 ∷ [])

-- the six numbers of a task, and the reason
abbrev MadeOf : List ℕ → ℕ → ℕ → ℕ → ℕ → ℕ → ℕ → ℕ → ℕ → Type 0
MadeOf b task work higher own others blocking refresh k =
    make_up_answer b 2 12 2 task ≡ Ok (Parts (record { own_work = work; higher_work = higher; core_accesses = own; other_accesses = others; blocking_access = blocking; refreshes = refresh }) (part_of k))

-- "sum 35", "deadline 100", "largest-time 34", "reason 3 core-accesses", each ended by byte 10
abbrev late_lines : List ℕ
late_lines =
    115 ∷ 117 ∷ 109 ∷ 32 ∷ 51 ∷ 53 ∷ 10
    ∷ 100 ∷ 101 ∷ 97 ∷ 100 ∷ 108 ∷ 105 ∷ 110 ∷ 101 ∷ 32 ∷ 49 ∷ 48 ∷ 48 ∷ 10
    ∷ 108 ∷ 97 ∷ 114 ∷ 103 ∷ 101 ∷ 115 ∷ 116 ∷ 45 ∷ 116 ∷ 105 ∷ 109 ∷ 101 ∷ 32 ∷ 51 ∷ 52 ∷ 10
    ∷ 114 ∷ 101 ∷ 97 ∷ 115 ∷ 111 ∷ 110 ∷ 32 ∷ 51 ∷ 32 ∷ 99 ∷ 111 ∷ 114 ∷ 101 ∷ 45 ∷ 97 ∷ 99 ∷ 99 ∷ 101 ∷ 115 ∷ 115 ∷ 101 ∷ 115 ∷ 10
    ∷ []

pub jitter_examples :
    -- J_2 lets task 2 reach into a second period once t + R_2 + J_2 - 10 passes 60
    Settles (K1_jitter 0 6) 35 29 4
    × Settles (K1_jitter 0 7) 40 29 5
    -- late above D - J; J = D leaves 0, and the task is late
    × Settles (K1_jitter 65 0) 35 29 3
    × (answer (K1_jitter 66 0) ≡ Ok (Late 1 3))
    × (answer (K1_jitter 100 0) ≡ Ok (Late 1 3))
    × (answer (K1_jitter 0 60) ≡ Ok (Late 2 3))
    -- J above D, and D below T
    × (answer (K1_jitter 101 0) ≡ refused_by TaskWord 24)
    × (answer (K1_jitter 0 61) ≡ refused_by TaskWord 29)
    × (answer (set (K1_jitter 36 0) 22 35) ≡ refused_by TaskWord 24)
    -- on one core: two releases of task 1 once t + J_1 passes 100; J_2 is no part of task 2's own count
    × Settles (K1_one_core 61 0) 25 39 3
    × Settles (K1_one_core 62 0) 25 59 4
    × Settles (K1_one_core 62 1) 25 59 4
    × (answer (K1_one_core 62 2) ≡ Ok (Late 2 4))
    -- the slots of TDMA do not wait for releases
    × Settles (set K7 29 31) 40 29 3
    × (answer (set K7 29 32) ≡ Ok (Late 2 3))
    -- Weigh takes times up to D - J + 1
    × (weigh_answer (K1_jitter 40 10) (61 ∷ 51 ∷ []) 1 ≡ Ok 40)
    × (weigh_answer (K1_jitter 40 10) (62 ∷ 51 ∷ []) 1 ≡ refused_by GivenTime 0)
    × (weigh_answer (K1_jitter 40 10) (61 ∷ 52 ∷ []) 1 ≡ refused_by GivenTime 1)
    -- six numbers that add up to 35, above D - J and below D
    × MadeOf (K1_jitter 66 0) 1 5 0 15 10 5 0 3
    × MadeOf (K1_jitter 100 0) 1 5 0 15 10 5 0 3
    × MadeOf (K1_one_core 62 2) 2 4 10 40 0 5 0 3
    × (last_lines (K1_jitter 66 0) 0 (5 ∷ 0 ∷ 15 ∷ 10 ∷ 5 ∷ 0 ∷ []) 3 ≡ late_lines)
    × RowNumbers
unfolding ceil_div sum_to max_to count_to any_to first_from first_largest tabulate fill_to same_list first_trace first_instruction header_ranges header_ok task_ranges task_ok work_ok refuse_unless first_bad refuse_first refusal_of trace_of loads trace_pd bus_loads trace_md evicts useful useful_at most_useful task_pd task_md evicting evicted_by reloads γ added_jitter memory_demand own_accesses carry_in core_accesses lower_accesses interference bus_accesses refreshes higher_work task_sum six_parts reason pass times_by unchanged changes passes_by settled_by first_late sum_parts weigh_refusal analyse_refusal make_up_refusal weigh_answer settled_answer analyse_answer times_left settled_made_up make_up_answer total digits_of decimal line part_name
jitter_examples = ((refl, refl), (refl, refl), (refl, refl), refl, refl, refl, refl, refl, refl, (refl, refl), (refl, refl), (refl, refl), refl, (refl, refl), refl, refl, refl, refl, refl, refl, refl, refl, row_numbers)
