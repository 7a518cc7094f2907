-- How times of K1 to K8 are made up (document 02, change 5), as a theorem about the definitions that the contracts of the call and of its page cite, by computation.
-- Assumes nothing.
use Rattle.std.specs.Prelude.{ℕ, ◌/◌, ◌%◌, List, [], ◌∷◌, ◌≡◌, refl, set, Result, Ok}
use Rattle.folds.specs.Folds.{ceil_div, sum_to, max_to, count_to, any_to, first_from, first_largest, tabulate, join_to, same_list}
use Rattle.board.specs.Layout.{first_trace, first_instruction}
use Rattle.ranges.specs.Ranges.{header_ranges, header_ok, task_ranges, task_ok, work_ok}
use Rattle.refusals.specs.Refusals.{refuse_unless, first_bad, refuse_first, refusal_of}
use Rattle.trace.specs.Traces.{trace_of, loads, trace_pd, bus_loads, trace_md, evicts, useful, useful_at, most_useful}
use Rattle.figures.specs.Figures.{task_pd, task_md, evicting}
use Rattle.figures.specs.Overhead.{evicted_by, reloads, γ}
use Rattle.sums.specs.Sums.{added_jitter, memory_demand, own_accesses, carry_in, core_accesses, lower_accesses, interference, bus_accesses, refreshes, higher_work, task_sum}
use Rattle.sums.specs.SixParts.{six_parts, total, reason}
use Rattle.sums.specs.Cases.{K1, K4, K5, K6, K8_put_off}
use Rattle.passes.specs.Passes.{pass, times_by, unchanged, changes, passes_by, settled_by}
use Rattle.interference.specs.Parts.{sum_parts}
use Rattle.checks.specs.CallRefusals.{make_up_refusal}
use Rattle.refusals.specs.declared.Refusal.{Refusal}
use Rattle.refusals.specs.declared.Row.TheVariants.{FiguresTable, HeaderWord, Scratch, TaskNumber, TimesBuffer}
use Rattle.answers.specs.PartNumbers.{part_of}
use Rattle.cases.specs.Refused.{refused_by, RowNumbers, row_numbers}
use Rattle.answers.specs.MakeUp.{settled_made_up, make_up_answer}
use Rattle.input.specs.Input.{words_in, input_refusal}
use Rattle.input.specs.Argument.{value_to, number_in}
use Rattle.text.specs.Text.{digits_of, decimal, line}
use Rattle.parts_page.specs.PartsPage.{part_name, made_up_page}
use Rattle.makeup_page.specs.MakeUpPage.{board_made_up, make_up_page}
use Rattle.answers.specs.declared.MadeUp.{MadeUp}
use Rattle.answers.specs.declared.MadeUp.TheVariants.{Parts, Spent}

-- the answer for a task, with buffers that are long enough for two
abbrev made_up : List ℕ → ℕ → Result MadeUp Refusal
made_up b task = make_up_answer b 2 12 2 task

-- the six numbers and the reason
abbrev six : ℕ → ℕ → ℕ → ℕ → ℕ → ℕ → ℕ → Result MadeUp Refusal
six work higher own others blocking refresh k =
    Ok (Parts (record { own_work = work; higher_work = higher; core_accesses = own; other_accesses = others; blocking_access = blocking; refreshes = refresh }) (part_of k))

-- K1 with both tasks on core 1 and 33 cycles of work in task 1
abbrev one_core : List ℕ
one_core = set (set (set (set K1 25 1) 26 100) 27 100) 35 1966080

-- the bytes of the words, the lowest first
abbrev bytes_of : List ℕ → List ℕ
bytes_of [] = []
bytes_of (w ∷ ws) = w % 256 ∷ w / 256 % 256 ∷ w / 65536 % 256 ∷ w / 16777216 ∷ bytes_of ws

-- the page of task 2 of K1
abbrev K1_page : List ℕ
K1_page =
    111 ∷ 119 ∷ 110 ∷ 45 ∷ 119 ∷ 111 ∷ 114 ∷ 107 ∷ 32 ∷ 52 ∷ 10
    ∷ 104 ∷ 105 ∷ 103 ∷ 104 ∷ 101 ∷ 114 ∷ 45 ∷ 119 ∷ 111 ∷ 114 ∷ 107 ∷ 32 ∷ 48 ∷ 10
    ∷ 99 ∷ 111 ∷ 114 ∷ 101 ∷ 45 ∷ 97 ∷ 99 ∷ 99 ∷ 101 ∷ 115 ∷ 115 ∷ 101 ∷ 115 ∷ 32 ∷ 49 ∷ 48 ∷ 10
    ∷ 111 ∷ 116 ∷ 104 ∷ 101 ∷ 114 ∷ 45 ∷ 97 ∷ 99 ∷ 99 ∷ 101 ∷ 115 ∷ 115 ∷ 101 ∷ 115 ∷ 32 ∷ 49 ∷ 48 ∷ 10
    ∷ 98 ∷ 108 ∷ 111 ∷ 99 ∷ 107 ∷ 105 ∷ 110 ∷ 103 ∷ 45 ∷ 97 ∷ 99 ∷ 99 ∷ 101 ∷ 115 ∷ 115 ∷ 32 ∷ 53 ∷ 10
    ∷ 114 ∷ 101 ∷ 102 ∷ 114 ∷ 101 ∷ 115 ∷ 104 ∷ 101 ∷ 115 ∷ 32 ∷ 48 ∷ 10
    ∷ 115 ∷ 117 ∷ 109 ∷ 32 ∷ 50 ∷ 57 ∷ 10
    ∷ 100 ∷ 101 ∷ 97 ∷ 100 ∷ 108 ∷ 105 ∷ 110 ∷ 101 ∷ 32 ∷ 54 ∷ 48 ∷ 10
    ∷ 108 ∷ 97 ∷ 114 ∷ 103 ∷ 101 ∷ 115 ∷ 116 ∷ 45 ∷ 116 ∷ 105 ∷ 109 ∷ 101 ∷ 32 ∷ 54 ∷ 48 ∷ 10
    ∷ 114 ∷ 101 ∷ 97 ∷ 115 ∷ 111 ∷ 110 ∷ 32 ∷ 51 ∷ 32 ∷ 99 ∷ 111 ∷ 114 ∷ 101 ∷ 45 ∷ 97 ∷ 99 ∷ 99 ∷ 101 ∷ 115 ∷ 115 ∷ 101 ∷ 115 ∷ 10
    ∷ []

pub make_up_examples :
    (made_up K1 1 ≡ six 5 0 15 10 5 0 3)
    × (made_up K1 2 ≡ six 4 0 10 10 5 0 3)
    × (made_up K4 1 ≡ six 5 0 15 10 5 0 3)
    × (made_up K4 2 ≡ six 4 0 10 10 5 0 3)
    × (made_up (K5 3) 1 ≡ Ok Spent)
    × (made_up (K5 4) 1 ≡ six 5 0 15 10 5 0 3)
    × (made_up (K6 2) 2 ≡ six 4 0 10 15 5 0 4)
    × (made_up (K8_put_off 8) 2 ≡ six 4 0 10 10 5 15 6)
    × (made_up one_core 2 ≡ six 4 33 25 0 5 0 2)
    × (made_up K1 0 ≡ refused_by TaskNumber 0)
    × (made_up K1 3 ≡ refused_by TaskNumber 3)
    × (make_up_answer K1 1 11 1 3 ≡ refused_by TaskNumber 3)
    × (make_up_answer K1 1 11 1 2 ≡ refused_by TimesBuffer 1)
    × (make_up_answer K1 2 11 1 2 ≡ refused_by Scratch 11)
    × (make_up_answer K1 2 12 1 2 ≡ refused_by FiguresTable 1)
    × (make_up_answer (set K1 12 0) 1 11 1 3 ≡ refused_by HeaderWord 12)
    × (make_up_page (50 ∷ []) (bytes_of K1) ≡ K1_page)
    × RowNumbers
unfolding ceil_div sum_to max_to count_to any_to first_from first_largest tabulate same_list first_trace first_instruction header_ranges header_ok task_ranges task_ok work_ok refuse_unless first_bad refuse_first refusal_of trace_of loads trace_pd bus_loads trace_md evicts useful useful_at most_useful task_pd task_md evicting evicted_by reloads γ added_jitter memory_demand own_accesses carry_in core_accesses lower_accesses interference bus_accesses refreshes higher_work task_sum six_parts reason pass times_by unchanged changes passes_by settled_by sum_parts make_up_refusal settled_made_up make_up_answer words_in input_refusal value_to number_in total digits_of decimal line join_to part_name made_up_page board_made_up make_up_page
make_up_examples = (refl, refl, refl, refl, refl, refl, refl, refl, refl, refl, refl, refl, refl, refl, refl, refl, refl, row_numbers)
