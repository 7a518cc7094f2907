-- K1 to K11, the worked examples of document 01, and small examples of document 02's requests (K1 in a chosen order, caches with several ways, K8 with
-- refreshes put off, a code cache and a data cache), as one theorem about the definitions that the calls' contracts cite, by computation.
-- Assumes nothing.
use Rattle.std.specs.Prelude.{ℕ, suc, ◌+◌, ◌*◌, ◌/◌, ◌%◌, List, [], ◌∷◌, ◌++◌, map, ◌≡◌, refl, leb, length, set, Result, Ok}
use Rattle.folds.specs.Folds.{ceil_div, sum_to, max_to, count_to, any_to, first_from, tabulate, join_to, fill_to, same_list}
use Rattle.bitset.specs.Bits.{word_of, words_of}
use Rattle.board.specs.Layout.{first_trace, first_instruction, most_sets}
use Rattle.ranges.specs.Ranges.{header_ranges, header_ok, task_ranges, task_ok, work_ok}
use Rattle.refusals.specs.Refusals.{refuse_unless, first_bad, refuse_first, refusal_of}
use Rattle.lru_cache.specs.Recency.{among, without, count_in, some_in, recent, hits, miss_count, next_hits, useful_in}
use Rattle.trace.specs.Cache.{place_of}
use Rattle.trace.specs.Traces.{trace_of, loads, trace_pd, bus_loads, trace_md, evicts, useful, useful_at, most_useful}
use Rattle.figures.specs.Figures.{task_pd, task_md, evicting, figure_of}
use Rattle.figures.specs.Overhead.{evicted_by, reloads, γ}
use Rattle.sums.specs.Sums.{added_jitter, memory_demand, own_accesses, carry_in, core_accesses, lower_accesses, interference, bus_accesses, refreshes, higher_work, task_sum}
use Rattle.sums.specs.Cases.{K1, K2, K3, K4, K5, K6, K7, K8, K8_put_off}
use Rattle.passes.specs.Passes.{pass, times_by, unchanged, changes, passes_by, settled_by, first_late}
use Rattle.passes.specs.Visits.{in_turn}
use Rattle.checks.specs.CallRefusals.{figures_refusal, overhead_refusal, analyse_refusal, in_order_refusal}
use Rattle.refusals.specs.declared.Refusal.{Refusal}
use Rattle.refusals.specs.declared.Row.TheVariants.{HeaderWord, TaskList}
use Rattle.cases.specs.Refused.{refused_by, RowNumbers, row_numbers}
use Rattle.answers.specs.Answers.{figures_answer, overhead_answer, settled_answer, analyse_answer, in_order_answer, times_left, times_after}
use Rattle.input.specs.Input.{words_in, input_refusal}
use Rattle.text.specs.Text.{digits_of, decimal, line}
use Rattle.answer_page.specs.AnswerPage.{answer_page}
use Rattle.page.specs.Page.{board_page, page_of}
use Rattle.answers.specs.declared.Answer.{Answer}
use Rattle.answers.specs.declared.Answer.TheVariants.{Times, Late, Spent}

-- ---- K1 to K8: boards without a cache, which `sums` has

-- a times buffer of three words, one more than K1's tasks
abbrev lent : List ℕ
lent = 7 ∷ 7 ∷ 7 ∷ []

-- Analyse's answer, with a scratch of n × n + 4n words and n records
abbrev answer : List ℕ → Result Answer Refusal
answer b = analyse_answer b (length lent) 12 2

-- the answer is times, with these passes, and the times buffer begins with these two times
abbrev Settles : List ℕ → ℕ → ℕ → ℕ → Type 0
Settles b time1 time2 passes = (answer b ≡ Ok (Times passes)) × (times_after b (answer b) lent ≡ time1 ∷ time2 ∷ 7 ∷ [])

-- the answer of Analyse in the order of a list of task numbers; times of K1, with these passes
abbrev in_order : List ℕ → List ℕ → Result Answer Refusal
in_order b order = in_order_answer b (length lent) 12 2 order

abbrev SettlesIn : List ℕ → List ℕ → ℕ → Type 0
SettlesIn b order passes = (in_order b order ≡ Ok (Times passes)) × (times_after b (in_order b order) lent ≡ 35 ∷ 29 ∷ 7 ∷ [])

-- the bytes of the words, the lowest first
abbrev bytes_of : List ℕ → List ℕ
bytes_of [] = []
bytes_of (w ∷ ws) = w % 256 ∷ w / 256 % 256 ∷ w / 65536 % 256 ∷ w / 16777216 ∷ bytes_of ws

-- "ok 2 4", "1 1 35 100", "2 2 29 60", each ended by byte 10
abbrev K1_page : List ℕ
K1_page =
    111 ∷ 107 ∷ 32 ∷ 50 ∷ 32 ∷ 52 ∷ 10
    ∷ 49 ∷ 32 ∷ 49 ∷ 32 ∷ 51 ∷ 53 ∷ 32 ∷ 49 ∷ 48 ∷ 48 ∷ 10
    ∷ 50 ∷ 32 ∷ 50 ∷ 32 ∷ 50 ∷ 57 ∷ 32 ∷ 54 ∷ 48 ∷ 10
    ∷ []

-- ---- K9 to K11, and caches with several ways: four sets

-- a work word: kind × 2^28 + Δ × 2^16 + b
abbrev execute : ℕ → ℕ
execute Δ = Δ * 65536

abbrev read : ℕ → ℕ → ℕ
read Δ b = 268435456 + Δ * 65536 + b

abbrev write : ℕ → ℕ → ℕ
write Δ b = 536870912 + Δ * 65536 + b

-- one task that fetches the blocks in turn and does the works, with w in word 15
abbrev one_task : ℕ → List ℕ → List ℕ → List ℕ
one_task w blocks works =
    (1 ∷ 1 ∷ 1 ∷ length blocks ∷ 2 ∷ 2 ∷ 0 ∷ 5 ∷ 0 ∷ 0 ∷ 0 ∷ 0 ∷ 100 ∷ 4 ∷ 0 ∷ w ∷ 0 ∷ 0 ∷ 0 ∷ 0
    ∷ 1 ∷ 100 ∷ 100 ∷ 1 ∷ 0
    ∷ length blocks
    ∷ blocks)
    ++ works

-- the same as task 2, and task 1 on the same core, of one instruction that fetches block m and does work v
abbrev two_tasks : ℕ → ℕ → ℕ → List ℕ → List ℕ → List ℕ
two_tasks m v w blocks works =
    (1 ∷ 2 ∷ 2 ∷ suc (length blocks) ∷ 2 ∷ 2 ∷ 0 ∷ 5 ∷ 0 ∷ 0 ∷ 0 ∷ 0 ∷ 100 ∷ 4 ∷ 0 ∷ w ∷ 0 ∷ 0 ∷ 0 ∷ 0
    ∷ 1 ∷ 100 ∷ 100 ∷ 1 ∷ 0
    ∷ 1 ∷ 100 ∷ 100 ∷ 1 ∷ 0
    ∷ 1 ∷ length blocks
    ∷ m ∷ blocks)
    ++ v ∷ works

-- execute only
abbrev executed : List ℕ → List ℕ
executed blocks = map (λ m. execute 0) blocks

abbrev alone : ℕ → List ℕ → List ℕ
alone w blocks = one_task w blocks (executed blocks)

abbrev below : ℕ → ℕ → List ℕ → List ℕ
below m w blocks = two_tasks m (execute 0) w blocks (executed blocks)

abbrev K9 : List ℕ
K9 = alone 0 (0 ∷ 1 ∷ 0 ∷ [])

abbrev K10 : List ℕ
K10 = alone 0 (0 ∷ 4 ∷ 0 ∷ [])

-- K9's trace as task 2, and task 1 fetching only block m
abbrev K11 : ℕ → List ℕ
K11 m = below m 0 (0 ∷ 1 ∷ 0 ∷ [])

-- two, three, four and five blocks of set 0, in a cycle that is gone through twice
abbrev two : List ℕ
two = 0 ∷ 4 ∷ 0 ∷ 4 ∷ []

abbrev three : List ℕ
three = 0 ∷ 4 ∷ 8 ∷ 0 ∷ 4 ∷ 8 ∷ []

abbrev four : List ℕ
four = 0 ∷ 4 ∷ 8 ∷ 12 ∷ 0 ∷ 4 ∷ 8 ∷ 12 ∷ []

abbrev five : List ℕ
five = 0 ∷ 4 ∷ 8 ∷ 12 ∷ 16 ∷ 0 ∷ 4 ∷ 8 ∷ 12 ∷ 16 ∷ []

-- block 0 of set 0 again and again, each time after another block of the set: the hit at point 2 keeps it there past the load of block 8
abbrev refreshed : List ℕ
refreshed = 0 ∷ 4 ∷ 0 ∷ 8 ∷ 0 ∷ []

-- some sets by their numbers, and no set
abbrev set0 : List ℕ
set0 = 1 ∷ 0 ∷ 0 ∷ 0 ∷ []

abbrev sets01 : List ℕ
sets01 = 3 ∷ 0 ∷ 0 ∷ 0 ∷ []

abbrev sets12 : List ℕ
sets12 = 6 ∷ 0 ∷ 0 ∷ 0 ∷ []

abbrev sets023 : List ℕ
sets023 = 13 ∷ 0 ∷ 0 ∷ 0 ∷ []

abbrev sets0123 : List ℕ
sets0123 = 15 ∷ 0 ∷ 0 ∷ 0 ∷ []

abbrev set64 : List ℕ
set64 = 0 ∷ 1 ∷ 0 ∷ 0 ∷ []

abbrev set255 : List ℕ
set255 = 0 ∷ 0 ∷ 0 ∷ 9223372036854775808 ∷ []

abbrev no_set : List ℕ
no_set = 0 ∷ 0 ∷ 0 ∷ 0 ∷ []

-- the board passes the checks of Figures; task 1's MD, and its ECB for each cache, the code's first
abbrev FiguredBoth : List ℕ → ℕ → List ℕ → List ℕ → Type 0
FiguredBoth b md first second = (figures_answer b 1 ≡ Ok 1) × ((figure_of b 0).md ≡ md) × ((figure_of b 0).ecb ≡ first) × ((figure_of b 0).data_ecb ≡ second)

-- one cache has its sets in the first, and the second is empty
abbrev Figured : List ℕ → ℕ → List ℕ → Type 0
Figured b md ecb = FiguredBoth b md ecb no_set

-- the sets that have a useful block at points 0, 1 and 2 of its trace
abbrev useful_sets : List ℕ → List (List ℕ)
useful_sets b = tabulate (λ p. words_of 4 (λ s. leb 1 (useful (trace_of b 0) p s))) 3

-- how many blocks of set 0 are useful at each of its points
abbrev useful_blocks : List ℕ → List ℕ
useful_blocks b = tabulate (λ p. useful (trace_of b 0) p 0) (trace_of b 0).len

-- ---- a code cache and a data cache

-- a board whose one cache is split: its sets are those of the code cache, and the data cache has n
abbrev split : ℕ → List ℕ → List ℕ
split n b = set (set b 4 3) 14 n

-- of four sets, code block 0 and data block 32768 are both in set 0; of three data sets, blocks 32768 and 32771 are in set 2, block 32770 in set 1
abbrev same_sets : List ℕ
same_sets = one_task 0 (0 ∷ 1 ∷ 0 ∷ 1 ∷ []) (read 0 32768 ∷ read 0 32771 ∷ read 0 32768 ∷ write 0 32770 ∷ [])

-- 256 sets in each cache: code block 255 is in set 255, data block 32832 in set 64
abbrev largest : List ℕ
largest = set (split 256 (one_task 0 (255 ∷ []) (read 0 32832 ∷ []))) 13 256

-- two tasks on one core. With three data sets task 1 touches code sets 0 and 1 and data sets 1 and 2, and task 2 has its useful blocks there: code blocks 0 and 1,
-- and one point later data blocks 32768 and 32770
abbrev preempted : List ℕ
preempted =
    1 ∷ 2 ∷ 2 ∷ 7 ∷ 2 ∷ 2 ∷ 0 ∷ 5 ∷ 0 ∷ 0 ∷ 0 ∷ 0 ∷ 100 ∷ 4 ∷ 0 ∷ 0 ∷ 0 ∷ 0 ∷ 0 ∷ 0
    ∷ 1 ∷ 60 ∷ 60 ∷ 1 ∷ 0
    ∷ 1 ∷ 200 ∷ 107 ∷ 1 ∷ 0
    ∷ 2 ∷ 5
    ∷ 4 ∷ 5
    ∷ 0 ∷ 1 ∷ 0 ∷ 1 ∷ 2
    ∷ read 2 32771 ∷ write 0 32773
    ∷ execute 3 ∷ read 0 32768 ∷ read 0 32770 ∷ read 0 32768 ∷ read 0 32770
    ∷ []

-- the same where task 1 touches no data, and where the only code block that it fetches is in set 3
abbrev code_touched : List ℕ
code_touched = set (set (split 3 preempted) 39 (execute 2)) 40 (execute 0)

abbrev data_touched : List ℕ
data_touched = set (set (split 3 preempted) 32 7) 33 7

-- two code blocks of set 0 and two data blocks in turn, the data cache having one set; and the same as task 2, where task 1 fetches and reads others of these sets
abbrev two_reads : List ℕ
two_reads = read 0 32768 ∷ read 0 32769 ∷ read 0 32769 ∷ read 0 32768 ∷ []

abbrev two_each : ℕ → List ℕ
two_each w = split 1 (one_task w two two_reads)

abbrev below_each : ℕ → List ℕ
below_each w = split 1 (two_tasks 8 (read 0 32770) w two two_reads)

-- how many blocks of the code cache, and of the data cache, are useful at each point of trace r
abbrev useful_code : List ℕ → ℕ → List ℕ
useful_code b r = tabulate (λ p. sum_to (λ s. useful (trace_of b r) p s) most_sets) (trace_of b r).len

abbrev useful_data : List ℕ → ℕ → List ℕ
useful_data b r = tabulate (λ p. sum_to (λ s. useful (trace_of b r) p (most_sets + s)) most_sets) (trace_of b r).len

-- ---- the theorem

pub examples :
    Settles K1 35 29 4
    × (page_of (bytes_of K1) ≡ K1_page)
    × Settles K2 40 29 5
    × Settles K3 35 29 4
    × (answer K4 ≡ Ok (Late 1 4))
    × (answer (K5 3) ≡ Ok Spent)
    × Settles (K5 4) 35 29 4
    × Settles (K6 2) 35 34 4
    × Settles (K6 0) 35 34 4
    × Settles (K6 1) 35 34 4
    × Settles K7 40 29 3
    × Settles K8 49 35 4
    × Figured K9 2 sets01
    × (useful_sets K9 ≡ no_set ∷ set0 ∷ set0 ∷ [])
    × Figured K10 3 set0
    × (useful_sets K10 ≡ no_set ∷ no_set ∷ no_set ∷ [])
    × (overhead_answer (K11 4) 2 1 ≡ Ok 1)
    × (overhead_answer (K11 5) 2 1 ≡ Ok 0)
    × Figured (set K9 15 1) 2 sets01
    × (useful_sets (set K9 15 1) ≡ useful_sets K9)
    × (overhead_answer (set (K11 4) 15 1) 2 1 ≡ Ok 1)
    × Figured (alone 2 two) 2 set0
    × (useful_blocks (alone 2 two) ≡ 0 ∷ 1 ∷ 2 ∷ 1 ∷ [])
    × Figured (alone 2 three) 6 set0
    × (useful_blocks (alone 2 three) ≡ 0 ∷ 0 ∷ 0 ∷ 0 ∷ 0 ∷ 0 ∷ [])
    × Figured (alone 4 four) 4 set0
    × (useful_blocks (alone 4 four) ≡ 0 ∷ 1 ∷ 2 ∷ 3 ∷ 4 ∷ 3 ∷ 2 ∷ 1 ∷ [])
    × Figured (alone 4 five) 10 set0
    × Figured (alone 2 refreshed) 3 set0
    × (useful_blocks (alone 2 refreshed) ≡ 0 ∷ 1 ∷ 1 ∷ 1 ∷ 1 ∷ [])
    × (overhead_answer (below 8 2 two) 2 1 ≡ Ok 2)
    × (overhead_answer (below 5 2 two) 2 1 ≡ Ok 0)
    × (overhead_answer (below 8 1 two) 2 1 ≡ Ok 0)
    × (overhead_answer (below 8 4 three) 2 1 ≡ Ok 3)
    × (figures_answer (alone 3 two) 1 ≡ refused_by HeaderWord 15)
    × (figures_answer (set K1 15 2) 2 ≡ refused_by HeaderWord 15)
    × SettlesIn K1 (1 ∷ 2 ∷ []) 3
    × SettlesIn K1 (2 ∷ 1 ∷ []) 4
    × SettlesIn (K5 3) (1 ∷ 2 ∷ []) 3
    × (in_order (K5 3) (2 ∷ 1 ∷ []) ≡ Ok Spent)
    × (in_order K4 (1 ∷ 2 ∷ []) ≡ Ok (Late 1 3))
    × (in_order K1 (3 ∷ []) ≡ refused_by TaskList 1)
    × (in_order K1 (2 ∷ 3 ∷ []) ≡ refused_by TaskList 1)
    × (in_order K1 (0 ∷ 0 ∷ []) ≡ refused_by TaskList 0)
    × (in_order K1 (2 ∷ 2 ∷ []) ≡ refused_by TaskList 1)
    × Settles (K8_put_off 1) 52 38 4
    × (answer (set (K8_put_off 1) 22 51) ≡ Ok (Late 1 4))
    × Settles (K8_put_off 2) 55 44 5
    × Settles (K8_put_off 8) 61 44 3
    × (answer (K8_put_off 9) ≡ refused_by HeaderWord 16)
    × (answer (set (K8_put_off 1) 8 1) ≡ refused_by HeaderWord 16)
    × (answer (set K1 16 1) ≡ refused_by HeaderWord 16)
    × Figured same_sets 7 sets0123
    × FiguredBoth (split 4 same_sets) 5 sets01 sets023
    × FiguredBoth (split 3 same_sets) 6 sets01 sets12
    × FiguredBoth largest 2 set255 set64
    × (overhead_answer preempted 2 1 ≡ Ok 1)
    × Settles preempted 27 102 4
    × (useful_code (split 3 preempted) 1 ≡ 0 ∷ 1 ∷ 2 ∷ 1 ∷ 0 ∷ [])
    × (useful_data (split 3 preempted) 1 ≡ 0 ∷ 0 ∷ 1 ∷ 2 ∷ 1 ∷ [])
    × (overhead_answer code_touched 2 1 ≡ Ok 2)
    × (overhead_answer data_touched 2 1 ≡ Ok 2)
    × (overhead_answer (split 3 preempted) 2 1 ≡ Ok 3)
    × Settles (split 3 preempted) 27 107 4
    × (answer (set (split 3 preempted) 27 106) ≡ Ok (Late 2 4))
    × FiguredBoth (two_each 1) 7 set0 set0
    × FiguredBoth (two_each 2) 4 set0 set0
    × (useful_code (two_each 2) 0 ≡ 0 ∷ 1 ∷ 2 ∷ 1 ∷ [])
    × (useful_data (two_each 2) 0 ≡ 0 ∷ 1 ∷ 2 ∷ 1 ∷ [])
    × (overhead_answer (below_each 1) 2 1 ≡ Ok 1)
    × (overhead_answer (below_each 2) 2 1 ≡ Ok 4)
    × (figures_answer (set (split 4 same_sets) 4 4) 1 ≡ refused_by HeaderWord 4)
    × (figures_answer (set (split 4 same_sets) 13 0) 1 ≡ refused_by HeaderWord 13)
    × (figures_answer (set (split 4 same_sets) 13 257) 1 ≡ refused_by HeaderWord 13)
    × (figures_answer (split 0 same_sets) 1 ≡ refused_by HeaderWord 14)
    × (figures_answer (split 257 same_sets) 1 ≡ refused_by HeaderWord 14)
    × (figures_answer (set same_sets 14 1) 1 ≡ refused_by HeaderWord 14)
    × (figures_answer (set (split 4 same_sets) 15 3) 1 ≡ refused_by HeaderWord 15)
    × RowNumbers
unfolding ceil_div sum_to max_to count_to any_to first_from tabulate fill_to same_list word_of words_of first_trace first_instruction header_ranges header_ok task_ranges task_ok work_ok refuse_unless first_bad refuse_first refusal_of among without count_in some_in recent hits miss_count next_hits useful_in place_of trace_of loads trace_pd bus_loads trace_md evicts useful useful_at most_useful task_pd task_md evicting figure_of evicted_by reloads γ added_jitter memory_demand own_accesses carry_in core_accesses lower_accesses interference bus_accesses refreshes higher_work task_sum pass in_turn times_by unchanged changes passes_by settled_by first_late figures_refusal overhead_refusal analyse_refusal in_order_refusal figures_answer overhead_answer settled_answer analyse_answer in_order_answer times_left words_in input_refusal digits_of decimal line join_to answer_page board_page page_of
examples = (
  (refl, refl),
  refl,
  (refl, refl),
  (refl, refl),
  refl,
  refl,
  (refl, refl),
  (refl, refl),
  (refl, refl),
  (refl, refl),
  (refl, refl),
  (refl, refl),
  (refl, refl, refl, refl),
  refl,
  (refl, refl, refl, refl),
  refl,
  refl,
  refl,
  (refl, refl, refl, refl),
  refl,
  refl,
  (refl, refl, refl, refl),
  refl,
  (refl, refl, refl, refl),
  refl,
  (refl, refl, refl, refl),
  refl,
  (refl, refl, refl, refl),
  (refl, refl, refl, refl),
  refl,
  refl,
  refl,
  refl,
  refl,
  refl,
  refl,
  (refl, refl),
  (refl, refl),
  (refl, refl),
  refl,
  refl,
  refl,
  refl,
  refl,
  refl,
  (refl, refl),
  refl,
  (refl, refl),
  (refl, refl),
  refl,
  refl,
  refl,
  (refl, refl, refl, refl),
  (refl, refl, refl, refl),
  (refl, refl, refl, refl),
  (refl, refl, refl, refl),
  refl,
  (refl, refl),
  refl,
  refl,
  refl,
  refl,
  refl,
  (refl, refl),
  refl,
  (refl, refl, refl, refl),
  (refl, refl, refl, refl),
  refl,
  refl,
  refl,
  refl,
  refl,
  refl,
  refl,
  refl,
  refl,
  refl,
  refl,
  row_numbers,
)
