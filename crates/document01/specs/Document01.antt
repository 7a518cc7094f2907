-- Document 01 in its own words and letters, before any change of document 02: the boards that it takes, what its four calls answer and leave, and demand 3.
-- Closed: it reads folds and the layout of a board and nothing else, and no change edits it, so that its numbers stand as document 01 prints them. No contract
-- cites it; `document-01` (answers/proofs/Document01) proves that on its boards the tool answers, leaves and promises what stands here, and proofs/Cases
-- computes K1 to K11. Tasks, traces, instructions and points are counted from 0, so that "k ≤ i" are the indices below i + 1; cores and passes from 1.
-- Assumes nothing.
use Rattle.std.specs.Prelude.{ℕ, zero, suc, ◌+◌, ◌-◌, ◌*◌, ◌/◌, ◌%◌, ◌^◌, ◌≤◌, ◌<◌, min, Bool, true, false, not, cond, ◌&&◌, ◌||◌, List, [], ◌∷◌, ◌++◌, reverse, ◌↔◌, ◌≡◌, leb, ltb, eqb, length, get_or, take, replicate}
use Rattle.std.proofs.Math.Option.{Option, none, some}
use Rattle.folds.specs.Folds.{ceil_div, only_if, sum_to, sum_where, max_to, count_to, any_to, first_from, tabulate, same_list, fill_to}
use Rattle.board.specs.Layout.{word, cores, tasks, traces, instructions, memory, bus, slots_each, access_cycles, refresh, refresh_interval, refresh_rows, refresh_cycles, pass_limit, held_code, held_data, cache_sets, fetches_at, works_at, core, period, deadline, trace_count, first_trace, trace_length, first_instruction, kind_of, cycles_of, block_of}

-- ---- "The board": what passes rows 1 to 9

abbrev pub Within : ℕ → ℕ → ℕ → Type 0
Within low high x = (low ≤ x) × (x ≤ high)

-- a work word: an execute has block 0, a read and a write a data block
abbrev pub Work : ℕ → Type 0
Work w = (kind_of w ≤ 2) × (kind_of w ≡ 0 → block_of w ≡ 0) × (1 ≤ kind_of w → 32768 ≤ block_of w)

pub record Board (b : List ℕ) : Type 0 where
  pub size : Within 20 16384 (length b)
  pub word_0 : Within 1 8 (word b 0)
  pub word_1 : Within 1 64 (word b 1)
  pub word_2 : Within 1 512 (word b 2)
  pub word_3 : Within 1 8192 (word b 3)
  pub word_4 : word b 4 ≤ 2
  pub word_5 : word b 5 ≤ 4
  pub word_6 : 3 ≤ word b 5 → Within 1 8 (word b 6)
  pub word_6_else : word b 5 < 3 → word b 6 ≡ 0
  pub word_7 : Within 1 255 (word b 7)
  pub word_8 : word b 8 ≤ 2
  pub words_9_to_11 : 1 ≤ word b 8 → Within 1 268435455 (word b 9) × Within 1 65535 (word b 10) × (word b 11 ≤ 255)
  pub words_9_to_11_else : word b 8 < 1 → (word b 9 ≡ 0) × (word b 10 ≡ 0) × (word b 11 ≡ 0)
  pub word_12 : 1 ≤ word b 12
  pub words_13_14_none : word b 4 ≡ 0 → (word b 13 ≡ 0) × (word b 14 ≡ 0)
  pub words_13_14_scratchpad : word b 4 ≡ 1 → (word b 13 ≤ 32768) × (word b 14 ≤ 32768)
  pub words_13_14_cache : word b 4 ≡ 2 → Within 1 256 (word b 13) × (word b 14 ≡ 0)
  pub words_15_to_19 : (i : ℕ) → 15 ≤ i → i < 20 → word b i ≡ 0
  pub words : length b ≡ 20 + 5 * tasks b + traces b + 2 * instructions b
  -- five words a task: core, T, D, trace count, spare
  pub task_core : (k : ℕ) → k < tasks b → Within 1 (cores b) (core b k)
  pub task_period : (k : ℕ) → k < tasks b → Within 1 268435455 (period b k)
  pub task_deadline : (k : ℕ) → k < tasks b → Within 1 (period b k) (deadline b k)
  pub task_traces : (k : ℕ) → k < tasks b → Within 1 8 (trace_count b k)
  pub task_spare : (k : ℕ) → k < tasks b → word b (20 + 5 * k + 4) ≡ 0
  pub trace_sum : sum_to (trace_count b) (tasks b) ≡ traces b
  pub trace_words : (r : ℕ) → r < traces b → Within 1 1024 (trace_length b r)
  pub length_sum : sum_to (trace_length b) (traces b) ≡ instructions b
  pub fetch_word : (p : ℕ) → p < instructions b → word b (fetches_at b + p) < 32768
  pub work_word : (p : ℕ) → p < instructions b → Work (word b (works_at b + p))

-- ---- a direct-mapped cache, where block m lies in set `place m`; `past` has the fetches and reads before, the last one first, `later` those after, in order

-- both exist and name one block
abbrev pub same_block : Option ℕ → Option ℕ → Bool
same_block (some m) (some m') = eqb m m'
same_block (some m) none = false
same_block none (some m') = false
same_block none none = false

module _ (place : ℕ → ℕ) where
  -- the first of the blocks that lies in set s, if there is one
  unfoldable pub first_in : ℕ → List ℕ → Option ℕ
  first_in s [] = none
  first_in s (m ∷ ms) = cond (eqb (place m) s) (some m) (first_in s ms)

  -- how many of the later ones miss: one of block m hits if m was the last in its set
  unfoldable pub miss_count : List ℕ → List ℕ → ℕ
  miss_count past [] = 0
  miss_count past (m ∷ later) = only_if (not (same_block (first_in (place m) past) (some m))) 1 + miss_count (m ∷ past) later

  -- "the last fetch or read in s by instructions before p and the first by instruction p or later both exist and name one block"
  unfoldable pub useful_set : List ℕ → List ℕ → ℕ → Bool
  useful_set past later s = same_block (first_in s past) (first_in s later)

-- "one record a task with core, T, D, PD, MD and ECB", which is "kept as bits of four 64-bit words"
pub record Figure : Type 0 where
  pub core : ℕ
  pub period : ℕ
  pub deadline : ℕ
  pub pd : ℕ
  pub md : ℕ
  pub ecb : List ℕ

module _ (b : List ℕ) where
  -- ---- "Figures of a task" (eq. 3 to 10, 17, 19 to 21): instruction p of trace r fetches its block, then reads or writes its data block

  -- "Block m lies in set m mod c"
  abbrev pub set_of : ℕ → ℕ
  set_of m = m % cache_sets b

  module _ (r : ℕ) where
    abbrev pub fetch : ℕ → ℕ
    fetch p = word b (fetches_at b + first_instruction b r + p)

    abbrev pub work : ℕ → ℕ
    work p = word b (works_at b + first_instruction b r + p)

    abbrev pub reads : ℕ → Bool
    reads p = eqb (kind_of (work p)) 1

    abbrev pub writes : ℕ → Bool
    writes p = eqb (kind_of (work p)) 2

    -- the blocks that the k instructions from p on fetch or read, in order
    unfoldable pub loads : ℕ → ℕ → List ℕ
    loads p zero = []
    loads p (suc k) = fetch p ∷ (cond (reads p) (block_of (work p) ∷ []) [] ++ loads (suc p) k)

    unfoldable pub trace_pd : ℕ
    trace_pd = sum_to (λ p. cycles_of (work p)) (trace_length b r)

    -- fetches and reads that use the bus, by the memory: none, scratchpad, cache
    unfoldable pub bus_loads : ℕ → ℕ
    bus_loads zero = length (loads 0 (trace_length b r))
    bus_loads (suc zero) =
        count_to (λ p. leb (held_code b) (fetch p)) (trace_length b r)
        + count_to (λ p. reads p && leb (32768 + held_data b) (block_of (work p))) (trace_length b r)
    bus_loads (suc (suc m)) = miss_count set_of [] (loads 0 (trace_length b r))

    -- and every write
    unfoldable pub trace_md : ℕ
    trace_md = bus_loads (memory b) + count_to writes (trace_length b r)

    -- instruction p touches a block of set s, "written ones too"
    abbrev pub touches : ℕ → ℕ → Bool
    touches p s = eqb (set_of (fetch p)) s || ((reads p || writes p) && eqb (set_of (block_of (work p))) s)

    -- set s is useful at point p
    unfoldable pub useful : ℕ → ℕ → Bool
    useful p s = eqb (memory b) 2 && useful_set set_of (reverse (loads 0 p)) (loads p (trace_length b r - p)) s

  -- of task k: PD, MD, and whether set s is in its ECB
  unfoldable pub PD : ℕ → ℕ
  PD k = max_to (λ r. trace_pd (first_trace b k + r)) (trace_count b k)

  unfoldable pub MD : ℕ → ℕ
  MD k = max_to (λ r. trace_md (first_trace b k + r)) (trace_count b k)

  unfoldable pub ECB : ℕ → ℕ → Bool
  ECB k s = eqb (memory b) 2 && any_to (λ r. any_to (λ p. touches (first_trace b k + r) p s) (trace_length b (first_trace b k + r))) (trace_count b k)

  -- "set s is bit s mod 64 (bit 0 lowest) of word floor(s/64)"
  unfoldable pub ecb_word : ℕ → ℕ → ℕ
  ecb_word k w = sum_to (λ j. only_if (ECB k (64 * w + j)) 1 * 2 ^ j) 64

  unfoldable pub figure : ℕ → Figure
  figure k = record { core = core b k; period = period b k; deadline = deadline b k; pd = PD k; md = MD k; ecb = tabulate (ecb_word k) 4 }

  -- ---- "Overhead" (eq. 22)

  -- s is in the ECB of some task h ≤ j on the core of j
  unfoldable pub evicted : ℕ → ℕ → Bool
  evicted j s = any_to (λ h. eqb (core b h) (core b j) && ECB h s) (j + 1)

  -- the largest number of sets useful at a point of trace r and so evicted
  unfoldable pub most_useful : ℕ → ℕ → ℕ
  most_useful j r = max_to (λ p. count_to (λ s. useful r p s && evicted j s) 256) (trace_length b r)

  unfoldable pub γ : ℕ → ℕ → ℕ
  γ i j = max_to (λ k. only_if (ltb j k && eqb (core b k) (core b j)) (max_to (λ r. most_useful j (first_trace b k + r)) (trace_count b k))) (i + 1)

  -- ---- "A task's sum" (eq. 12 to 16, 18, 23 to 32), of task i at the times R

  -- D' = MD_k + γ(j, k)
  unfoldable pub D' : ℕ → ℕ → ℕ
  D' j k = MD k + γ j k

  -- task n, and the sum of f over the cores that pass the test
  abbrev pub lowest : ℕ
  lowest = tasks b - 1

  abbrev pub over_cores : (ℕ → Bool) → (ℕ → ℕ) → ℕ
  over_cores test f = sum_where (λ y. test (y + 1)) (λ y. f (y + 1)) (cores b)

  module _ (R : List ℕ) (i : ℕ) where
    -- t = R_i, and x
    abbrev pub t : ℕ
    t = get_or R i 0

    abbrev pub x : ℕ
    x = core b i

    unfoldable pub S : ℕ
    S = sum_where (λ k. eqb (core b k) x) (λ k. ceil_div t (period b k) * D' i k) (i + 1)

    -- u = max(0, t + R_k − D' × d): a difference of counts stops at 0
    abbrev pub u : ℕ → ℕ → ℕ
    u j k = t + get_or R k 0 - D' j k * access_cycles b

    unfoldable pub W : ℕ → ℕ → ℕ
    W j k = D' j k * (u j k / period b k) + min (D' j k) (ceil_div (u j k % period b k) (access_cycles b))

    unfoldable pub A : ℕ → ℕ → ℕ
    A j y = sum_where (λ k. eqb (core b k) y) (λ k. W j k) (j + 1)

    unfoldable pub L : ℕ → ℕ
    L y = sum_where (λ k. ltb i k && eqb (core b k) y) (λ k. W lowest k) (tasks b)

    -- B, by the bus
    unfoldable pub B : ℕ → ℕ
    B zero = S + over_cores (λ y. not (eqb y x)) (λ y. A i y) + min S (over_cores (λ y. not (eqb y x)) (λ y. L y)) + 1
    B (suc zero) = S + over_cores (λ y. ltb y x) (λ y. A lowest y) + min S (over_cores (λ y. ltb x y) (λ y. A lowest y)) + 1
    B (suc (suc zero)) = S + over_cores (λ y. not (eqb y x)) (λ y. A lowest y) + 1
    B (suc (suc (suc zero))) = S + over_cores (λ y. not (eqb y x)) (λ y. min (A lowest y) (slots_each b * S)) + 1
    B (suc (suc (suc (suc m)))) = S + (cores b - 1) * slots_each b * S + 1

    -- Q, by the form of refresh: none, burst, distributed
    unfoldable pub Q : ℕ → ℕ
    Q zero = 0
    Q (suc zero) = ceil_div t (refresh_interval b) * refresh_rows b
    Q (suc (suc m)) = min (B (bus b)) (ceil_div (t * refresh_rows b) (refresh_interval b))

    unfoldable pub higher_work : ℕ
    higher_work = sum_where (λ k. eqb (core b k) x) (λ k. ceil_div t (period b k) * PD k) i

    unfoldable pub Sum : ℕ
    Sum = PD i + higher_work + B (bus b) * access_cycles b + Q (refresh b) * refresh_cycles b

  -- ---- "Passes and the answer"

  -- "A pass replaces all times together by min(Sum_i, D_i + 1), computed from the times before it"
  unfoldable pub pass : List ℕ → List ℕ
  pass R = tabulate (λ i. min (Sum R i) (deadline b i + 1)) (tasks b)

  -- the times after p passes, which "start from all zeros"
  unfoldable pub after_passes : ℕ → List ℕ
  after_passes zero = replicate (tasks b) 0
  after_passes (suc p) = pass (after_passes p)

  -- "the number of the first pass that changes nothing, never more than 1 + Σ(D_i + 1); that pass leaves the settled times"
  unfoldable pub passes_needed : ℕ
  passes_needed = suc (first_from (λ p. same_list (after_passes (suc p)) (after_passes p)) (sum_to (λ i. deadline b i + 1) (tasks b)) 0)

  unfoldable pub settled : List ℕ
  settled = after_passes passes_needed

  -- the first "task settled at D + 1", and n where there is none
  unfoldable pub first_late : ℕ
  first_late = first_from (λ i. eqb (get_or settled i 0) (deadline b i + 1)) (tasks b) 0

-- ---- the calls, on a board that passes rows 1 to 9; a buffer is its length, and a task number counts from 1

pub data Reply : Type 0 where
  value : ℕ → Reply
  times : ℕ → Reply
  late : ℕ → ℕ → Reply
  spent : Reply
  refused : ℕ → ℕ → Reply

abbrev pub is_refused : Reply → Bool
is_refused (refused number place) = true
is_refused (value x) = false
is_refused (times passes) = false
is_refused (late task passes) = false
is_refused spent = false

-- row `number` refuses, at `place`, unless the test holds
abbrev pub unless : ℕ → Bool → ℕ → Reply → Reply
unless number test place rest = cond test rest (refused number place)

module _ (b : List ℕ) where
  abbrev pub is_task : ℕ → Bool
  is_task i = leb 1 i && leb i (tasks b)

  -- the first of the times "above D + 1", and n where there is none
  abbrev pub first_above : List ℕ → ℕ
  first_above R = first_from (λ k. not (leb (get_or R k 0) (deadline b k + 1))) (tasks b) 0

  -- Figures: the number of records that it fills
  unfoldable pub figures : ℕ → Reply
  figures table = unless 13 (leb (tasks b) table) table (value (tasks b))

  unfoldable pub overhead : ℕ → ℕ → Reply
  overhead i j = unless 10 (is_task i) i (unless 10 (is_task j) j (value (γ b (i - 1) (j - 1))))

  unfoldable pub weigh : List ℕ → ℕ → Reply
  weigh R i =
      unless 10 (is_task i) i
      (unless 11 (leb (tasks b) (length R)) (length R) (unless 14 (leb (tasks b) (first_above R)) (first_above R) (value (Sum b R (i - 1)))))

  -- Analyse, by its passes: spent "exactly when the passes needed exceed word 12", late "the smallest number of a task settled at D + 1"
  unfoldable pub settled_reply : Reply
  settled_reply =
      cond (ltb (pass_limit b) (passes_needed b)) spent
      (cond (ltb (first_late b) (tasks b)) (late (first_late b + 1) (passes_needed b)) (times (passes_needed b)))

  unfoldable pub analyse : ℕ → ℕ → ℕ → Reply
  analyse times_room scratch table =
      unless 11 (leb (tasks b) times_room) times_room
      (unless 12 (leb (tasks b * tasks b + 4 * tasks b) scratch) scratch (unless 13 (leb (tasks b) table) table settled_reply))

  -- ---- the memory lent to a call, after it answered: "A refusal writes nothing"

  -- the times buffer, which was `old`: "the settled times are the first n words of the times buffer, the rest untouched", where the answer is times
  abbrev pub times_after : Reply → List ℕ → List ℕ
  times_after (times passes) old = fill_to (λ k. get_or (settled b) k 0) (tasks b) old
  times_after (value x) old = old
  times_after (late task passes) old = old
  times_after spent old = old
  times_after (refused number place) old = old

  -- the figures table, which was `old`, with records of any form: "its first n records hold the figures, later ones are untouched"
  abbrev pub table_after : {A : Type 0} → (ℕ → A) → Reply → List A → List A
  table_after figure_of r old = cond (is_refused r) old (fill_to figure_of (tasks b) old)

  -- ---- demand 3, over Sum, D and the passes needed alone

  -- a "choice of whole times, each from 0 to its deadline", that "has every task's sum at those times no greater than its time"
  pub record Choice (R : List ℕ) : Type 0 where
    pub size : length R ≡ tasks b
    pub within : (i : ℕ) → i < tasks b → get_or R i 0 ≤ deadline b i
    pub meets : (i : ℕ) → i < tasks b → Sum b R i ≤ get_or R i 0

  abbrev pub NoChoice : Type 0
  NoChoice = (R : List ℕ) → Choice R → ⊥

  -- "the least such choice"
  pub record LeastChoice (R : List ℕ) : Type 0 where
    pub choice : Choice R
    pub least : (C : List ℕ) → Choice C → (i : ℕ) → i < tasks b → get_or R i 0 ≤ get_or C i 0

  -- of Analyse's answer r and the times buffer R afterwards
  pub record Demand3 (r : Reply) (R : List ℕ) : Type 0 where
    -- "spent exactly when the passes needed exceed the limit"
    pub is_spent : (r ≡ spent) ↔ (pass_limit b < passes_needed b)
    -- "else late, with the task that document 01 names, exactly when no choice" there is
    pub is_late : passes_needed b ≤ pass_limit b → (r ≡ late (first_late b + 1) (passes_needed b)) ↔ NoChoice
    -- "else times, the least such choice"
    pub is_times : passes_needed b ≤ pass_limit b → (NoChoice → ⊥) → (r ≡ times (passes_needed b)) × LeastChoice (take (tasks b) R)

  -- all that Analyse promises but its table, of so many records: r is its answer, and the buffers, which were R and scratch, are R' and scratch'
  pub record Analysed (R scratch : List ℕ) (table : ℕ) (r : Reply) (R' scratch' : List ℕ) : Type 0 where
    pub answer : r ≡ analyse (length R) (length scratch) table
    pub given : R' ≡ times_after r R
    pub scratch_left : is_refused r ≡ true → scratch' ≡ scratch
    pub demand3 : is_refused r ≡ false → Demand3 r R'
