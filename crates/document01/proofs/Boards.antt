-- The boards of document 01 are those that pass today and use nothing that came later: no second cache, no ways, no refresh put off, no release late.
-- Assumes nothing.
use Prim.Native.Nat.{ℕ, ◌≤◌, ◌<◌}
use mathlib.Core.List.{List}
use mathlib.Core.Logic.{inl, inr}
use mathlib.Core.Path.{◌≡◌, ap, ◌∙◌}
use native.Mathlib.Decide.{ℕ_discrete}
use native.Mathlib.Omega.{arith}
use Rattle.folds.proofs.Numbers.{le-or-lt}
use Rattle.board.specs.Layout.{word, is_ways, tasks, memory, ways, put_off, jitter, first_trace, first_instruction}
use Rattle.board.specs.Sound.{Sound}
use Rattle.document01.specs.Document01.{Board}

module _ (b : List ℕ) (board : Board b) where
  pub one_way : ways b ≡ 1
  one_way = omega (arith, board.words_15_to_19 15 (omega arith) (omega arith))

  pub none-put-off : put_off b ≡ 0
  none-put-off = board.words_15_to_19 16 (omega arith) (omega arith)

  pub punctual : (k : ℕ) → k < tasks b → jitter b k ≡ 0
  punctual = board.task_spare

  held-data : word b 14 ≤ 32768
  held-data = go (ℕ_discrete (word b 4) 0) (ℕ_discrete (word b 4) 1)
    where
      go : Dec (word b 4 ≡ 0) → Dec (word b 4 ≡ 1) → word b 14 ≤ 32768
      go (yes e) d = omega (arith, board.words_13_14_none e)
      go (no n) (yes e) = (board.words_13_14_scratchpad e).1
      go (no n) (no m) = omega (arith, board.words_13_14_cache (omega (arith, board.word_4)))

  no-data : (word b 4 ≡ 1 → ⊥) → word b 14 ≡ 0
  no-data m = go (ℕ_discrete (word b 4) 0)
    where
      go : Dec (word b 4 ≡ 0) → word b 14 ≡ 0
      go (yes e) = (board.words_13_14_none e).1
      go (no n) = (board.words_13_14_cache (omega (arith, board.word_4))).1

  few-refresh-cycles : word b 11 ≤ 255
  few-refresh-cycles = elim (le-or-lt 1 (word b 8)) [
    | inl h ↦ (board.words_9_to_11 h).2
    | inr h ↦ omega (arith, (board.words_9_to_11_else h).2)
  ]

  pub sound : Sound b
  unfolding first_trace first_instruction
  sound = record {
    small = board.size.1;
    words = omega (arith, board.words);
    cores = board.word_0;
    tasks = board.word_1;
    traces = board.word_2;
    instructions = board.word_3;
    memory = omega (arith, board.word_4);
    bus = board.word_5;
    slots = board.word_6;
    no_slots = board.word_6_else;
    access = board.word_7;
    refresh = board.word_8;
    interval = λ h. (board.words_9_to_11 h).0;
    rows = λ h. (board.words_9_to_11 h).1;
    refresh_cycles = few-refresh-cycles;
    no_refresh = board.words_9_to_11_else;
    limit = board.word_12;
    held = λ e. (board.words_13_14_scratchpad e).0;
    held_data = held-data;
    sets = λ h. (board.words_13_14_cache (omega (arith, board.word_4))).0;
    data_sets = λ e. absurd (omega (arith, e, board.word_4));
    no_memory = λ e. (board.words_13_14_none e).0;
    no_data = λ n m. no-data n;
    ways = λ h. ap is_ways (board.words_15_to_19 15 (omega arith) (omega arith));
    no_ways = λ h. board.words_15_to_19 15 (omega arith) (omega arith);
    put_off = omega (arith, none-put-off);
    no_put_off = λ n. none-put-off;
    spare = λ i low high. board.words_15_to_19 i (omega arith) high;
    core = board.task_core;
    period = board.task_period;
    deadline = board.task_deadline;
    trace_count = board.task_traces;
    jitter = λ k h. omega (arith, punctual k h);
    trace_sum = board.trace_sum;
    trace_length = board.trace_words;
    length_sum = board.length_sum;
    fetch = board.fetch_word;
    kind = λ p h. (board.work_word p h).0;
    execute = λ p h. (board.work_word p h).1;
    data_block = λ p h. (board.work_word p h).2;
  }

-- and the other way round
module _ (b : List ℕ) (s : Sound b) (few : memory b ≤ 2) (no-ways : word b 15 ≡ 0) (no-put-off : word b 16 ≡ 0) (no-jitter : (k : ℕ) → k < tasks b → jitter b k ≡ 0) where
  spare : (i : ℕ) → 15 ≤ i → i < 20 → word b i ≡ 0
  spare i low high = go (ℕ_discrete i 15) (ℕ_discrete i 16)
    where
      go : Dec (i ≡ 15) → Dec (i ≡ 16) → word b i ≡ 0
      go (yes e) d = ap (word b) e ∙ no-ways
      go (no n) (yes e) = ap (word b) e ∙ no-put-off
      go (no n) (no m) = s.spare i (omega arith) high

  pub board : Board b
  unfolding first_trace first_instruction
  board = record {
    size = (omega (arith, s.words), s.small);
    word_0 = s.cores;
    word_1 = s.tasks;
    word_2 = s.traces;
    word_3 = s.instructions;
    word_4 = few;
    word_5 = s.bus;
    word_6 = s.slots;
    word_6_else = s.no_slots;
    word_7 = s.access;
    word_8 = s.refresh;
    words_9_to_11 = λ h. (s.interval h, s.rows h, s.refresh_cycles);
    words_9_to_11_else = s.no_refresh;
    word_12 = s.limit;
    words_13_14_none = λ e. (s.no_memory e, s.no_data (λ m. omega (arith, e, m)) (λ m. omega (arith, e, m)));
    words_13_14_scratchpad = λ e. (s.held e, s.held_data);
    words_13_14_cache = λ e. (s.sets (omega (arith, e)), s.no_data (λ m. omega (arith, e, m)) (λ m. omega (arith, e, m)));
    words_15_to_19 = spare;
    words = omega (arith, s.words);
    task_core = s.core;
    task_period = s.period;
    task_deadline = s.deadline;
    task_traces = s.trace_count;
    task_spare = no-jitter;
    trace_sum = s.trace_sum;
    trace_words = s.trace_length;
    length_sum = s.length_sum;
    fetch_word = s.fetch;
    work_word = λ p h. (s.kind p h, s.execute p h, s.data_block p h);
  }
