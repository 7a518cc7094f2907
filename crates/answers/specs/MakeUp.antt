-- How a time is made up (document 02, change 5): what the call answers, and what is promised of the six numbers. The buffers are left by Analyse's rules.
-- Assumes nothing.
use Rattle.std.specs.Prelude.{ℕ, ◌+◌, ◌-◌, ◌≤◌, ◌<◌, cond, List, Result, Ok, Err, ◌↔◌, ◌≡◌, ltb, length, get_or}
use Rattle.folds.specs.Folds.{Largest}
use Rattle.board.specs.Layout.{pass_limit}
use Rattle.refusals.specs.declared.Refusal.{Refusal}
use Rattle.refusals.specs.Refusals.{Verdict}
use Rattle.sums.specs.Sums.{bound, task_sum}
use Rattle.sums.specs.SixParts.{six_parts, total, reason}
use Rattle.passes.specs.Passes.{passes_needed, settled}
use Rattle.interference.specs.declared.SumParts.{SumParts}
use Rattle.interference.specs.Parts.{sum_parts, listed}
use Rattle.checks.specs.CallRefusals.{make_up_refusal}
use Rattle.answers.specs.Answers.{system, analyse_answer, answer_by, times_after, ScratchAfter}
use Rattle.answers.specs.declared.Answer.TheVariants.{Times, Late, Spent as Answer-as-Spent}
use Rattle.answers.specs.declared.MadeUp.{MadeUp}
use Rattle.answers.specs.declared.MadeUp.TheVariants.{Parts, Spent}
use Rattle.answers.specs.declared.Part.{Part}
use Rattle.answers.specs.PartNumbers.{part_number, part_of}

-- ---- the answer

-- the six numbers of task i at the times R, and the reason
abbrev pub made_up_at : List ℕ → List ℕ → ℕ → MadeUp
made_up_at b R i = Parts (sum_parts b R i) (part_of (reason (six_parts b R i)))

-- "at the settled times"; "a spent board answers spent with no numbers"
unfoldable pub settled_made_up : List ℕ → ℕ → MadeUp
settled_made_up b i = cond (ltb (pass_limit b) (passes_needed (system b))) Spent (made_up_at b (settled (system b)) i)

abbrev pub made_up_by : Verdict → List ℕ → ℕ → Result MadeUp Refusal
made_up_by (Ok passed) b i = Ok (settled_made_up b i)
made_up_by (Err refusal) b i = Err refusal

-- the call, with buffers of these lengths and the number of a task, from 1
unfoldable pub make_up_answer : List ℕ → ℕ → ℕ → ℕ → ℕ → Result MadeUp Refusal
make_up_answer b times scratch table task = made_up_by (make_up_refusal b times scratch table task) b (task - 1)

-- ---- what is promised

-- of task i, an index, with buffers of these lengths; r is the answer, and `left` the times buffer afterwards
pub record MadeUpOf (b : List ℕ) (times scratch table i : ℕ) (r : Result MadeUp Refusal) (left : List ℕ) : Type 0 where
  -- spent exactly when the passes needed exceed the limit, and exactly when Analyse is
  pub spent : (r ≡ Ok Spent) ↔ (pass_limit b < passes_needed (system b))
  pub spent_alike : (r ≡ Ok Spent) ↔ (analyse_answer b times scratch table ≡ Ok Answer-as-Spent)
  -- "the six add up to the task's sum", at the settled times
  pub sum : (parts : SumParts) (k : Part) → r ≡ Ok (Parts parts k) → total (listed parts) ≡ task_sum b (settled (system b)) i
  -- "for a late task they exceed" its bound: a task that settled past it, and so the one that Analyse names
  pub late : (parts : SumParts) (k : Part) → r ≡ Ok (Parts parts k) → bound b i < get_or (settled (system b)) i 0 → bound b i < total (listed parts)
  pub named : (parts : SumParts) (k : Part) (passes : ℕ) → r ≡ Ok (Parts parts k) → analyse_answer b times scratch table ≡ Ok (Late (i + 1) passes)
      → bound b i < total (listed parts)
  -- a task that is not late, whatever others are: they are its settled time
  pub on_time : (parts : SumParts) (k : Part) → r ≡ Ok (Parts parts k) → get_or (settled (system b)) i 0 ≤ bound b i
      → total (listed parts) ≡ get_or (settled (system b)) i 0
  -- "for a board with times they equal the printed time", which is the task's word of the times buffer
  pub printed : (parts : SumParts) (k : Part) (passes : ℕ) → r ≡ Ok (Parts parts k) → analyse_answer b times scratch table ≡ Ok (Times passes)
      → total (listed parts) ≡ get_or left i 0
  -- the reason is one of the six, none of which is larger; those before it are smaller
  pub reason : (parts : SumParts) (k : Part) → r ≡ Ok (Parts parts k) → (1 ≤ part_number k) × Largest (λ j. get_or (listed parts) j 0) (length (listed parts)) (part_number k - 1)

-- what `make_up` of a task's number answers and leaves but for its table, as `Analysed` is of `analyse`; the times buffer is left by the answer that Analyse's passes give
pub record MadeUpAll (b times scratch : List ℕ) (room task : ℕ) (r : Result MadeUp Refusal) (times' scratch' : List ℕ) : Type 0 where
  pub answer : r ≡ make_up_answer b (length times) (length scratch) room task
  pub given : times' ≡ times_after b (answer_by (make_up_refusal b (length times) (length scratch) room task) b) times
  pub scratch_left : ScratchAfter (make_up_refusal b (length times) (length scratch) room task) scratch scratch'
  pub parts : make_up_refusal b (length times) (length scratch) room task ≡ Ok tt → MadeUpOf b (length times) (length scratch) room (task - 1) r times'
