-- What each call answers, and what it leaves in each lent buffer, for every input.
-- Assumes nothing.
use Rattle.std.specs.Prelude.{ℕ, ◌+◌, ◌-◌, cond, List, Result, Ok, Err, ◌≡◌, ltb, length, get_or}
use Rattle.folds.specs.Folds.{fill_to}
use Rattle.board.specs.Layout.{tasks, pass_limit}
use Rattle.refusals.specs.declared.Refusal.{Refusal}
use Rattle.refusals.specs.Refusals.{Verdict}
use Rattle.figures.specs.declared.Figure.{Figure}
use Rattle.figures.specs.Figures.{figure_of}
use Rattle.figures.specs.Overhead.{γ}
use Rattle.sums.specs.Sums.{task_sum}
use Rattle.passes.specs.Passes.{System, pass, passes_by, settled_by, first_late}
use Rattle.passes.specs.Visits.{in_order}
-- the passes of a board
pub use Rattle.one_pass.specs.System.{system}
use Rattle.checks.specs.CallRefusals.{figures_refusal, overhead_refusal, weigh_refusal, analyse_refusal, in_order_refusal}
use Rattle.answers.specs.declared.Answer.{Answer}
use Rattle.answers.specs.declared.Answer.TheVariants.{Times, Late, Spent}

-- ---- Figures, Overhead, Weigh: the value, unless refused

abbrev pub unless_refused : Verdict → ℕ → Result ℕ Refusal
unless_refused (Ok passed) value = Ok value
unless_refused (Err refusal) value = Err refusal

-- Figures, with a table of this many records: the number of records filled
unfoldable pub figures_answer : List ℕ → ℕ → Result ℕ Refusal
figures_answer b table = unless_refused (figures_refusal b table) (tasks b)

-- Overhead: γ(i, j)
unfoldable pub overhead_answer : List ℕ → ℕ → ℕ → Result ℕ Refusal
overhead_answer b i j = unless_refused (overhead_refusal b i j) (γ b (i - 1) (j - 1))

-- Weigh: Sum_i
unfoldable pub weigh_answer : List ℕ → List ℕ → ℕ → Result ℕ Refusal
weigh_answer b R i = unless_refused (weigh_refusal b R i) (task_sum b R (i - 1))

-- ---- Analyse

-- times, late or spent, by the passes that a step needs: of a board that passes the checks
unfoldable pub settled_answer : System → (List ℕ → List ℕ) → ℕ → Answer
settled_answer S step limit =
    cond (ltb limit (passes_by S step)) Spent
    (cond (ltb (first_late S (settled_by S step)) S.count) (Late (first_late S (settled_by S step) + 1) (passes_by S step)) (Times (passes_by S step)))

abbrev pub answer_for : Verdict → List ℕ → (List ℕ → List ℕ) → Result Answer Refusal
answer_for (Ok passed) b step = Ok (settled_answer (system b) step (pass_limit b))
answer_for (Err refusal) b step = Err refusal

-- by Analyse's own passes
abbrev pub answer_by : Verdict → List ℕ → Result Answer Refusal
answer_by v b = answer_for v b (pass (system b))

-- Analyse, with buffers of these lengths
unfoldable pub analyse_answer : List ℕ → ℕ → ℕ → ℕ → Result Answer Refusal
analyse_answer b times scratch table = answer_by (analyse_refusal b times scratch table) b

-- its sibling, whose passes visit the tasks in the order of a list of task numbers: by its own passes
unfoldable pub in_order_answer : List ℕ → ℕ → ℕ → ℕ → List ℕ → Result Answer Refusal
in_order_answer b times scratch table order = answer_for (in_order_refusal b times scratch table order) b (in_order (system b) order)

-- ---- lent buffers afterwards

-- the times buffer, which was `old`, after passes by a step and the answer r: the settled times are its first n words where the answer is times
unfoldable pub times_left : System → (List ℕ → List ℕ) → Result Answer Refusal → List ℕ → List ℕ
times_left S step (Ok (Times passes)) old = fill_to (λ k. get_or (settled_by S step) k 0) S.count old
times_left S step (Ok (Late task passes)) old = old
times_left S step (Ok Spent) old = old
times_left S step (Err refusal) old = old

-- after Analyse or its sibling answered r
abbrev pub times_after : List ℕ → Result Answer Refusal → List ℕ → List ℕ
times_after b r old = times_left (system b) (pass (system b)) r old

-- the figures table after Figures or Analyse: its first n records are the figures, unless refused
unfoldable pub table_after : List ℕ → Verdict → List Figure → List Figure
table_after b (Ok passed) old = fill_to (figure_of b) (tasks b) old
table_after b (Err refusal) old = old

-- the scratch after Analyse: as it was when refused, and else anything of that length
abbrev pub ScratchAfter : Verdict → List ℕ → List ℕ → Type 0
ScratchAfter (Ok passed) old new = length new ≡ length old
ScratchAfter (Err refusal) old new = new ≡ old
