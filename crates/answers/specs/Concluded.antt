-- For the code: what a call answers and leaves where it is not refused: from the passes that were made, and by the step that made them.
-- Assumes nothing.
use Rattle.std.specs.Prelude.{ℕ, ◌+◌, cond, List, Option, Some, None, Ok, ◌≡◌, ltb, length, take}
use Rattle.board.specs.Layout.{tasks, pass_limit}
use Rattle.passes.specs.Passes.{System, first_late, settled_by}
use Rattle.settling.specs.Delivered.{delivered}
use Rattle.answers.specs.declared.Answer.{Answer}
use Rattle.answers.specs.declared.Answer.TheVariants.{Times, Late, Spent}
use Rattle.answers.specs.Answers.{system, settled_answer, times_left}

-- the answer, of the passes that were made, where the limit allows those needed, and the times R that they ended with
abbrev pub answer_of : System → Option ℕ → List ℕ → Answer
answer_of S None R = Spent
answer_of S (Some p) R = cond (ltb (first_late S R) S.count) (Late (first_late S R + 1) p) (Times p)

-- the times buffer, which was `old`
abbrev pub times_of : System → Option ℕ → List ℕ → List ℕ → List ℕ
times_of S None R old = old
times_of S (Some p) R old = delivered S R old

-- the buffers were `times` and `scratch`, and are times' and scratch', which begins with the settled times unless the passes were spent
pub record Concluded (b : List ℕ) (step : List ℕ → List ℕ) (times scratch : List ℕ) (r : Answer) (times' scratch' : List ℕ) : Type 0 where
  pub answer : r ≡ settled_answer (system b) step (pass_limit b)
  pub given : times' ≡ times_left (system b) step (Ok r) times
  pub size : length scratch' ≡ length scratch
  pub settled : (r ≡ Spent → ⊥) → take (tasks b) scratch' ≡ settled_by (system b) step
