-- The page of an answer ("The program's page"): the bytes of its lines.
-- Assumes nothing.
use Rattle.std.specs.Prelude.{ℕ, ◌+◌, List, [], ◌∷◌, ◌++◌, get_or, Result, Ok, Err}
use Rattle.folds.specs.Folds.{join_to}
use Rattle.board.specs.Layout.{tasks, core, deadline, pass_limit}
use Rattle.refusals.specs.Refusals.{row_number}
use Rattle.refusals.specs.declared.Refusal.{Refusal}
use Rattle.answers.specs.declared.Answer.{Answer}
use Rattle.answers.specs.declared.Answer.TheVariants.{Times, Late, Spent}
use Rattle.text.specs.Text.{decimal, line, ok_text, late_text, spent_text, bad_text}

-- task, core, time, deadline
abbrev pub task_line : List ℕ → List ℕ → ℕ → List ℕ
task_line b R k = line (decimal (k + 1) ∷ decimal (core b k) ∷ decimal (get_or R k 0) ∷ decimal (deadline b k) ∷ [])

-- those of the first n tasks
abbrev pub task_lines : List ℕ → List ℕ → ℕ → List ℕ
task_lines b R n = join_to (task_line b R) n

abbrev pub bad_line : ℕ → ℕ → List ℕ
bad_line number place = line (bad_text ∷ decimal number ∷ decimal place ∷ [])

-- the page of an answer r, with R in the times buffer
unfoldable pub answer_page : List ℕ → List ℕ → Result Answer Refusal → List ℕ
answer_page b R (Ok (Times passes)) = line (ok_text ∷ decimal (tasks b) ∷ decimal passes ∷ []) ++ task_lines b R (tasks b)
answer_page b R (Ok (Late task passes)) = line (late_text ∷ decimal task ∷ decimal passes ∷ [])
answer_page b R (Ok Spent) = line (spent_text ∷ decimal (pass_limit b) ∷ [])
answer_page b R (Err refusal) = bad_line (row_number refusal.row) refusal.place
