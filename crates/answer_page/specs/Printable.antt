-- For the code: what it takes to print an answer.
-- Assumes nothing.
use Rattle.std.specs.Prelude.{ℕ, ◌≤◌, List, length, Result, Ok, Err}
use Rattle.board.specs.Layout.{tasks}
use Rattle.board.specs.Sound.{Sound}
use Rattle.refusals.specs.declared.Refusal.{Refusal}
use Rattle.answers.specs.declared.Answer.{Answer}
use Rattle.answers.specs.declared.Answer.TheVariants.{Times, Late, Spent}

-- times are printed of a sound board with a time for each task, and the pass limit of a sound board
abbrev pub Printable : List ℕ → List ℕ → Result Answer Refusal → Type 0
Printable b R (Ok (Times passes)) = Sound b × (tasks b ≤ length R)
Printable b R (Ok (Late task passes)) = Unit {0}
Printable b R (Ok Spent) = Sound b
Printable b R (Err refusal) = Unit {0}
