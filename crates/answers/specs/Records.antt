-- For the code: how many records of the figures table a call fills: one a task, and none where it refuses.
-- Assumes nothing.
use Rattle.std.specs.Prelude.{ℕ, ◌*◌, ◌≤◌, List, Ok, Err, ◌≡◌}
use Rattle.board.specs.Layout.{tasks, most_tasks}
use Rattle.refusals.specs.Refusals.{Verdict}
use Rattle.figures.specs.Survey.{Fillable}
use Rattle.figures.specs.declared.FigureWords.{FigureWords}

abbrev pub records_of : Verdict → List ℕ → ℕ
records_of (Ok passed) b = tasks b
records_of (Err refusal) b = 0

-- the words from which the records of the most tasks are filled: four a task, as the survey of the figures lays them out
abbrev pub most_figure_words : ℕ
most_figure_words = 4 * most_tasks

-- so many records are to be filled from the words and the sets; a table of so many has room for them
abbrev pub RecordsToFill : Verdict → List ℕ → ℕ → FigureWords → Type 0
RecordsToFill v b room f = (f.records ≡ records_of v b) × (Fillable b f.records f.words f.sets × (f.records ≤ room))
