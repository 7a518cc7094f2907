-- `ranges::task_ok` meets its contract: in each arm the word's field is known, and its row of `task_ranges` is the arm's test.
use mathlib.Core.Path.{◌∙◌}
use Rattle.ranges.specs.Ranges.{task_ranges}
use Rattle.ranges.proofs.Rows.{task_row}
use Rattle.ranges.proofs.task_ok.Goals as goal

pub returns-in-2 : goal.returns-in-2
unfolding task_ranges
returns-in-2 c = c.within-in-2.ensures ∙ task_row _ _ c.in-2.is
