-- `ranges::header_ok` meets its contract: in each arm the word's index is known, and its entry of `header_ranges` is the arm's test.
use mathlib.Core.Path.{◌∙◌}
use Rattle.ranges.specs.Ranges.{header_ranges}
use Rattle.ranges.proofs.Rows.{header_row}
use Rattle.ranges.proofs.header_ok.Goals as goal

pub returns-in-2 : goal.returns-in-2
unfolding header_ranges
returns-in-2 c = c.within-in-2.ensures ∙ header_row _ c.in-2.is
