-- The figures, the sets evicted and the rows of the tasks passed.
use Rattle.std.proofs.Common.{◌≡◌, true, length, is_some}
use Rattle.entries.specs.Marks.{AllEarlier, base_of}
use Rattle.trace.specs.Starts.{At}
use Rattle.figures.specs.Rows.{Evicted, Cores}
use Rattle.figures.specs.Survey.{Surveyed, Overheads}
use Rattle.survey.proofs.Rows.{RowOf}
use Rattle.survey.proofs.survey.Given as goal

abbrev pub invariant-loop-i : goal.invariant-loop-i
invariant-loop-i l =
    (length l.words ≡ length l.fn.words) × At l.board l.i 0 l.at.trace l.at.start × Cores l.board l.i l.cores
    × Evicted l.board l.i l.evicted × Surveyed l.board l.n l.i l.words l.sets
    × (is_some l.row ≡ l.rows) × RowOf l.board l.i l.row × (l.rows ≡ true → Overheads l.board l.n l.i l.words) × AllEarlier (base_of l.at.trace) l.space.held
