-- What the traces passed have.
use Rattle.entries.specs.Marks.{AllEarlier, base_of}
use Rattle.trace.specs.Starts.{At}
use Rattle.survey.proofs.Gathered.{Gathered}
use Rattle.survey.proofs.survey_task.Given as goal

abbrev pub invariant-loop-r : goal.invariant-loop-r
invariant-loop-r l =
    At l.board l.i l._r l.at.trace l.at.start
    × Gathered l.board l.i l._r l.pd l.md l.ecb l.initial.row l.row × AllEarlier (base_of l.at.trace) l.space.held
