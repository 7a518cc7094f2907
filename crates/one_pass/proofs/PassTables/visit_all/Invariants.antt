use Rattle.one_pass.specs.Visiting.{Visitable}
use Rattle.one_pass.proofs.Turned.{Turned}
use Rattle.one_pass.proofs.PassTables.visit_all.Given as goal

abbrev pub invariant-loop-number : goal.invariant-loop-number
invariant-loop-number l =
    Turned l.self.board.now l.self.n l.order l.number-index l.initial.scratch l.scratch l.changed × Visitable l.self.board.now l.self.n l.due l.scratch
