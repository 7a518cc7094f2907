use Rattle.one_pass.specs.System.{system}
use Rattle.one_pass.specs.Visiting.{Visitable}
use Rattle.settling.proofs.Counting.{Counting}
use Rattle.settling.proofs.run_by.Given as goal

abbrev pub invariant-loop-made : goal.invariant-loop-made
invariant-loop-made g l =
    Counting (system l.tables.board.now) (g.R.PassRule.step l.rule l.tables.board.now) l.tables.n l.fn.scratch l.scratch l.made × Visitable l.tables.board.now l.tables.n l.due l.scratch
