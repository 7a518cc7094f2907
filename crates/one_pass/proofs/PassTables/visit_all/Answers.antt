-- `one_pass::PassTables::visit_all` meets its contract.
use mathlib.Core.Path.{refl}
use Rattle.one_pass.proofs.Turned.{turned_none, turned_more}
use Rattle.one_pass.proofs.PassTables.visit_all.Goals as goal

pub loop-number-init : goal.loop-number-init
loop-number-init c = (turned_none c.args.self.now.board.now c.args.order.now _, c.requires.0)

pub loop-number-preserved : goal.loop-number-preserved
loop-number-preserved c =
    let visit = c.visit_task-changed.ensures in
    (turned_more c.args.self.now.board.now c.args.order.now _ _ c.loop-number.invariant.0 refl visit.0, visit.1)
