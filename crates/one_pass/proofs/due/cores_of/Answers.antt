-- `one_pass::due::cores_of` meets its contract.
use native.Mathlib.Omega.{arith}
use Rattle.one_pass.proofs.DueTasks.{cores-none, cores-more}
use Rattle.one_pass.proofs.due.cores_of.Goals as goal

pub loop-k-init : goal.loop-k-init
loop-k-init c = cores-none _

pub loop-k-preserved : goal.loop-k-preserved
loop-k-preserved c =
    let core = c.core.ensures in
    cores-more c.args.board.now c.loop-k.invariant (omega arith) (omega (arith, core.0, core.1)) (omega (arith, core.1)) c.with.ensures
