-- A call that is refused, and one that is let through.
use Rattle.std.proofs.Common.{refl}
use Rattle.answers.proofs.Outcomes.{refused-is}
use Rattle.settle.proofs.Settled.{settled-refused, settled-passed}
use Rattle.settle.proofs.settle.Goals as goal

pub returns-in_err-verdict : goal.returns-in_err-verdict
returns-in_err-verdict g c = rw (refused-is _ c.from_residual.ensures) (settled-refused c.in_err-verdict.was refl)

pub returns : goal.returns
returns g c =
    let known = c.requires c.in_ok-verdict.was in
    rw (← c.of-board.ensures)
    (settled-passed (g.met.R.PassRule.ascends _ _ (rw c.of-board.ensures known.1)) c.in_ok-verdict.was (rw c.of-board.ensures known.0.times_room)
    c.tasks-n.ensures.0 c.begin.ensures c.answer.ensures)
