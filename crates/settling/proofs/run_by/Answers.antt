-- `settling::run_by` meets its contract.
use mathlib.Core.Path.{subst}
use native.Mathlib.Omega.{arith}
use Prim.Native.Nat.{◌≤◌}
use lib.ListN.{length}
use Rattle.folds.proofs.Filled.{zeros-filled}
use Rattle.one_pass.specs.System.{system}
use Rattle.one_pass.specs.Visiting.{Visited}
use Rattle.settling.proofs.Counting.{counting-start, counting-over, counting-next, counting-still}
use Rattle.settling.proofs.Turning.{visitable-start}
use Rattle.settling.proofs.run_by.Goals as goal

pub loop-made-init : goal.loop-made-init
loop-made-init g c =
    let b = c.args.tables.now.board.now in
    let ready = c.requires.0 in
    let room : c.args.tables.now.n ≤ length c.args.scratch.now = omega (arith, ready.room.words) in
    let cleared = zeros-filled c.args.tables.now.n c.args.scratch.now room (c.fill.ensures.after (λ y e. e)) in
    let up = g.met.R.PassRule.ascends c.args.rule.now b (rw (← ready.room.tasks) c.requires.1) in
    (counting-start (system b) (g.R.PassRule.step c.args.rule.now b) c.args.scratch.now ready.room.tasks room cleared, visitable-start up ready cleared)

pub returns-then-not-pass : goal.returns-then-not-pass
returns-then-not-pass g c =
    let ready = c.requires.0 in
    let up = g.met.R.PassRule.ascends c.args.rule.now c.args.tables.now.board.now (rw (← ready.room.tasks) c.requires.1) in
    let end = counting-still up c.loop-made.invariant.0 (omega arith) ready.room.tasks (subst (Visited _ _ _ _) c.if-not-pass.true c.pass.ensures.0) in
    (end.0, end.1, c.pass.ensures.1.prepared)

pub loop-made-preserved : goal.loop-made-preserved
loop-made-preserved g c =
    let ready = c.requires.0 in
    let up = g.met.R.PassRule.ascends c.args.rule.now c.args.tables.now.board.now (rw (← ready.room.tasks) c.requires.1) in
    (counting-next up c.loop-made.invariant.0 (subst (Visited _ _ _ _) c.if-not-pass.false c.pass.ensures.0), c.pass.ensures.1)

pub returns : goal.returns
returns g c =
    let ready = c.requires.0 in
    let up = g.met.R.PassRule.ascends c.args.rule.now c.args.tables.now.board.now (rw (← ready.room.tasks) c.requires.1) in
    let end = counting-over up c.loop-made.invariant.0 (omega arith) in
    (end.0, end.1, c.loop-made.invariant.1.prepared)
