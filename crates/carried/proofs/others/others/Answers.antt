-- `carried::others::others` meets its contract.
use native.Mathlib.Nat.{le_trans, le_of_eq}
use native.Mathlib.Omega.{arith}
use mathlib.Core.Path.{sym}
use Rattle.folds.specs.Folds.{sum_to}
use Rattle.folds.proofs.Loops.{at-end}
use Rattle.carried.specs.Terms.{carried_off}
use Rattle.carried.proofs.ByTask.{carried_none, carried-turn}
use Rattle.carried.proofs.Bounds.{carry_off-bound, carried_if-bound}
use Rattle.carried.proofs.others.others.Goals as goal

pub loop-k-init : goal.loop-k-init
loop-k-init c = let w = c.args.window.now in sym (carried_none w.board.now w.times.now w.t c.args.x w.j 0)

pub overflow_add-sum : goal.overflow_add-sum
overflow_add-sum c =
    let w = c.args.window.now in
    omega (
      arith,
      le_trans (le_of_eq c.loop-k.invariant) (carried_if-bound _ _ _ _ _ w.rows w.early c.args.x 0 _ c.loop-k.auto.k-end),
      c.carry_off-sum.ensures,
      carry_off-bound _ _ _ _ _ w.rows w.early c.args.x c.loop-k.k (omega (arith, w.rows.task)),
    )

pub loop-k-preserved : goal.loop-k-preserved
loop-k-preserved c = let w = c.args.window.now in carried-turn w.board.now w.times.now w.t c.args.x w.j 0 _ (omega arith) c.loop-k.invariant c.carry_off-sum.ensures

pub returns : goal.returns
unfolding carried_off
returns c =
    let all = at-end (sum_to _) c.loop-k.invariant c.loop-k.auto.k-end c.loop-k-test.false in
    (all, le_trans (le_of_eq all) (carried_if-bound _ _ _ _ _ c.args.window.now.rows c.args.window.now.early c.args.x 0 _ (omega arith)))
