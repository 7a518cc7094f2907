-- `carried::others::others_from` meets its contract.
use native.Mathlib.Nat.{le_trans, le_of_eq}
use native.Mathlib.Omega.{arith}
use Prim.Native.Nat.{ℕ, ◌+◌, ◌≤◌}
use mathlib.Core.List.{List}
use mathlib.Core.Path.{◌≡◌, sym}
use Rattle.folds.specs.Folds.{sum_to}
use Rattle.folds.proofs.Folds.{sum_to-prefix}
use Rattle.folds.proofs.Loops.{at-end}
use Rattle.folds.proofs.Reaches.{reaches_all, reaches-cap}
use Rattle.sums.specs.Limits.{latest_time, most_accesses}
use Rattle.sums.specs.Inputs.{RowInput}
use Rattle.carried.specs.Terms.{carried_if, carried_off}
use Rattle.carried.proofs.ByTask.{carried_none, carried-turn}
use Rattle.carried.proofs.Bounds.{carry_off-bound, carried_if-bound}
use Rattle.carried.proofs.others.others_from.Goals as goal

few : (b row R : List ℕ) (t x j a : ℕ) {sum k : ℕ} → RowInput b row R j → t ≤ latest_time → sum ≡ sum_to (carried_if b R t x j a) k → k ≤ j + 1 → sum ≤ most_accesses
few b row R t x j a h early so_far low = le_trans (le_of_eq so_far) (carried_if-bound _ _ _ _ _ h early x a _ low)

pub loop-k-init : goal.loop-k-init
loop-k-init c = let w = c.args.window.now in sym (carried_none w.board.now w.times.now w.t c.args.x w.j c.args.a)

-- the cap is reached
pub returns-then-cap-sum : goal.returns-then-cap-sum
unfolding carried_off
returns-then-cap-sum c =
    let so_far = c.loop-k.invariant in (
      reaches-cap (omega arith) (le_trans (le_of_eq so_far) (sum_to-prefix _ _ _ (omega arith))),
      few _ _ _ _ _ _ _ c.args.window.now.rows c.args.window.now.early so_far (omega arith),
    )

pub overflow_add-sum : goal.overflow_add-sum
overflow_add-sum c =
    let w = c.args.window.now in
    omega (
      arith,
      few _ _ _ _ _ _ _ w.rows w.early c.loop-k.invariant (omega arith),
      c.carry_off-sum.ensures,
      carry_off-bound _ _ _ _ _ w.rows w.early c.args.x c.loop-k.k (omega (arith, w.rows.task)),
    )

pub loop-k-preserved : goal.loop-k-preserved
loop-k-preserved c = let w = c.args.window.now in carried-turn w.board.now w.times.now w.t c.args.x w.j c.args.a _ (omega arith) c.loop-k.invariant c.carry_off-sum.ensures

pub returns : goal.returns
unfolding carried_off
returns c =
    let so_far = c.loop-k.invariant in (
      reaches_all (at-end (sum_to _) so_far (omega arith) c.loop-k-test.false),
      few _ _ _ _ _ _ _ c.args.window.now.rows c.args.window.now.early so_far (omega arith),
    )
