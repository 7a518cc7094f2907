-- `carried::cores::Cores::core_sum` meets its contract.
use Prim.Native.Nat.{ℕ}
use mathlib.Core.List.{List}
use mathlib.Core.Path.{ap, ◌∙◌}
use native.Mathlib.Omega.{arith}
use Rattle.folds.specs.Folds.{last_to}
use Rattle.folds.proofs.Reaches.{reaches_all, reaches-cap}
use Rattle.board.specs.Layout.{tasks}
use Rattle.sums.specs.Links.{is_on}
use Rattle.linked_tasks.specs.Numbered.{task_numbered}
use Rattle.linked_tasks.proofs.Along.{along-task, along-less, along-turn}
use Rattle.carried.proofs.Along.{accesses-start, accesses-below, accesses-few, accesses-end}
use Rattle.carried.proofs.Bounds.{carry-bound}
use Rattle.carried.proofs.Inputs.{input}
use Rattle.carried.proofs.cores.Cores.core_sum.Goals as goal

pub loop-next-init : goal.loop-next-init
loop-next-init c =
    let last = λ (b : List ℕ). task_numbered (last_to (is_on b c.args.y) (tasks b)) in
    accesses-start _ _ _ _ _ _ _ (input c.args.self.now) (c.last_on-next.ensures ∙ ap last c.words.ensures)

-- the cap is reached
pub returns-then-cap-sum : goal.returns-then-cap-sum
returns-then-cap-sum c =
    let so_far = c.loop-next.invariant in
    (reaches-cap (omega arith) (accesses-below _ _ _ _ _ _ _ (input c.args.self.now) so_far), accesses-few _ _ _ _ _ _ _ (input c.args.self.now) so_far)

pub overflow_add-sum : goal.overflow_add-sum
overflow_add-sum c =
    let h = (input c.args.self.now) in
    omega (
      arith,
      accesses-few _ _ _ _ _ _ _ h c.loop-next.invariant,
      c.carry_in-sum.ensures,
      carry-bound _ _ _ _ _ h.rows h.early c.in-Some.k (omega (arith, along-task _ _ _ _ c.loop-next.invariant c.in-Some.is, h.rows.task)),
    )

pub loop-next-smaller : goal.loop-next-smaller
loop-next-smaller c = along-less _ _ _ _ c.loop-next.invariant c.in-Some.is c.above-next.ensures

pub loop-next-preserved : goal.loop-next-preserved
loop-next-preserved c = along-turn _ _ _ _ c.loop-next.invariant c.in-Some.is c.above-next.ensures (omega (arith, c.carry_in-sum.ensures))

-- all tasks of the core
pub returns : goal.returns
returns c =
    let so_far = c.loop-next.invariant in
    (reaches_all (accesses-end _ _ _ _ _ _ _ (input c.args.self.now) so_far c.in_default.is), accesses-few _ _ _ _ _ _ _ (input c.args.self.now) so_far)
