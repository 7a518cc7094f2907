-- `linked_tasks::make` meets its contract.
use native.Mathlib.Omega.{arith}
use mathlib.Core.Path.{refl, ap, ◌∙◌}
use Prim.Native.Nat.{ℕ, ◌+◌, ◌-◌}
use Rattle.board.specs.Layout.{most_tasks}
use Rattle.sums.proofs.Links.{linked-none, linked-turn}
use Rattle.linked_tasks.proofs.make.Goals as goal

pub loop-k-init : goal.loop-k-init
loop-k-init c = linked-none c.args.board.now

pub loop-k-preserved : goal.loop-k-preserved
loop-k-preserved c =
    let place = c.last_place-at.ensures ∙ ap (λ (y : ℕ). most_tasks + (y - 1)) c.core.ensures.0 in
    linked-turn c.args.board.now c.loop-k.k c.loop-k.invariant (omega arith) (omega arith, omega arith) place refl refl
