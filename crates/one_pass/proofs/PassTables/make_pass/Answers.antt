-- `one_pass::PassTables::make_pass` meets its contract: the times and the figures stay while the next times are stored.
use mathlib.Core.List.{List}
use Prim.Native.Nat.{ℕ}
use mathlib.Core.Path.{sym, ap, ◌∙◌}
use native.Mathlib.Omega.{arith}
use Rattle.passes.specs.Passes.{capped}
use Rattle.folds.proofs.Stored.{stored_next}
use Rattle.scratch.proofs.Prepared.{prepared-stored}
use Rattle.one_pass.specs.System.{system}
use Rattle.one_pass.proofs.Halves.{startable-stored, times-kept}
use Rattle.one_pass.proofs.PassTables.make_pass.Goals.{then-has, else-has}
use Rattle.one_pass.proofs.PassTables.make_pass.Goals as goal

pub next_time-next-requires : goal.next_time-next-requires
next_time-next-requires c =
    let so_far = c.loop-i.invariant in
    (startable-stored c.requires.0 so_far (omega arith), prepared-stored c.requires.1 so_far (omega arith), omega arith)

-- the next time of task i was computed, or is its time
pub loop-i-preserved : goal.loop-i-preserved
loop-i-preserved c =
    let l = c.loop-i in
    stored_next _ _ _ l.invariant (omega (arith, c.requires.0.room.words))
    (elim c.if-has.branch [
      | then-has came ↦ came.next-is ∙ came.next_time-next.ensures ∙ ap (λ (R : List ℕ). capped (system c.args.self.now.board.now) R l.i) (times-kept c.requires.0 l.invariant)
      | else-has came ↦ came.next-is ∙ l.invariant.before l.i (omega arith) ∙ c.requires.2 l.i (omega arith) (sym c.has.ensures ∙ came.if-has.false)
    ])
