-- `one_pass::PassTables::joined` meets its contract.
use Prim.Native.Nat.{ℕ, ◌+◌, ◌-◌}
use mathlib.Core.Bool.{◌&&◌}
use mathlib.Core.Path.{◌≡◌, ap, ◌∙◌}
use native.Mathlib.Omega.{arith}
use lib.Dec.{ltb}
use Rattle.board.specs.Layout.{tasks, core}
use Rattle.bitset.specs.Bits.{word_of}
use Rattle.sums.specs.Links.{is_on}
use Rattle.one_pass.proofs.DueTasks.{joined-own, joined-off}
use Rattle.one_pass.proofs.PassTables.joined.Goals as goal

-- on TDMA, and on another bus
pub returns-in-Tdma : goal.returns-in-Tdma
returns-in-Tdma c = joined-own c.args.self.now.board.now c.args.due c.args.i c.with-own.ensures c.sound.ensures.tasks.1 (cc)

pub returns-in_default : goal.returns-in_default
returns-in_default c =
    let b = c.args.self.now.board.now in
    let on = c.args.self.now.on in
    let at = c.core.result in
    let found = c.core.ensures in
    let here : at - 1 + 1 ≡ core b c.args.i = omega (arith, found.0, found.1) in
    joined-off b c.args.due c.args.i c.with-own.ensures c.sound.ensures.tasks.1
    (c.args.self.now.cores.tasks (at - 1) (omega (arith, found.1)) ∙ ap (λ (y : ℕ). word_of (λ k. ltb k (tasks b) && is_on b y k) 64) here) c.or_not.ensures
