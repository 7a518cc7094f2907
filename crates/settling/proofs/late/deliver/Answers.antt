-- `settling::late::deliver` meets its contract.
use Prim.Native.Nat.{ℕ}
use mathlib.Core.Bool.{not}
use mathlib.Core.Path.{sym, ap, ◌∙◌}
use Rattle.std.specs.Option.{is_some}
use Rattle.one_pass.specs.System.{system}
use Rattle.settling.proofs.Delivered.{delivered-late, delivered-none}
use Rattle.settling.proofs.late.deliver.Goals as goal

pub returns-then-is_none : goal.returns-then-is_none
returns-then-is_none c =
    let S = system c.args.board.now in
    let R = c.args.settled.now in
    let none = ap (is_some {T = ℕ}) (sym c.first_late-late.ensures) ∙ c.is_none.ensures ∙ ap not c.if-is_none.true in
    (c.first_late-late.ensures, delivered-none S R c.args.times.now c.requires.0 none c.copy.ensures)

pub returns-else-is_none : goal.returns-else-is_none
returns-else-is_none c =
    let S = system c.args.board.now in
    let R = c.args.settled.now in
    let some = ap (is_some {T = ℕ}) (sym c.first_late-late.ensures) ∙ c.is_none.ensures ∙ ap not c.if-is_none.false in
    (c.first_late-late.ensures, delivered-late S R c.args.times.now some)
