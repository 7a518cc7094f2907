-- Laws of rows before others.
-- Assumes nothing.
use Prim.Native.Nat.{ℕ, ◌≤◌}
use mathlib.Core.List.{List}
use mathlib.Core.Path.{◌≡◌, refl, sym, ap, ◌∙◌}
use lib.Dec.{leb, eqb}
use borrow.Author.Tests.{leb-true, eqb-true}
use Rattle.std.specs.Prelude.{Ok, Err, Result}
use Rattle.board.specs.Layout.{tasks}
use Rattle.refusals.specs.Refusals.{Verdict, refuse_unless, ◌or_else◌, refusal_of}
use Rattle.refusals.specs.declared.Row.{Row}
use Rattle.refusals.specs.declared.Refusal.{Refusal}
use Rattle.refusals.proofs.Verdicts.{skip, stop, tested, refuse_at-bad}
use Rattle.checks.specs.Accepted.{Judged}

pub or_else-assoc : (u v w : Verdict) → ((u or_else v) or_else w) ≡ (u or_else v or_else w)
or_else-assoc (Ok passed) v w = refl
or_else-assoc (Err refusal) v w = refl

-- a row, and then rows that are known where it passes
pub row-then : {r u v w : Verdict} (x : Verdict) → r ≡ (u or_else v) → u ≡ x → (u ≡ Ok tt → v ≡ w) → r ≡ (x or_else w)
row-then {u = Ok passed} {v} {w} x e same rest = e ∙ rest refl ∙ ap (λ (y : Verdict). y or_else w) same
row-then {u = Err refusal} {v} {w} x e same rest = e ∙ ap (λ (y : Verdict). y or_else w) same

-- every check: the rows of the board, and then the call's own, as rows of n tasks
pub board-then : (b : List ℕ) {r : Verdict} (found : Result ℕ Refusal) (own : ℕ → Verdict) → Judged b found
    → ((refusal : Refusal) → found ≡ Err refusal → r ≡ Err refusal) → ((n : ℕ) → found ≡ Ok n → r ≡ own n) → r ≡ (refusal_of b or_else own (tasks b))
board-then b (Ok n) own judged stopped rows =
    rows n refl ∙ ap own judged.tasks ∙ ap (λ (y : Verdict). y or_else own (tasks b)) (sym judged.passed)
board-then b (Err refusal) own judged stopped rows = stopped refusal refl ∙ ap (λ (y : Verdict). y or_else own (tasks b)) (sym judged)

-- a length that passed a row
pub length-is : (row : Row) (len n place : ℕ) → Ok tt ≡ refuse_unless row (eqb len n) place → len ≡ n
length-is row len n place e = eqb-true len n (tested row _ place e)

pub length-enough : (row : Row) (n len place : ℕ) → Ok tt ≡ refuse_unless row (leb n len) place → n ≤ len
length-enough row n len place e = leb-true n len (tested row _ place e)

-- a chain of rows in which one goes by a length that another tested
pub ruleset lengths = (skip, stop, refuse_at-bad, length-is, length-enough)
