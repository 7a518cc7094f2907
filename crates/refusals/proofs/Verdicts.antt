-- What it takes for rows to pass, and what one says before others.
-- Assumes nothing.
use Prim.Native.Nat.{ℕ, ◌≤◌, ◌<◌}
use mathlib.Core.Bool.{Bool, true, false, cond}
use mathlib.Core.Path.{◌≡◌, refl, sym, ap, ◌∙◌}
use borrow.Author.Tests.{le-leb, lt-leb}
use lib.Dec.{leb}
use Rattle.std.specs.Prelude.{Some, None, Ok, Err, IsErr, IsErrAnd}
use Rattle.refusals.specs.Refusals.{Verdict, refused, refuse_unless, first_bad, refuse_first, ◌or_else◌}
use Rattle.refusals.specs.Found.{bad_in, refuse_at}
use Rattle.refusals.specs.declared.Row.{Row}
use Rattle.refusals.specs.declared.Refusal.{Refusal}

-- ---- one row

pub or_else-passed : (u v : Verdict) → (u or_else v) ≡ Ok tt → (u ≡ Ok tt) × (v ≡ Ok tt)
or_else-passed (Ok passed) v e = (refl, e)
or_else-passed (Err refusal) v e = absurd (cc e)

pub refuse_unless-passed : (row : Row) (test : Bool) (place : ℕ) → refuse_unless row test place ≡ Ok tt → test ≡ true
unfolding refuse_unless
refuse_unless-passed row true place e = refl
refuse_unless-passed row false place e = absurd (cc e)

-- a test whose row let pass
pub tested : (row : Row) (test : Bool) (place : ℕ) → Ok tt ≡ refuse_unless row test place → test ≡ true
tested row test place e = refuse_unless-passed row test place (sym e)

-- a chain of rows, each with a `?`: a row that passes is skipped, and one that refuses is the answer
pub skip : {r u v : Verdict} → Ok tt ≡ u → r ≡ v → r ≡ (u or_else v)
skip {v} passed e = e ∙ ap (λ (w : Verdict). w or_else v) passed

pub stop : {r u : Verdict} {refusal : Refusal} (v : Verdict) → IsErr r × IsErrAnd r (λ x. x ≡ refusal) → Err refusal ≡ u → r ≡ (u or_else v)
stop {r = Ok passed} v h e = absurd (cc h.0)
stop {r = Err x} v h e = ap (λ (y : Refusal). Err y) h.1 ∙ ap (λ (w : Verdict). w or_else v) e

module _ (row : Row) {test : Bool} (place : ℕ) where
  pub refuse_unless-true : test ≡ true → refuse_unless row test place ≡ Ok tt
  unfolding refuse_unless
  refuse_unless-true e = ap (λ (t : Bool). cond t (Ok tt) (refused row place)) e

  pub refuse_unless-false : test ≡ false → refuse_unless row test place ≡ refused row place
  unfolding refuse_unless
  refuse_unless-false e = ap (λ (t : Bool). cond t (Ok tt) (refused row place)) e

module _ (row : Row) (test : ℕ → Bool) (from end : ℕ) where
  pub refuse_first-none : end ≤ first_bad test from end → refuse_first row test from end ≡ Ok tt
  unfolding refuse_first
  refuse_first-none h = refuse_unless-true row _ (le-leb end _ h)

  pub refuse_first-some : first_bad test from end < end → refuse_first row test from end ≡ refused row (first_bad test from end)
  unfolding refuse_first
  refuse_first-some h = refuse_unless-false row _ (lt-leb end _ h)

  pub refuse_at-bad : refuse_at row (bad_in test from end) ≡ refuse_first row test from end
  unfolding refuse_first refuse_unless bad_in
  refuse_at-bad = go (leb end (first_bad test from end))
    where
      go : (t : Bool) → refuse_at row (cond t None (Some (first_bad test from end))) ≡ cond t (Ok tt) (refused row (first_bad test from end))
      go true = refl
      go false = refl

  pub refuse_first-unfound : bad_in test from end ≡ None → refuse_first row test from end ≡ Ok tt
  refuse_first-unfound e = sym refuse_at-bad ∙ ap (refuse_at row) e

-- the laws of a chain of rows
pub ruleset chain = (skip, stop, tested)

-- those of a row that refuses at the first bad word
pub ruleset first_rows = (refuse_first-none, refuse_at-bad, refuse_first-unfound)
