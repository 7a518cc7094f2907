-- `checks::order::first_misnamed` meets its contract.
use mathlib.Core.Bool.{false, not}
use mathlib.Core.Path.{◌≡◌, refl, sym, ap, ◌∙◌}
use native.Mathlib.Omega.{arith}
use Rattle.refusals.proofs.Searches.{bad_in-pass, bad_in-stop}
use Rattle.checks.specs.CallRefusals.{number_ok}
use Rattle.checks.proofs.Seen.{seen_none, number-known, seen_next}
use Rattle.checks.proofs.order.first_misnamed.Goals as goal

pub loop-k-init : goal.loop-k-init
loop-k-init c = record { found = refl; seen = seen_none c.args.order.now }

pub returns-then-not-is_number : goal.returns-then-not-is_number
returns-then-not-is_number c =
    let bad : number_ok c.args.n c.args.order.now c.loop-k.k ≡ false = rw (← c.if-not-is_number.ensures) in
    sym (bad_in-stop _ _ _ (omega arith) bad) ∙ c.loop-k.invariant.found

pub returns-then-has : goal.returns-then-has
returns-then-has c =
    let known = number-known c.args.order.now c.args.n c.loop-k.k c.requires (sym c.if-not-is_number.ensures) c.loop-k.invariant.seen in
    sym (bad_in-stop _ _ _ (omega arith) (known ∙ ap not (sym c.if-has.ensures))) ∙ c.loop-k.invariant.found

pub loop-k-preserved : goal.loop-k-preserved
loop-k-preserved c =
    let inside = sym c.if-not-is_number.ensures in
    let known = number-known c.args.order.now c.args.n c.loop-k.k c.requires inside c.loop-k.invariant.seen in
    record {
      found = bad_in-pass _ _ _ (omega arith) (known ∙ ap not (sym c.if-has.ensures)) ∙ c.loop-k.invariant.found;
      seen = seen_next c.args.order.now c.args.n c.loop-k.k c.requires inside c.loop-k.invariant.seen c.with-seen.ensures;
    }
