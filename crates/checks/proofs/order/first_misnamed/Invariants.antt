use mathlib.Core.Path.{◌≡◌}
use lib.ListN.{length}
use Rattle.refusals.specs.Found.{bad_in}
use Rattle.checks.specs.CallRefusals.{number_ok}
use Rattle.checks.proofs.Seen.{seen_to}
use Rattle.checks.proofs.order.first_misnamed.Given as goal

-- what is to be found is what is found from here on, and the set has the numbers before this one
abbrev pub invariant-loop-k : goal.invariant-loop-k
invariant-loop-k l = record {
  found : bad_in (number_ok l.n l.order) l.k (length l.order) ≡ bad_in (number_ok l.n l.order) 0 (length l.order);
  seen : l.seen ≡ seen_to l.order l.k;
}
