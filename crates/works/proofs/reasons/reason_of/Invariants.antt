-- Of the parts before k the one at `at` is the largest, and the earliest of equals.
use Rattle.std.proofs.Common.{get_or}
use Rattle.folds.specs.Folds.{Largest}
use Rattle.works.proofs.reasons.reason_of.Given as goal

abbrev pub invariant-loop-k : goal.invariant-loop-k
invariant-loop-k l = Largest (λ j. get_or l.all j 0) l.k l.at
