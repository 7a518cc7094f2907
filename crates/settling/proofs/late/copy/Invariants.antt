-- The first k words are those of the other list.
use Rattle.std.proofs.Common.{◌≡◌, get_or}
use Rattle.folds.specs.Folds.{fill_to}
use Rattle.settling.proofs.late.copy.Given as goal

abbrev pub invariant-loop-k : goal.invariant-loop-k
invariant-loop-k l = l.to ≡ fill_to (λ j. get_or l.from j 0) l.k l.fn.to
