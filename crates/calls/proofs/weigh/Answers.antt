-- Where no row refuses, the value is the task's sum.
use Rattle.std.proofs.Common.{sym}
use Rattle.checks.proofs.Accepted.{weigh-taken}
use Rattle.calls.proofs.weigh.Goals as goal

pub of-requires : goal.of-requires
of-requires c = (weigh-taken _ _ _ (sym c.in_ok-check_weigh.ensures)).sound

pub sum-requires : goal.sum-requires
sum-requires c = rw c.of.ensures (weigh-taken _ _ _ (sym c.in_ok-check_weigh.ensures))
