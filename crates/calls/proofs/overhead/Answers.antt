-- Where no row refuses, the value is that of the pair.
use Rattle.std.proofs.Common.{sym}
use Rattle.checks.proofs.Accepted.{overhead-taken}
use Rattle.calls.proofs.overhead.Goals as goal

pub of-requires : goal.of-requires
of-requires c = (overhead-taken _ _ _ (sym c.in_ok-check_overhead.ensures)).sound

pub overhead-requires : goal.overhead-requires
overhead-requires c = rw c.of.ensures (overhead-taken _ _ _ (sym c.in_ok-check_overhead.ensures))
