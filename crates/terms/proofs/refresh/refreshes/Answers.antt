-- `terms::refresh::refreshes` meets its contract.
use mathlib.Core.Path.{sym}
use Rattle.sums.specs.Sums as spec
use Rattle.terms.proofs.refresh.refreshes.Goals as goal

pub returns-in-Absent : goal.returns-in-Absent
unfolding spec.refreshes
returns-in-Absent c = rw (sym c.in-Absent.ensures.0)
