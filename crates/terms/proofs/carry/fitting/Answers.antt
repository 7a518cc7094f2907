-- `terms::carry::fitting` meets its contract.
use native.Mathlib.Omega.{arith}
use mathlib.Core.Path.{◌∙◌}
use Rattle.terms.proofs.Windows.{fitting-all, fitting-some}
use Rattle.terms.proofs.carry.fitting.Goals as goal

pub returns-then-demand-d : goal.returns-then-demand-d
returns-then-demand-d c = fitting-all _ _ _ (omega arith) c.if-demand-d.true

pub returns-else-demand-d : goal.returns-else-demand-d
returns-else-demand-d c = c.ceil_div.ensures.0 ∙ fitting-some _ _ _ (omega arith) c.if-demand-d.false
