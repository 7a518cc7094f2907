-- `terms::carry::in_window` meets its contract.
use mathlib.Core.Path.{◌∙◌}
use Rattle.terms.proofs.Windows.{window-short}
use Rattle.terms.proofs.carry.in_window.Goals as goal

pub returns-then-u-period : goal.returns-then-u-period
returns-then-u-period c = c.fitting.ensures ∙ window-short _ _ _ _ c.if-u-period.true
