-- `terms::refresh::distributed` meets its contract.
use native.Mathlib.Omega.{arith}
use mathlib.Core.Path.{◌∙◌}
use Rattle.folds.proofs.Numbers.{div_ceil-is}
use Rattle.terms.proofs.Refreshes.{distributed-is}
use Rattle.terms.proofs.refresh.distributed.Goals as goal

pub returns : goal.returns
returns c =
    distributed-is _ _ _ c.time-t.ensures.0 (omega arith) (omega arith) (c.div_ceil.ensures ∙ div_ceil-is _ _ (omega arith)) (omega arith) c.requires.count_value c.min.ensures
