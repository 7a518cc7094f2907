-- `folds::ceil_div` meets its contract.
use mathlib.Core.Path.{refl}
use Rattle.folds.specs.Folds.{ceil_div}
use Rattle.folds.proofs.Numbers.{ceil_div-self}
use Rattle.folds.proofs.ceil_div.Goals as goal

pub returns : goal.returns
unfolding ceil_div
returns c = (refl, ceil_div-self _ _)
