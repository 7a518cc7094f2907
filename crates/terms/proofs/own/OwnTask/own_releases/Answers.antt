-- `terms::own::OwnTask::own_releases` meets its contract: of the task itself no jitter counts.
use native.Mathlib.Omega.{arith}
use mathlib.Core.Path.{refl, sym, ◌∙◌, ap₂}
use Rattle.folds.specs.Folds.{ceil_div}
use Rattle.sums.proofs.Jitter.{releases-own}
use Rattle.terms.proofs.own.OwnTask.own_releases.Goals as goal

pub returns : goal.returns
returns c = (c.ceil_div_tested.ensures.0 ∙ ap₂ ceil_div (omega arith) (omega arith) ∙ sym (releases-own _ _ _ refl _), omega arith)
