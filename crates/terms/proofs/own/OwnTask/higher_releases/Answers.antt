-- `terms::own::OwnTask::higher_releases` meets its contract: the task is another one, so that its jitter counts.
use native.Mathlib.Omega.{arith}
use mathlib.Core.Path.{sym, ◌∙◌, ap₂}
use Rattle.folds.specs.Folds.{ceil_div}
use Rattle.sums.proofs.Jitter.{releases-other}
use Rattle.terms.proofs.own.OwnTask.higher_releases.Goals as goal

pub returns : goal.returns
returns c = (
  c.ceil_div_tested.ensures.0 ∙ ap₂ ceil_div (omega arith) (omega arith) ∙ sym (releases-other _ _ _ (λ same. omega arith) _),
  omega arith,
)
