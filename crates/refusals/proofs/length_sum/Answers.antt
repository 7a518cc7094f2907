-- `refusals::length_sum` meets its contract.
use mathlib.Core.Path.{◌∙◌}
use Rattle.refusals.proofs.Strides.{sum-lengths}
use Rattle.refusals.proofs.length_sum.Goals as goal

pub returns : goal.returns
returns c = c.sum_words.ensures ∙ sum-lengths _ _ _ c.requires.1
