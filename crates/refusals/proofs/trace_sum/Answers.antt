-- `refusals::trace_sum` meets its contract.
use mathlib.Core.Path.{◌∙◌}
use Rattle.refusals.proofs.Strides.{sum-counts}
use Rattle.refusals.proofs.trace_sum.Goals as goal

pub returns : goal.returns
returns c = c.sum_words.ensures ∙ sum-counts _ _
