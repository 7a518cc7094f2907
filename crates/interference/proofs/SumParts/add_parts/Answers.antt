-- `interference::SumParts::add_parts` meets its contract.
use native.Mathlib.Omega.{arith}
use mathlib.Core.Path.{◌∙◌}
use Rattle.std.proofs.lemmas.Iterator.{YieldsList-from_slice}
use Rattle.std.proofs.lemmas.Iterator.Consumers.{sum_from_yields_List, fits_from_yields_list}
use Rattle.interference.specs.Parts.{listed}
use Rattle.interference.proofs.Parts.{sum-listed}
use Rattle.interference.proofs.SumParts.add_parts.Goals as goal

pub sum-requires-clause-fits : goal.sum-requires-clause-fits
sum-requires-clause-fits c =
    fits_from_yields_list c.iter.result _ (YieldsList-from_slice (listed c.args.self) cc) (omega (arith, sum-listed c.args.self, c.requires))

pub returns : goal.returns
returns c = sum_from_yields_List c.iter.result _ c.sum.ensures.ran (YieldsList-from_slice (listed c.args.self) cc) ∙ sum-listed c.args.self
