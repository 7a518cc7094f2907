-- `Counts::none` meets its contract: words that are 0 have no number.
use Rattle.std.proofs.Common.{refl}
use Rattle.folds.proofs.Lists.{get_d-none}
use Rattle.counts.proofs.Planes.{count_none}
use Rattle.counts.proofs.Counts.none.Goals as goal

pub returns : goal.returns
returns c = (refl, refl, λ s. count_none c.args.caches _ (λ k. get_d-none 32 k 0) 0 c.args.planes s)
