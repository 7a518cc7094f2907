-- `bitset::empty` meets its contract.
use Rattle.folds.specs.Folds.{tabulate}
use Rattle.bitset.proofs.Sets.{empty-words}
use Rattle.bitset.proofs.empty.Goals as goal

pub returns : goal.returns
unfolding tabulate
returns c = empty-words 8
