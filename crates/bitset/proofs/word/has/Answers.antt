-- `bitset::word::has` meets its contract: its test is the definition of `bit`.
use mathlib.Core.Path.{refl}
use Rattle.bitset.specs.Bits.{bit}
use Rattle.bitset.proofs.word.has.Goals as goal

pub returns : goal.returns
unfolding bit
returns c = refl
