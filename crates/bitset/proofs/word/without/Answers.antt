-- `bitset::word::without` meets its contract.
use Prim.Native.Nat.{◌-◌, ◌^◌}
use mathlib.Core.Bool.{Bool, not, ◌&&◌}
use mathlib.Core.Path.{ap, ◌∙◌}
use native.Mathlib.Nat.{lt_of_le_of_lt}
use native.Mathlib.Omega.{arith}
use lib.Bits.{and_le_r}
use lib.Dec.{eqb}
use Rattle.bitset.specs.Bits.{bit}
use Rattle.bitset.proofs.Words.{bit-and, bit_not, one_at, bit-one_at, word_of-is}
use Rattle.bitset.proofs.word.without.Goals as goal

pub returns : goal.returns
returns c = let w = c.args.w in
    let k = c.args.k in
    let others = (2 ^ 64 - 1) - one_at k in
    word_of-is 64 _ (λ t. not (eqb t k) && bit w t) (lt_of_le_of_lt (and_le_r others w) c.ranges.w.fits)
    (λ j h. bit-and others w j ∙ ap (λ (t : Bool). t && bit w j) (bit_not 64 (one_at k) j (omega arith) h ∙ ap not (bit-one_at k j c.requires)))
