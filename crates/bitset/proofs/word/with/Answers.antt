-- `bitset::word::with` meets its contract.
use mathlib.Core.Bool.{Bool, ◌||◌}
use mathlib.Core.Path.{ap, ◌∙◌}
use native.Mathlib.Omega.{arith}
use lib.Bits.{or_lt}
use lib.Dec.{eqb}
use Rattle.bitset.specs.Bits.{bit}
use Rattle.bitset.proofs.Words.{bit-or, one_at, bit-one_at, word_of-is}
use Rattle.bitset.proofs.word.with.Goals as goal

pub returns : goal.returns
returns c = let w = c.args.w in
    let k = c.args.k in
    word_of-is 64 _ (λ t. eqb t k || bit w t) (or_lt 64 (one_at k) w (omega arith) c.ranges.w.fits)
    (λ j h. bit-or (one_at k) w j ∙ ap (λ (t : Bool). t || bit w j) (bit-one_at k j c.requires))
