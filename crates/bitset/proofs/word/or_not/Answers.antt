-- `bitset::word::or_not` meets its contract.
use Prim.Native.Nat.{◌-◌, ◌^◌}
use mathlib.Core.Bool.{Bool, not, ◌||◌}
use mathlib.Core.Path.{ap, ◌∙◌}
use native.Mathlib.Omega.{arith}
use lib.Bits.{or_lt}
use Rattle.bitset.specs.Bits.{bit}
use Rattle.bitset.proofs.Words.{bit-or, bit_not, word_of-is}
use Rattle.bitset.proofs.word.or_not.Goals as goal

pub returns : goal.returns
returns c = let a = c.args.a in
    let b = c.args.b in
    let others = (2 ^ 64 - 1) - b in
    word_of-is 64 _ (λ t. bit a t || not (bit b t)) (or_lt 64 a others c.ranges.a.fits (omega arith))
    (λ j h. bit-or a others j ∙ ap (λ (t : Bool). bit a j || t) (bit_not 64 b j c.ranges.b.fits h))
