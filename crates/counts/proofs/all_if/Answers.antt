-- `counts::all_if` meets its contract.
use mathlib.Core.Bool.{Bool, true, false}
use mathlib.Core.Path.{sym, ap, ◌∙◌}
use native.Mathlib.Omega.{arith}
use Rattle.bitset.specs.Bits.{word_of}
use Rattle.bitset.proofs.Words.{bit-none, bit-all, word_of-is}
use Rattle.counts.proofs.all_if.Goals as goal

pub returns-then-test : goal.returns-then-test
returns-then-test c = word_of-is 64 18446744073709551615 (λ t. true) (omega arith) (λ j h. bit-all j h)
    ∙ ap (λ (b : Bool). word_of (λ t. b) 64) (sym c.if-test.true)

pub returns-else-test : goal.returns-else-test
returns-else-test c = word_of-is 64 0 (λ t. false) (omega arith) (λ j h. bit-none j) ∙ ap (λ (b : Bool). word_of (λ t. b) 64) (sym c.if-test.false)
