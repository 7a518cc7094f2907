-- `counts::carry_of` meets its contract: 1 or 0, shifted to the bit of the set.
use Prim.Native.Nat.{ℕ, ◌*◌, ◌/◌, ◌%◌, ◌^◌, ◌<◌}
use mathlib.Core.Bool.{Bool, true, false, ◌&&◌, and-true, and-false}
use mathlib.Core.Path.{◌≡◌, sym, ap, ◌∙◌}
use native.Mathlib.Nat.{zero-mul}
use native.Mathlib.Omega.{arith}
use lib.Dec.{eqb}
use Rattle.folds.specs.Folds.{only_if}
use Rattle.folds.proofs.Numbers.{only_if-byte}
use Rattle.bitset.specs.Bits.{bit, word_of}
use Rattle.bitset.proofs.Words.{bit-none, bit-one_at, word_of-is}
use Rattle.counts.specs.Carries.{moves}
use Rattle.counts.proofs.carry_of.Goals as goal

shifted : (k : ℕ) (t : Bool) → k < 64 → (only_if t 1 * 2 ^ k) % 2 ^ 64 ≡ word_of (λ j. eqb j k && t) 64
shifted k true h = word_of-is 64 _ (λ j. eqb j k && true) (omega arith) (λ j l. bit-one_at k j h ∙ sym (and-true (eqb j k)))
shifted k false h =
    let none : (0 * 2 ^ k) % 2 ^ 64 ≡ 0 = ap (λ (x : ℕ). x % 2 ^ 64) (zero-mul (2 ^ k)) in
    word_of-is 64 _ (λ j. eqb j k && false) (omega arith) (λ j l. ap (λ (x : ℕ). bit x j) none ∙ bit-none j ∙ sym (and-false (eqb j k)))

pub returns : goal.returns
returns c =
    let mark = c.args.mark in
    ap (λ (x : ℕ). (x * 2 ^ (mark / 4 % 64)) % 2 ^ 64) (c.from.ensures ∙ only_if-byte (moves mark)) ∙ shifted (mark / 4 % 64) (moves mark) (omega arith)
