-- A set of an ECB in a record's words: set s of cache c, where 0 is the code's and 1 the data's, is bit s mod 32 (bit 0 lowest) of word 5 + 8c + floor(s/32).
-- Assumes nothing.
use Prim.Native.Nat.{ℕ, zero, suc, ◌+◌, ◌-◌, ◌*◌, ◌/◌, ◌%◌, ◌^◌, ◌≤◌, ◌<◌}
use mathlib.Core.List.{List}
use mathlib.Core.Logic.{⊎_elim}
use mathlib.Core.Path.{◌≡◌, refl, ap, ap₂, ◌∙◌}
use native.Mathlib.Omega.{arith}
use lib.Dec.{eqb}
use lib.ListN.{get_or}
use lib.Pow.{shr-shr, field, mod-mod-pow}
use Rattle.folds.proofs.Numbers.{le-or-lt}
use Rattle.bitset.specs.Bits.{bit, member}
use Rattle.board.specs.Layout.{most_sets}
use Rattle.figures.specs.declared.Figure.{Figure}
use Rattle.replies.specs.Records.{low_half, high_half, figure_words, figure_word}

-- the bits of a word's halves
bit-low : (x k : ℕ) → k < 32 → bit (low_half x) k ≡ bit x k
unfolding bit
bit-low x k h =
    let whole : 32 ≡ 31 - k + 1 + k = omega arith in
    ap (λ (y : ℕ). eqb (y % 2) 1) (ap (λ (n : ℕ). x % 2 ^ n / 2 ^ k) whole ∙ field x (31 - k + 1) k)
    ∙ ap (λ (y : ℕ). eqb y 1) (mod-mod-pow (x / 2 ^ k) (31 - k) 1)

bit_high : (x k : ℕ) → bit (high_half x) k ≡ bit x (32 + k)
unfolding bit
bit_high x k = ap (λ (y : ℕ). eqb (y % 2) 1) (shr-shr x 32 k)

-- the ECB of cache c
abbrev pub ecb_of : Figure → ℕ → List ℕ
ecb_of f zero = f.ecb
ecb_of f (suc c) = f.data_ecb

-- the two words of word i of it
halves : (f : Figure) (c i : ℕ) → c < 2 → i < 4
    → (figure_word f (5 + 8 * c + 2 * i) ≡ low_half (get_or (ecb_of f c) i 0)) × (figure_word f (6 + 8 * c + 2 * i) ≡ high_half (get_or (ecb_of f c) i 0))
unfolding figure_words
halves f zero zero l h = (refl, refl)
halves f zero (suc zero) l h = (refl, refl)
halves f zero (suc (suc zero)) l h = (refl, refl)
halves f zero (suc (suc (suc zero))) l h = (refl, refl)
halves f zero (suc (suc (suc (suc i)))) l h = absurd (omega arith)
halves f (suc zero) zero l h = (refl, refl)
halves f (suc zero) (suc zero) l h = (refl, refl)
halves f (suc zero) (suc (suc zero)) l h = (refl, refl)
halves f (suc zero) (suc (suc (suc zero))) l h = (refl, refl)
halves f (suc zero) (suc (suc (suc (suc i)))) l h = absurd (omega arith)
halves f (suc (suc c)) i l h = absurd (omega arith)

pub figure_word-set : (f : Figure) (c s : ℕ) → c < 2 → s < most_sets → bit (figure_word f (5 + 8 * c + s / 32)) (s % 32) ≡ member (ecb_of f c) s
unfolding member
figure_word-set f c s two h = ⊎_elim upper lower (le-or-lt 32 (s % 64))
  where
    word : ℕ
    word = get_or (ecb_of f c) (s / 64) 0

    both : (figure_word f (5 + 8 * c + 2 * (s / 64)) ≡ low_half word) × (figure_word f (6 + 8 * c + 2 * (s / 64)) ≡ high_half word)
    both = halves f c (s / 64) two (omega arith)

    lower : s % 64 < 32 → bit (figure_word f (5 + 8 * c + s / 32)) (s % 32) ≡ bit word (s % 64)
    lower l =
        let at : 5 + 8 * c + s / 32 ≡ 5 + 8 * c + 2 * (s / 64) = omega arith in
        let place : s % 32 ≡ s % 64 = omega arith in
        ap₂ bit (ap (figure_word f) at ∙ both.0) place ∙ bit-low word (s % 64) l

    upper : 32 ≤ s % 64 → bit (figure_word f (5 + 8 * c + s / 32)) (s % 32) ≡ bit word (s % 64)
    upper l =
        let at : 5 + 8 * c + s / 32 ≡ 6 + 8 * c + 2 * (s / 64) = omega arith in
        let place : 32 + s % 32 ≡ s % 64 = omega arith in
        ap (λ (w : ℕ). bit w (s % 32)) (ap (figure_word f) at ∙ both.1) ∙ bit_high word (s % 32) ∙ ap (bit word) place
