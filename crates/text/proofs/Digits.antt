-- The digits that `io::decimal` gives are the number in decimal, and how many there are at most.
-- Assumes nothing.
use Prim.Native.Nat.{ℕ, zero, suc, ◌+◌, ◌-◌, ◌/◌, ◌%◌, ◌^◌, ◌≤◌, ◌<◌, zero-le}
use mathlib.Core.Bool.{Bool, true, false}
use mathlib.Core.List.{List, [], ◌∷◌, ◌++◌}
use mathlib.Core.Logic.{⊎_elim}
use mathlib.Core.Path.{◌≡◌, sym, ap, ap₂, ◌∙◌}
use native.Mathlib.Nat.{pow-suc, one-le-pow}
use native.Mathlib.Omega.{arith}
use lib.ListN.{length, length-append}
use borrow.Author.Tests.{lt-ltb, le-ltb}
use Rattle.folds.proofs.Numbers.{le-or-lt}
use Rattle.io.specs.Digits.{hex_digit_ascii, last_digits, IsDigitCount}
use Rattle.text.specs.Text.{digit, digits_of, decimal}

-- a number of one digit, and one of more
abbrev split : ℕ → ℕ → Bool → List ℕ
split k n t = elim t [ true ↦ digit n ∷ [] | false ↦ digits_of k (n / 10) ++ (digit (n % 10) ∷ []) ]

digits_of-one : (k n : ℕ) → n < 10 → digits_of (suc k) n ≡ digit n ∷ []
unfolding digits_of
digits_of-one k n h = ap (split k n) (lt-ltb n 10 h)

digits_of-more : (k n : ℕ) → 10 ≤ n → digits_of (suc k) n ≡ digits_of k (n / 10) ++ (digit (n % 10) ∷ [])
unfolding digits_of
digits_of-more k n h = ap (split k n) (le-ltb n 10 h)

glyph-digit : (d : ℕ) → d < 10 → hex_digit_ascii d ≡ digit d
glyph-digit d h = simp (lt-ltb d 10 h)

digits_are : (f k n : ℕ) → n < f → IsDigitCount 10 1 n k → last_digits 10 k n ≡ digits_of f n
digits_are zero k n h few = absurd (omega arith)
digits_are (suc f) zero n h few = absurd (omega arith)
digits_are (suc f) (suc zero) n h few =
    let one : n < 10 = few.1 in
    let low : n % 10 ≡ n = omega arith in
    ap (λ (d : ℕ). d ∷ []) (glyph-digit (n % 10) (omega arith) ∙ ap digit low) ∙ sym (digits_of-one f n one)
digits_are (suc f) (suc (suc k)) n h few =
    let down : (j : ℕ) → suc j - 1 ≡ j = λ j. omega arith in
    let least : 10 ^ (suc k) ≤ n = rw down at (few.2 (omega arith)) in
    let more : 10 ≤ n = omega (arith, pow-suc 10 k, one-le-pow k 10 (omega arith)) in
    ap₂ (λ (high : List ℕ) (d : ℕ). high ++ (d ∷ []))
    (digits_are f (suc k) (n / 10) (omega arith)
    (omega arith, omega (arith, few.1, pow-suc 10 (suc k)), λ l. rw down (omega (arith, pow-suc 10 k))))
    (glyph-digit (n % 10) (omega arith))
    ∙ sym (digits_of-more f n more)

pub decimal-digits : (k n : ℕ) → IsDigitCount 10 1 n k → last_digits 10 k n ≡ decimal n
unfolding decimal
decimal-digits k n few = digits_are (n + 1) k n (omega arith) few

digits_of-bound : (f k n : ℕ) → n < 10 ^ suc k → length (digits_of f n) ≤ suc k
unfolding digits_of
digits_of-bound zero k n h = zero-le
digits_of-bound (suc f) zero n h = rw (digits_of-one f n h) (omega arith)
digits_of-bound (suc f) (suc k) n h =
    ⊎_elim
    (λ l. rw (digits_of-more f n l, length-append) (omega (arith, digits_of-bound f k (n / 10) (omega (arith, h, pow-suc 10 (suc k))))))
    (λ l. rw (digits_of-one f n l) (omega arith))
    (le-or-lt 10 n)

-- a number below 10^(k + 1) has at most k + 1 digits; with the byte that ends it
pub decimal-bound : (k n : ℕ) → n < 10 ^ suc k → length (decimal n) ≤ suc k
unfolding decimal
decimal-bound k n h = digits_of-bound (n + 1) k n h

pub ended-bound : (k n end : ℕ) → n < 10 ^ suc k → length (decimal n ++ (end ∷ [])) ≤ suc (suc k)
ended-bound k n end h = omega (arith, length-append (decimal n) (end ∷ []), decimal-bound k n h)
