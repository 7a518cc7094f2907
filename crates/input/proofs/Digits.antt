-- Laws of the number in an argument: a byte that is no digit, and one digit more.
-- Assumes nothing.
use Prim.Native.Nat.{ℕ, ◌+◌, ◌-◌, ◌*◌, ◌^◌, ◌≤◌, ◌<◌, min}
use mathlib.Core.Bool.{Bool, true, false, not, and-false}
use mathlib.Core.List.{List}
use mathlib.Core.Path.{◌≡◌, refl, sym, ap, ◌∙◌}
use native.Mathlib.Numerals.{add-one}
use native.Mathlib.Omega.{arith}
use lib.Dec.{leb}
use lib.ListN.{length, get_or}
use borrow.Author.Tests.{leb-true, le-leb, lt-leb}
use Rattle.folds.specs.Folds.{any_to}
use Rattle.folds.proofs.Folds.{any_to-none, any_to-next, any_to-some}
use Rattle.folds.proofs.Numbers.{and_both}
use Rattle.input.specs.Argument.{is_digit, value_to, number_in}

-- the largest number of 64 bits
abbrev pub largest : ℕ
largest = 2 ^ 64 - 1

-- a digit is a byte from 48 to 57
pub digit-bounds : (byte : ℕ) {digit : Bool} → digit ≡ is_digit byte → digit ≡ true → (48 ≤ byte) × (byte ≤ 57)
digit-bounds byte {digit} e h =
    let both = and_both (leb 48 byte) (leb byte 57) (sym e ∙ h) in
    (leb-true 48 byte both.0, leb-true byte 57 both.1)

in_range : (byte : ℕ) → 48 ≤ byte → byte ≤ 57 → is_digit byte ≡ true
in_range byte low high = rw (le-leb 48 byte low, le-leb byte 57 high)

-- byte k is no digit
abbrev pub other : List ℕ → ℕ → Bool
other bytes k = not (is_digit (get_or bytes k 0))

-- one digit more, where both the value before it and the value with it stop at `most`
capped-more : (v d most : ℕ) → min (min (min v most * 10) most + d) most ≡ min (10 * v + d) most
capped-more v d most = omega arith

module _ (bytes : List ℕ) where
  -- no byte read
  pub other_none : any_to (other bytes) 0 ≡ false
  other_none = any_to-none (other bytes)

  pub value_none : 0 ≡ min (value_to bytes 0) largest
  unfolding value_to
  value_none = refl

  -- one more digit
  pub other-next : (k : ℕ) {digit : Bool} → digit ≡ is_digit (get_or bytes k 0) → digit ≡ true → any_to (other bytes) k ≡ false
      → any_to (other bytes) (k + 1) ≡ false
  other-next k e h none = rw (any_to-next (other bytes) k, none, ← e, h)

  pub digit-next : (k v d : ℕ) {w : ℕ} → 48 ≤ get_or bytes k 0 → get_or bytes k 0 ≤ 57 → any_to (other bytes) k ≡ false → v ≡ min (value_to bytes k) largest
      → d ≡ get_or bytes k 0 - 48 → w ≡ min (min (v * 10) largest + d) largest
      → (any_to (other bytes) (k + 1) ≡ false) × (w ≡ min (value_to bytes (k + 1)) largest)
  unfolding value_to
  digit-next k v d low high none e h more = (
    other-next k refl (in_range (get_or bytes k 0) low high) none,
    more ∙ rw (e, h, add-one) (capped-more (value_to bytes k) (get_or bytes k 0 - 48) largest),
  )

  -- the number where byte k is no digit, and where all are digits
  pub number-other : (k : ℕ) {digit : Bool} → k < length bytes → digit ≡ is_digit (get_or bytes k 0) → digit ≡ false → 0 ≡ number_in bytes
  unfolding number_in
  number-other k l e h = rw (any_to-some (other bytes) (length bytes) k l (ap not (sym e ∙ h)))

  pub number-below : (k : ℕ) → k < length bytes → get_or bytes k 0 < 48 → number_in bytes ≡ 0
  number-below k l out = sym (number-other k {digit = is_digit (get_or bytes k 0)} l refl (rw (lt-leb 48 (get_or bytes k 0) out)))

  pub number-above : (k : ℕ) → k < length bytes → 57 < get_or bytes k 0 → number_in bytes ≡ 0
  number-above k l out = sym (number-other k {digit = is_digit (get_or bytes k 0)} l refl (rw (lt-leb (get_or bytes k 0) 57 out, and-false)))

  pub number-all : {k v : ℕ} → k ≡ length bytes → any_to (other bytes) k ≡ false → v ≡ min (value_to bytes k) largest → v ≡ number_in bytes
  unfolding number_in
  number-all done none e = rw (← done, none) e

pub ruleset others = (number-below, number-above)
