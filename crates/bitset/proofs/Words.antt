-- Laws of the bits of one word: its halves, the operations on words, the count of ones, and the word of a test.
-- Assumes nothing.
use mathlib.Core.Path.{◌≡◌, refl, sym, ap, ap₂, ◌∙◌}
use mathlib.Core.Bool.{Bool, true, false, not, ◌&&◌, ◌||◌, xor}
use Prim.Native.Nat.{ℕ, zero, suc, ◌+◌, ◌-◌, ◌*◌, ◌/◌, ◌%◌, ◌^◌, ◌<◌, suc-le-suc}
use native.Mathlib.Nat.{not-suc-le-zero, le_of_suc-le-suc, add-zero, mul_assoc, mul-one, one-mul, pow-suc, div-add-mod', zero-lt-suc}
use native.Mathlib.Omega.{arith}
use native.Mathlib.Numerals.{one-add}
use lib.Dec.{eqb, eqb-zero-suc, eqb-suc-zero, eqb-suc-suc}
use lib.Arith.{digits_div, digits_mod}
use lib.Pow.{shr-shr, shl_exact}
use lib.Bits.{bit_and, bit_or, bit_xor, and_shr, and_mod, or_shr, or_mod, xor_shr, xor_mod}
use lib.Count.{ones, ones_in, ones_step}
use Rattle.folds.specs.Folds.{only_if, sum_to, count_to}
use Rattle.folds.proofs.Folds.{sum_to-cong, sum_to-first, sum_to-scale, count_to-none, count_to-cong, count_to-first}
use Rattle.bitset.specs.Bits.{bit, word_of}

-- ---- digits: what holds of 0 and 1

binary : (P : ℕ → Type 0) → P 0 → P 1 → (x : ℕ) → x < 2 → P x
binary P p q zero h = p
binary P p q (suc zero) h = q
binary P p q (suc (suc x)) h = absurd (not-suc-le-zero (le_of_suc-le-suc (le_of_suc-le-suc h)))

binary² : (P : ℕ → ℕ → Type 0) → P 0 0 → P 0 1 → P 1 0 → P 1 1 → (x y : ℕ) → x < 2 → y < 2 → P x y
binary² P p q r s x y hx hy = binary (λ (z : ℕ). P z y) (binary (P 0) p q y hy) (binary (P 1) r s y hy) x hx

digit-of : (t : Bool) → eqb (only_if t 1) 1 ≡ t
digit-of true = refl
digit-of false = refl

only_if-lt : (t : Bool) → only_if t 1 < 2
only_if-lt true = omega arith
only_if-lt false = omega arith

-- ---- the lowest bit, and the bits of the half

bit-zero : (x : ℕ) → bit x 0 ≡ eqb (x % 2) 1
unfolding bit
bit-zero x = let e : x / 2 ^ 0 ≡ x = omega arith in ap (λ (y : ℕ). eqb (y % 2) 1) e

bit-suc : (x k : ℕ) → bit x (suc k) ≡ bit (x / 2) k
unfolding bit
bit-suc x k = ap (λ (y : ℕ). eqb (y % 2) 1) (ap (λ (j : ℕ). x / 2 ^ j) (sym (one-add k)) ∙ sym (shr-shr x 1 k))

low_bit : (x : ℕ) → only_if (bit x 0) 1 ≡ x % 2
low_bit x = ap (λ (t : Bool). only_if t 1) (bit-zero x) ∙ binary (λ (d : ℕ). only_if (eqb d 1) 1 ≡ d) refl refl (x % 2) (omega arith)

half_lt : (x n : ℕ) → x < 2 ^ suc n → x / 2 < 2 ^ n
half_lt x n h = let l : x < 2 ^ n * 2 = rw pow-suc at h in omega arith

-- a word put together from its half and its lowest digit
bit-low : (x d : ℕ) → d < 2 → bit (x * 2 + d) 0 ≡ eqb d 1
bit-low x d h = bit-zero (x * 2 + d) ∙ ap (λ (y : ℕ). eqb y 1) (digits_mod x h)

bit_high : (x d k : ℕ) → d < 2 → bit (x * 2 + d) (suc k) ≡ bit x k
bit_high x d k h = bit-suc (x * 2 + d) k ∙ ap (λ (y : ℕ). bit y k) (digits_div x h)

-- ---- the operations on words, bit by bit

pub bit-none : (k : ℕ) → bit 0 k ≡ false
bit-none zero = bit-zero 0
bit-none (suc k) = bit-suc 0 k ∙ bit-none k

-- an operation that goes through shifts and through remainders goes bit by bit
module _ (op : ℕ → ℕ → ℕ) (g : Bool → Bool → Bool)
    (shr : (a b k : ℕ) → op a b / 2 ^ k ≡ op (a / 2 ^ k) (b / 2 ^ k))
    (rest : (a b k : ℕ) → op a b % 2 ^ k ≡ op (a % 2 ^ k) (b % 2 ^ k))
    (digit : (x y : ℕ) → x < 2 → y < 2 → eqb (op x y) 1 ≡ g (eqb x 1) (eqb y 1)) where
  bit-op : (a b k : ℕ) → bit (op a b) k ≡ g (bit a k) (bit b k)
  unfolding bit
  bit-op a b k =
      ap (λ (y : ℕ). eqb (y % 2) 1) (shr a b k) ∙ ap (λ (y : ℕ). eqb y 1) (rest (a / 2 ^ k) (b / 2 ^ k) 1)
      ∙ digit (a / 2 ^ k % 2) (b / 2 ^ k % 2) (omega arith) (omega arith)

pub bit-or : (a b k : ℕ) → bit (bit_or a b) k ≡ (bit a k || bit b k)
bit-or = bit-op bit_or ◌||◌ or_shr or_mod (binary² (λ (x y : ℕ). eqb (bit_or x y) 1 ≡ (eqb x 1 || eqb y 1)) refl refl refl refl)

pub bit-and : (a b k : ℕ) → bit (bit_and a b) k ≡ (bit a k && bit b k)
bit-and = bit-op bit_and ◌&&◌ and_shr and_mod (binary² (λ (x y : ℕ). eqb (bit_and x y) 1 ≡ (eqb x 1 && eqb y 1)) refl refl refl refl)

pub bit-xor : (a b k : ℕ) → bit (bit_xor a b) k ≡ xor (bit a k) (bit b k)
unfolding xor
bit-xor = bit-op bit_xor xor xor_shr xor_mod (binary² (λ (x y : ℕ). eqb (bit_xor x y) 1 ≡ xor (eqb x 1) (eqb y 1)) refl refl refl refl)

-- the complement of a word of n bits
not-half : (n x : ℕ) → x < 2 ^ suc n → (2 ^ suc n - 1) - x ≡ ((2 ^ n - 1) - x / 2) * 2 + (1 - x % 2)
not-half n x h = let l : x < 2 ^ n * 2 = rw pow-suc at h in rw pow-suc (omega arith)

pub bit_not : (n x j : ℕ) → x < 2 ^ n → j < n → bit ((2 ^ n - 1) - x) j ≡ not (bit x j)
bit_not zero x j h k = absurd (not-suc-le-zero k)
bit_not (suc n) x zero h k =
    ap (λ (y : ℕ). bit y 0) (not-half n x h) ∙ bit-low ((2 ^ n - 1) - x / 2) (1 - x % 2) (omega arith)
    ∙ binary (λ (d : ℕ). eqb (1 - d) 1 ≡ not (eqb d 1)) refl refl (x % 2) (omega arith) ∙ ap not (sym (bit-zero x))
bit_not (suc n) x (suc j) h k =
    ap (λ (y : ℕ). bit y (suc j)) (not-half n x h) ∙ bit_high ((2 ^ n - 1) - x / 2) (1 - x % 2) j (omega arith)
    ∙ bit_not n (x / 2) j (half_lt x n h) (le_of_suc-le-suc k) ∙ ap not (sym (bit-suc x j))

-- all bits set
pub bit-all : (k : ℕ) → k < 64 → bit (2 ^ 64 - 1) k ≡ true
bit-all k h = bit_not 64 0 k (omega arith) h ∙ ap not (bit-none k)

bit-pow : (k j : ℕ) → bit (2 ^ k) j ≡ eqb j k
bit-pow zero zero = bit-zero 1
bit-pow zero (suc j) = bit-suc 1 j ∙ bit-none j ∙ sym (eqb-suc-zero j)
bit-pow (suc k) zero = ap (λ (y : ℕ). bit y 0) (pow-suc 2 k ∙ sym (add-zero (2 ^ k * 2))) ∙ bit-low (2 ^ k) 0 (omega arith) ∙ sym (eqb-zero-suc k)
bit-pow (suc k) (suc j) =
    ap (λ (y : ℕ). bit y (suc j)) (pow-suc 2 k ∙ sym (add-zero (2 ^ k * 2))) ∙ bit_high (2 ^ k) 0 j (omega arith) ∙ bit-pow k j ∙ sym (eqb-suc-suc j k)

-- 1 << k in a word of 64 bits
abbrev pub one_at : ℕ → ℕ
one_at k = (1 * 2 ^ k) % 2 ^ 64

pub bit-one_at : (k j : ℕ) → k < 64 → bit (one_at k) j ≡ eqb j k
bit-one_at k j h = ap (λ (x : ℕ). bit x j) (shl_exact 1 k 64 (omega arith) (omega arith) ∙ one-mul (2 ^ k)) ∙ bit-pow k j

-- ---- the count of ones of a word of n bits is the count of its set bits

ones-zero : ones 0 ≡ 0
unfolding ones ones_in
ones-zero = refl

pub ones-count : (n x : ℕ) → x < 2 ^ n → ones x ≡ count_to (bit x) n
ones-count zero x h =
    let e : x ≡ 0 = omega arith in
    ap ones e ∙ ones-zero ∙ sym (count_to-none (bit x))
ones-count (suc n) x h =
    let rest : ones (x / 2) ≡ count_to (λ k. bit x (suc k)) n =
    ones-count n (x / 2) (half_lt x n h) ∙ count_to-cong (bit (x / 2)) (λ k. bit x (suc k)) n (λ k l. sym (bit-suc x k)) in
    omega (arith, ones_step x, low_bit x, rest, count_to-first (bit x) n)

-- ---- the word of a test

word_of-none : (test : ℕ → Bool) → word_of test 0 ≡ 0
unfolding word_of sum_to
word_of-none test = refl

-- its lowest bit apart
word_of-first : (test : ℕ → Bool) (n : ℕ) → word_of test (suc n) ≡ word_of (λ j. test (suc j)) n * 2 + only_if (test 0) 1
unfolding word_of
word_of-first test n =
    let doubled : sum_to (λ j. only_if (test (suc j)) 1 * 2 ^ suc j) n ≡ sum_to (λ j. only_if (test (suc j)) 1 * 2 ^ j) n * 2 =
    sum_to-cong (λ j. only_if (test (suc j)) 1 * 2 ^ suc j) (λ j. only_if (test (suc j)) 1 * 2 ^ j * 2) n
    (λ j l. ap (λ (y : ℕ). only_if (test (suc j)) 1 * y) (pow-suc 2 j) ∙ sym (mul_assoc (only_if (test (suc j)) 1) (2 ^ j) 2))
    ∙ sum_to-scale (λ j. only_if (test (suc j)) 1 * 2 ^ j) 2 n in
    omega (arith, sum_to-first (λ j. only_if (test j) 1 * 2 ^ j) n, mul-one (only_if (test 0) 1), doubled)

-- it has the bits of the test
pub bit-word_of : (n : ℕ) (test : ℕ → Bool) (j : ℕ) → j < n → bit (word_of test n) j ≡ test j
bit-word_of zero test j h = absurd (not-suc-le-zero h)
bit-word_of (suc n) test zero h =
    ap (λ (y : ℕ). bit y 0) (word_of-first test n) ∙ bit-low (word_of (λ j. test (suc j)) n) (only_if (test 0) 1) (only_if-lt (test 0)) ∙ digit-of (test 0)
bit-word_of (suc n) test (suc j) h =
    ap (λ (y : ℕ). bit y (suc j)) (word_of-first test n) ∙ bit_high (word_of (λ j. test (suc j)) n) (only_if (test 0) 1) j (only_if-lt (test 0))
    ∙ bit-word_of n (λ j. test (suc j)) j (le_of_suc-le-suc h)

-- and is the only word of n bits that has them
pub word_of-is : (n x : ℕ) (test : ℕ → Bool) → x < 2 ^ n → ((j : ℕ) → j < n → bit x j ≡ test j) → x ≡ word_of test n
word_of-is zero x test h e = let z : x ≡ 0 = omega arith in z ∙ sym (word_of-none test)
word_of-is (suc n) x test h e =
    let rest : x / 2 ≡ word_of (λ j. test (suc j)) n =
    word_of-is n (x / 2) (λ j. test (suc j)) (half_lt x n h) (λ j l. sym (bit-suc x j) ∙ e (suc j) (suc-le-suc l)) in
    let low : x % 2 ≡ only_if (test 0) 1 = sym (low_bit x) ∙ ap (λ (t : Bool). only_if t 1) (e 0 (zero-lt-suc n)) in
    sym (div-add-mod' x 2) ∙ ap₂ (λ (y z : ℕ). y * 2 + z) rest low ∙ sym (word_of-first test n)

pub word_of-cong : (test test' : ℕ → Bool) (n : ℕ) → ((j : ℕ) → j < n → test j ≡ test' j) → word_of test n ≡ word_of test' n
unfolding word_of
word_of-cong test test' n same =
    sum_to-cong (λ j. only_if (test j) 1 * 2 ^ j) (λ j. only_if (test' j) 1 * 2 ^ j) n (λ j l. ap (λ (t : Bool). only_if t 1 * 2 ^ j) (same j l))
