-- Laws of numbers and tests, of division rounded up, and of what counts only where a test holds.
-- Assumes nothing.
use Prim.Native.Nat.{ℕ, zero, suc, ◌+◌, ◌-◌, ◌*◌, ◌/◌, ◌%◌, ◌≤◌, ◌<◌, min, zero-le}
use mathlib.Core.Bool.{Bool, true, false, ◌&&◌, false≢true}
use mathlib.Core.Logic.{◌⊎◌, inl, inr, ⊎_elim}
use mathlib.Core.Path.{◌≡◌, refl, sym, subst, ◌∙◌}
use native.Mathlib.Decide.{dec_le, ℕ_discrete}
use native.Mathlib.Nat.{le_antisymm, lt_of_mul-lt-mul_right, add-mul, one-mul, le_refl, mul-le-mul, zero-mul, le_trans, le_of_suc-le-suc, eq-or-lt_of_le, lt_of_not-le, suc-mul, mul-suc, zero-lt-suc, div-zero, div-mul-le_self, le-div_iff_mul-le, div-lt_iff_lt-mul}
use native.Mathlib.Omega.{arith}
use mir.Val.{bool_byte}
use lib.Dec.{eqb}
use Rattle.std.proofs.lemmas.Grind.{div_ceil_times}
use borrow.Author.Tests.{eq-eqb, ne_eqb}
use Rattle.folds.specs.Folds.{ceil_div, only_if}

pub le-or-lt : (a b : ℕ) → (a ≤ b) ⊎ (b < a)
le-or-lt a b = elim (dec_le a b) [ yes h ↦ inl h | no h ↦ inr (lt_of_not-le h) ]

-- what holds below n and at n holds below n + 1
pub below_suc : (P : ℕ → Type 0) (n : ℕ) → ((k : ℕ) → k < n → P k) → P n → (k : ℕ) → k < suc n → P k
below_suc P n all here k l = ⊎_elim (λ e. subst P (sym e) here) (λ lt. all k lt) (eq-or-lt_of_le (le_of_suc-le-suc l))

-- a test that never holds
pub never_true : (t : Bool) → (t ≡ true → ⊥) → t ≡ false
never_true true n = absurd (n refl)
never_true false n = refl

-- two tests that both hold
pub and_both : (s t : Bool) → (s && t) ≡ true → (s ≡ true) × (t ≡ true)
and_both true t e = (refl, e)
and_both false t e = absurd (false≢true e)

-- two tests for equality that hold together
pub eqb-iff : (a b c d : ℕ) → (a ≡ b → c ≡ d) → (c ≡ d → a ≡ b) → eqb a b ≡ eqb c d
eqb-iff a b c d to from = go (ℕ_discrete a b)
  where
    go : Dec (a ≡ b) → eqb a b ≡ eqb c d
    go (yes e) = eq-eqb a b e ∙ sym (eq-eqb c d (to e))
    go (no n) = ne_eqb a b n ∙ sym (ne_eqb c d (λ e. n (from e)))

-- a divisor that is no longer, and is not 0 where the other is not
pub record Shorter (S T : ℕ) : Type 0 where
  pub le : S ≤ T
  pub positive : 0 < T → 0 < S

pub shorter-same : (T : ℕ) → Shorter T T
shorter-same T = record { le = le_refl T; positive = λ h. h }

-- a quotient rises with what is divided, and when the divisor falls
pub div-rise : {S T : ℕ} → Shorter S T → (a b : ℕ) → a ≤ b → a / T ≤ b / S
div-rise {S} {T} short a b h = go T short
  where
    go : (T : ℕ) → Shorter S T → a / T ≤ b / S
    go zero short = omega (arith, div-zero a)
    go (suc T) short =
        (le-div_iff_mul-le (short.positive (zero-lt-suc T))).1
        (le_trans (mul-le-mul (le_refl (a / suc T)) short.le) (le_trans (div-mul-le_self a (suc T)) h))

-- ---- Laws of `ceil_div`: ceil(a/b) is the least k with a ≤ k × b

pub ceil_div-least : {a k b : ℕ} → 0 < b → a ≤ k * b → ceil_div a b ≤ k
unfolding ceil_div
ceil_div-least {a} {k} {b} p h = le_of_suc-le-suc ((div-lt_iff_lt-mul p).1 (omega (arith, suc-mul k b)))

pub ceil_div-covers : (a : ℕ) {b : ℕ} → 0 < b → a ≤ ceil_div a b * b
unfolding ceil_div
ceil_div-covers a {b} p =
    omega (arith, suc-mul ((a + (b - 1)) / b) b, (div-lt_iff_lt-mul {x = a + (b - 1)} {y = suc ((a + (b - 1)) / b)} p).0 (le_refl _))

ceil_div-none : (a : ℕ) → ceil_div a 0 ≤ 0
unfolding ceil_div
ceil_div-none a = omega (arith, div-zero (a + (0 - 1)))

pub ceil_div-rise : {S T : ℕ} → Shorter S T → (a a' : ℕ) → a ≤ a' → ceil_div a T ≤ ceil_div a' S
ceil_div-rise {S} {T} short a a' h = go T short
  where
    go : (T : ℕ) → Shorter S T → ceil_div a T ≤ ceil_div a' S
    go zero short = le_trans (ceil_div-none a) zero-le
    go (suc T) short =
        ceil_div-least {a = a} {k = ceil_div a' S} {b = suc T} (zero-lt-suc T)
        (le_trans h (le_trans (ceil_div-covers a' (short.positive (zero-lt-suc T))) (mul-le-mul (le_refl (ceil_div a' S)) short.le)))

pub ceil_div-mono : (b a a' : ℕ) → a ≤ a' → ceil_div a b ≤ ceil_div a' b
ceil_div-mono b = ceil_div-rise (shorter-same b)

pub ceil_div-self : (a b : ℕ) → ceil_div a b ≤ a
unfolding ceil_div
ceil_div-self a zero = omega (arith, div-zero (a + (0 - 1)))
ceil_div-self a (suc b) = le_of_suc-le-suc ((div-lt_iff_lt-mul (zero-lt-suc b)).1 (rw suc-mul (omega (arith, mul-suc a b))))

-- a that is at most b fits once, unless it is 0
pub ceil_div-once : (a b : ℕ) → 0 < b → a ≤ b → ceil_div a b ≡ min a 1
ceil_div-once a b p h = omega (arith, ceil_div-self a b, ceil_div-least {a = a} {k = 1} {b = b} p (omega arith), some (ceil_div a b) (ceil_div-covers a p))
  where
    some : (k : ℕ) → a ≤ k * b → min a 1 ≤ k
    some zero h = omega (arith, zero-mul b)
    some (suc k) h = omega arith

-- ---- Laws of `only_if`

pub only_if-mono : (test : Bool) {a b : ℕ} → (test ≡ true → a ≤ b) → only_if test a ≤ only_if test b
only_if-mono true h = h refl
only_if-mono false h = zero-le

pub only_if-bound : (test : Bool) {a m : ℕ} → a ≤ m → only_if test a ≤ m
only_if-bound true h = h
only_if-bound false h = zero-le

pub only_if-zero : (test : Bool) (x : ℕ) → x ≡ 0 → only_if test x ≡ 0
only_if-zero true x e = e
only_if-zero false x e = refl

pub only_if-and : (a b : Bool) (x : ℕ) → only_if (a && b) x ≡ only_if a (only_if b x)
only_if-and true b x = refl
only_if-and false b x = refl

-- a test as a number
pub only_if-byte : (test : Bool) → bool_byte test ≡ only_if test 1
only_if-byte true = refl
only_if-byte false = refl

-- a quotient rounded up, as the library's `div_ceil` gives it
pub div_ceil-is : (a b : ℕ) → 0 < b → a / b + min 1 (a % b) ≡ ceil_div a b
div_ceil-is a b pos =
    let k : ℕ = a / b + min 1 (a % b) in
    let times = div_ceil_times a b pos in
    let less : k < ceil_div a b + 1 =
    lt_of_mul-lt-mul_right b {m = k} {n = ceil_div a b + 1} (omega (arith, times.1, ceil_div-covers a pos, add-mul (ceil_div a b) 1 b, one-mul b)) in
    le_antisymm (omega (arith, less)) (ceil_div-least pos times.0)
