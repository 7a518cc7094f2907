-- A division by 1 .. 256 is a multiplication by its reciprocal in units of 2^-24, exact below 2^16.
-- Assumes nothing.
use Prim.Native.Nat.{ℕ, ◌+◌, ◌-◌, ◌*◌, ◌/◌, ◌%◌, ◌≤◌, ◌<◌}
use mathlib.Core.Path.{◌≡◌, sym, ap, ◌∙◌}
use native.Mathlib.Nat.{mul_assoc, mul_comm, mul_right_comm, one-mul, add-mul, mul-le-mul, mul-le-mul_left, mul-le-mul_right, lt_of_mul-lt-mul_right, div-le_self, div-eq_of_lt-le, div-mul-le_self, lt-div-mul-add, mod-eq-sub-div-mul}
use native.Mathlib.Omega.{arith}
use Rattle.trace.specs.Reciprocal.{SetDivisor}

-- c × i is 2^24 and at most 256 more; so x × i × c is x × 2^24 and less than 2^24 more where x is below 2^16
module _ (c i : ℕ) (sets : SetDivisor c i) where
  product : i * c ≡ 16777216 / c * c + c
  product = ap (λ (k : ℕ). k * c) sets.reciprocal ∙ add-mul (16777216 / c) 1 c ∙ ap (λ (k : ℕ). 16777216 / c * c + k) (one-mul c)

  pub inverse-bound : i ≤ 16777217
  inverse-bound = omega (arith, div-le_self 16777216 c)

  module _ (x : ℕ) (small : x < 65536) where
    low : x / c * 16777216 ≤ x * i
    low =
        let whole : x / c * (i * c) ≡ x / c * c * i = ap (λ (k : ℕ). x / c * k) (mul_comm i c) ∙ sym (mul_assoc (x / c) c i) in
        let enough : 16777216 ≤ i * c = omega (arith, product, lt-div-mul-add {a = 16777216} {b = c} sets.some) in
        omega (arith, whole, mul-le-mul_left (x / c) enough, mul-le-mul_right i (div-mul-le_self x c))

    high : x * i < (x / c + 1) * 16777216
    high =
        let close : i * c ≤ 16777472 = omega (arith, product, div-mul-le_self 16777216 c) in
        let covers : x + 1 ≤ (x / c + 1) * c = omega (arith, lt-div-mul-add {a = x} {b = c} sets.some, add-mul (x / c) 1 c, one-mul c) in
        lt_of_mul-lt-mul_right c
        (omega (arith, mul_assoc x i c, mul-le-mul_left x close, mul_right_comm (x / c + 1) 16777216 c, mul-le-mul_right 16777216 covers))

    pub quotient_is : x * i / 16777216 ≡ x / c
    quotient_is = div-eq_of_lt-le 16777216 low high

    pub remainder_is : x - x * i / 16777216 * c ≡ x % c
    remainder_is = ap (λ (k : ℕ). x - k * c) quotient_is ∙ sym (mod-eq-sub-div-mul x c)

    pub quotient_fits : x * i / 16777216 * c ≤ x
    quotient_fits = omega (arith, ap (λ (k : ℕ). k * c) quotient_is, div-mul-le_self x c)

    pub product-bound : x * i ≤ 65535 * 16777217
    product-bound = mul-le-mul {n₂ = 65535} (omega arith) inverse-bound
