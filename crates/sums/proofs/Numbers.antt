-- Laws of a product: equal factors, bounded factors.
-- Assumes nothing.
use Prim.Native.Nat.{ℕ, ◌*◌, ◌^◌, ◌≤◌, ◌<◌}
use mathlib.Core.Path.{◌≡◌, ap₂}
use native.Mathlib.Nat.{mul-le-mul, lt_of_le_of_lt}
use mir.Syntax.{w64}
use mir.Val.{Fits}

pub product-cong : {x y x' y' : ℕ} → x ≡ x' → y ≡ y' → x * y ≡ x' * y'
product-cong p q = ap₂ (λ (x y : ℕ). x * y) p q

pub product-bound : {x y : ℕ} (m n : ℕ) → x ≤ m → y ≤ n → x * y ≤ m * n
product-bound m n p q = mul-le-mul p q

pub product-fits : {x y : ℕ} (m n : ℕ) → x ≤ m → y ≤ n → m * n < 2 ^ 64 → Fits w64 (x * y)
product-fits m n p q h = record { fits = lt_of_le_of_lt (mul-le-mul p q) h }
