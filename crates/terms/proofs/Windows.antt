-- W with the divisions saved, where the accesses all fit into what is left of the window, and where the window is shorter than a period.
-- Assumes nothing.
use Prim.Native.Nat.{ℕ, ◌+◌, ◌*◌, ◌/◌, ◌%◌, ◌≤◌, ◌<◌, min}
use mathlib.Core.Path.{◌≡◌, sym}
use native.Mathlib.Nat.{le_trans, le_of_lt, le_of_mul-le-mul_right, min-eq_left, min-eq_right, div-eq_of_lt, mod-eq_of_lt, mul-zero, zero-add}
use Rattle.folds.specs.Folds.{ceil_div}
use Rattle.folds.proofs.Numbers.{ceil_div-least, ceil_div-covers}

-- of m accesses of d cycles each, all fit into the cycles left
pub fitting-all : (m d left : ℕ) → 0 < d → m * d ≤ left → m ≡ min m (ceil_div left d)
fitting-all m d left pos h = sym (min-eq_left (le_of_mul-le-mul_right (le_trans h (ceil_div-covers left pos)) pos))

-- they fill the cycles left
pub fitting-some : (m d left : ℕ) → 0 < d → left < m * d → ceil_div left d ≡ min m (ceil_div left d)
fitting-some m d left pos h = sym (min-eq_right (ceil_div-least pos (le_of_lt h)))

-- no whole period in the window
pub window-short : (m d T u : ℕ) → u < T → min m (ceil_div u d) ≡ m * (u / T) + min m (ceil_div (u % T) d)
window-short m d T u h = rw (div-eq_of_lt h, mod-eq_of_lt h, mul-zero m, zero-add)

-- equal numbers give an equal W
pub carry-cong : {m d T u m' d' T' u' : ℕ} → m ≡ m' → d ≡ d' → T ≡ T' → u ≡ u'
    → m * (u / T) + min m (ceil_div (u % T) d) ≡ m' * (u' / T') + min m' (ceil_div (u' % T') d')
carry-cong m d T u = cc
