-- A sum that stops once it has reached its cap has the same min with the cap as the whole sum.
-- Assumes nothing.
use Prim.Native.Nat.{ℕ, ◌+◌, ◌-◌, ◌≤◌}
use mathlib.Core.Path.{◌≡◌}
use native.Mathlib.Omega.{arith}
use Rattle.folds.specs.Reaches.{Reaches}

-- the whole sum, and one that has reached the cap
pub reaches_all : {cap a c : ℕ} → a ≡ c → Reaches cap a c
reaches_all e = record { below = omega arith; same = omega arith }

pub reaches-cap : {cap a c : ℕ} → cap ≤ a → a ≤ c → Reaches cap a c
reaches-cap full h = record { below = h; same = omega arith }

-- one more term
pub reaches-turn : {cap acc sum next : ℕ} (w : ℕ) → Reaches cap acc sum → Reaches cap next (acc + w) → Reaches cap next (sum + w)
reaches-turn w r s = record { below = omega (arith, r.below, s.below); same = omega (arith, r.below, r.same, s.below, s.same) }

pub reaches_end : {cap a c c' : ℕ} → Reaches cap a c → c ≡ c' → Reaches cap a c'
reaches_end r e = record { below = omega (arith, r.below); same = omega (arith, r.same) }

-- a sum of which a part is added already
pub reaches-add : {cap a c : ℕ} (acc : ℕ) → acc ≤ cap → Reaches (cap - acc) a c → Reaches cap (acc + a) (acc + c)
reaches-add acc low r = record { below = omega (arith, r.below); same = omega (arith, r.below, r.same) }

-- a lower cap
pub reaches-lower : {cap cap' a c : ℕ} → cap ≤ cap' → Reaches cap' a c → Reaches cap a c
reaches-lower low r = record { below = r.below; same = omega (arith, r.below, r.same) }

-- a cap that is never reached
pub reaches_whole : {cap a c : ℕ} → Reaches cap a c → c ≤ cap → a ≡ c
reaches_whole r h = omega (arith, r.below, r.same)
