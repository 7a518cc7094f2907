-- What the passes end with, by the passes needed.
-- Assumes nothing.
use Prim.Native.Nat.{ℕ, ◌≤◌, ◌<◌}
use mathlib.Core.Bool.{Bool, true, false, cond}
use mathlib.Core.List.{List}
use mathlib.Core.Path.{◌≡◌, refl}
use native.Mathlib.Omega.{arith}
use lib.Dec.{ltb}
use Rattle.std.specs.Prelude.{Option, Some, None}
use borrow.Author.Tests.{lt-ltb, le-ltb, ltb-true, ltb-false}
use Rattle.passes.specs.Passes.{System, passes_by}
use Rattle.settling.specs.Settling.{passes_of}

module _ (S : System) (step : List ℕ → List ℕ) (limit : ℕ) where
  pub passes_over : limit < passes_by S step → passes_of S step limit ≡ None
  unfolding passes_of
  passes_over h = rw (lt-ltb limit (passes_by S step) h)

  pub passes-needed : (p : ℕ) → passes_by S step ≡ p → p ≤ limit → passes_of S step limit ≡ Some p
  unfolding passes_of
  passes-needed p e h = rw (e, le-ltb limit p h)

  pub over-is : passes_of S step limit ≡ None → limit < passes_by S step
  unfolding passes_of
  over-is e = go (ltb limit (passes_by S step)) refl e
    where
      go : (t : Bool) → ltb limit (passes_by S step) ≡ t → cond {A = Option ℕ} t None (Some (passes_by S step)) ≡ None → limit < passes_by S step
      go true q _ = ltb-true limit (passes_by S step) q
      go false _ r = let z : ◌≡◌ {A = ℕ} 0 1 = cc in absurd (omega arith)

  pub needed-is : (p : ℕ) → passes_of S step limit ≡ Some p → (passes_by S step ≡ p) × (p ≤ limit)
  unfolding passes_of
  needed-is p e = go (ltb limit (passes_by S step)) refl e
    where
      go : (t : Bool) → ltb limit (passes_by S step) ≡ t → cond {A = Option ℕ} t None (Some (passes_by S step)) ≡ Some p
          → (passes_by S step ≡ p) × (p ≤ limit)
      go true _ r = let z : ◌≡◌ {A = ℕ} 0 1 = cc in absurd (omega arith)
      go false q r = let same : passes_by S step ≡ p = cc in (same, omega (arith, ltb-false limit (passes_by S step) q))
