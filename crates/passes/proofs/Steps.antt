-- The passes of any step: which of them change nothing, and the search for the first.
-- Assumes nothing.
use mathlib.Core.Bool.{true, false}
use mathlib.Core.List.{List}
use mathlib.Core.Logic.{⊎_elim}
use mathlib.Core.Path.{◌≡◌, refl}
use Prim.Native.Nat.{ℕ, suc, ◌+◌, ◌≤◌, ◌<◌, zero-le}
use native.Mathlib.Omega.{arith}
use Rattle.folds.proofs.Numbers.{le-or-lt}
use Rattle.folds.proofs.Lists.{same_list-refl, same_list-false, same_list-differ}
use Rattle.folds.proofs.Searches.{First, first_from-first}
use Rattle.passes.specs.Passes.{System, times_by, unchanged, ceiling, changes, passes_by}

module _ (S : System) (step : List ℕ → List ℕ) where
  pub times_by-suc : (p : ℕ) → times_by S step (suc p) ≡ step (times_by S step p)
  unfolding times_by
  times_by-suc p = refl

  pub unchanged-true : (p : ℕ) → step (times_by S step p) ≡ times_by S step p → unchanged S step p ≡ true
  unfolding unchanged times_by
  unchanged-true p e = rw e (same_list-refl (times_by S step p))

  pub unchanged-false : (p : ℕ) → (step (times_by S step p) ≡ times_by S step p → ⊥) → unchanged S step p ≡ false
  unfolding unchanged times_by
  unchanged-false p moves = same_list-differ (step (times_by S step p)) (times_by S step p) moves

  pub changes-first : First (unchanged S step) (ceiling S) 0 (changes S step)
  unfolding changes
  changes-first = first_from-first (unchanged S step) (ceiling S) 0

  -- a pass that changes nothing is not before the first
  pub changes-least : (p : ℕ) → step (times_by S step p) ≡ times_by S step p → changes S step ≤ p
  changes-least p e = ⊎_elim (λ h. h) (λ l. absurd (clash (changes-first.before p zero-le l))) (le-or-lt (changes S step) p)
    where
      clash : unchanged S step p ≡ false → ⊥
      clash e' = let z : ◌≡◌ {A = ℕ} 0 1 = cc (unchanged-true p e) in omega arith

  -- never more passes than 1 + Σ(D_i + 1)
  pub passes_needed-bound : passes_by S step ≤ 1 + ceiling S
  unfolding passes_by
  passes_needed-bound = omega (arith, changes-first.upto)

  -- every pass before the one that is needed last changes some time
  pub passes_needed-first : (p : ℕ) → suc p < passes_by S step → times_by S step (suc p) ≡ times_by S step p → ⊥
  unfolding passes_by unchanged
  passes_needed-first p l =
      same_list-false (times_by S step (suc p)) (times_by S step p) (changes-first.before p zero-le (omega arith))
