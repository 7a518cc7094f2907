-- The place of the largest of some numbers, the earliest of equals: it is one of them, none is larger, and those before it are smaller. A search for it goes by
-- these three.
-- Assumes nothing.
use Prim.Native.Nat.{ℕ, zero, suc, ◌+◌, ◌≤◌, ◌<◌}
use mathlib.Core.Logic.{⊎_elim}
use mathlib.Core.Path.{◌≡◌, sym, subst}
use native.Mathlib.Nat.{le_refl, le_antisymm}
use native.Mathlib.Omega.{arith}
use lib.Dec.{eqb}
use borrow.Author.Tests.{eq-eqb, ne_eqb}
use Rattle.folds.specs.Folds.{max_to, first_largest, Largest}
use Rattle.folds.proofs.Numbers.{le-or-lt, below_suc}
use Rattle.folds.proofs.Folds.{max_to-part, max_to-bound}
use Rattle.folds.proofs.Searches.{first_from-here}

-- ---- the search: one number, and then each next one, which is larger or not

pub largest-one : (f : ℕ → ℕ) → Largest f 1 0
largest-one f = record { below = omega arith; most = λ k h. (let only : k ≡ 0 = omega arith in rw only (le_refl _)); first = λ k h. absurd (omega arith) }

module _ {f : ℕ → ℕ} {n at : ℕ} (found : Largest f n at) where
  pub largest-same : f n ≤ f at → Largest f (n + 1) at
  largest-same le =
      record {
        below = omega (arith, found.below);
        most = λ k h. below_suc (λ j. f j ≤ f at) n found.most le k (omega arith);
        first = found.first;
      }

  pub largest-next : f at < f n → Largest f (n + 1) n
  largest-next lt =
      record {
        below = omega arith;
        most = λ k h. below_suc (λ j. f j ≤ f n) n (λ j l. omega (arith, found.most j l)) (le_refl _) k (omega arith);
        first = λ k h. omega (arith, found.most k h);
      }

-- ---- the definition

pub largest-is : {f : ℕ → ℕ} {n at : ℕ} → Largest f n at → first_largest f n ≡ at
unfolding first_largest
largest-is {f} {n} {at} found =
    let top : max_to f n ≡ f at = le_antisymm (max_to-bound f n (f at) found.most) (max_to-part f n at found.below) in
    first_from-here (λ k. eqb (f k) (max_to f n)) n at found.below (λ k h. ne_eqb (f k) (max_to f n) (λ e. omega (arith, found.first k h)))
    (eq-eqb (f at) (max_to f n) (sym top))

-- some number is the largest, and so the definition finds it
some-largest : (f : ℕ → ℕ) (n : ℕ) → (at : ℕ) × Largest f (suc n) at
some-largest f zero = (0, largest-one f)
some-largest f (suc n) = next (some-largest f n)
  where
    next : ((at : ℕ) × Largest f (suc n) at) → (at : ℕ) × Largest f (suc (suc n)) at
    next before =
        let more : suc n + 1 ≡ suc (suc n) = omega arith in
        ⊎_elim
        (λ (le : f (suc n) ≤ f before.0). (before.0, subst (λ (m : ℕ). Largest f m before.0) more (largest-same before.1 le)))
        (λ (lt : f before.0 < f (suc n)). (suc n, subst (λ (m : ℕ). Largest f m (suc n)) more (largest-next before.1 lt)))
        (le-or-lt (f (suc n)) (f before.0))

pub first_largest-largest : (f : ℕ → ℕ) (n : ℕ) → 0 < n → Largest f n (first_largest f n)
first_largest-largest f zero some = absurd (omega arith)
first_largest-largest f (suc n) some =
    let found = some-largest f n in
    subst (Largest f (suc n)) (sym (largest-is found.1)) found.1
