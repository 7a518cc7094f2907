-- The passes of any ascending step settle, and within 1 + Σ(D_i + 1) of them.
-- From all zeros, which no pass lowers, the times rise or stand still with every pass, and never go past their caps D_i + 1, which no
-- pass raises. A pass that changes a time adds at least 1 to the sum of all times, and this sum is at most Σ(D_i + 1). So one of the first
-- 1 + Σ(D_i + 1) passes changes nothing, and the search for it finds it. Its times stand still under the step, hence under a pass over all
-- times together, since the step reaches at least as far. And they are below all times that no pass raises, since the zeros were.
-- Assumes nothing.
use mathlib.Core.Bool.{Bool, true, false}
use mathlib.Core.List.{List}
use mathlib.Core.Logic.{⊎_elim}
use mathlib.Core.Path.{◌≡◌, refl, sym, ap, subst, ◌∙◌}
use Prim.Native.Nat.{ℕ, zero, suc, ◌+◌, ◌≤◌, ◌<◌, zero-le}
use native.Mathlib.Nat.{le_trans}
use native.Mathlib.Omega.{arith}
use lib.ListN.{length, get_or}
use Rattle.folds.specs.Folds.{sum_to}
use Rattle.folds.proofs.Numbers.{le-or-lt, below_suc}
use Rattle.folds.proofs.Folds.{sum_to-mono, sum_to-tight}
use Rattle.folds.proofs.Lists.{same_list-true, same_list-false}
use Rattle.folds.proofs.Searches.{First}
use Rattle.passes.specs.Passes.{System, capped, pass, times_by, unchanged, ceiling, changes, passes_by, settled_by, Below, Capped}
use Rattle.passes.proofs.Steps.{changes-first}
use Rattle.passes.proofs.Ascending.{Rising, Closed, Ascending, get_d-pass, zeros-rising, zeros-below, caps, caps-closed, caps-capped, below-same, still-pass, still-closed}

module _ {S : System} {step : List ℕ → List ℕ} (up : Ascending S step) where
  pub times_by-rising : (p : ℕ) → Rising S (times_by S step p)
  unfolding times_by
  times_by-rising zero = zeros-rising S
  times_by-rising (suc p) = up.rising (times_by S step p) (times_by-rising p)

  pub times_by-ascends : (p : ℕ) → Below S.count (times_by S step p) (times_by S step (suc p))
  unfolding times_by
  times_by-ascends p i h = le_trans ((times_by-rising p).rises i h) (up.reaches (times_by S step p) (times_by-rising p) i h)

  -- the times stay below all times that a pass does not raise
  pub times_by-stays : (C : List ℕ) → Closed S C → (p : ℕ) → Below S.count (times_by S step p) C
  unfolding times_by
  times_by-stays C closed zero i h = zeros-below S C i h
  times_by-stays C closed (suc p) i h = up.stays (times_by S step p) C (times_by-rising p) closed (times_by-stays C closed p) i h

  pub times_by-capped : (p : ℕ) → Capped S (times_by S step p)
  times_by-capped p = caps-capped S (times_by S step p) (times_by-stays (caps S) (caps-closed S) p)

  total : ℕ → ℕ
  total p = sum_to (λ i. get_or (times_by S step p) i 0) S.count

  -- a pass that changes a time raises the total
  total-grows : (p : ℕ) → unchanged S step p ≡ false → total p < total (suc p)
  unfolding unchanged total
  total-grows p e = ⊎_elim (λ le. absurd (stands le)) (λ lt. lt) (le-or-lt (total (suc p)) (total p))
    where
      stands : total (suc p) ≤ total p → ⊥
      stands le =
          same_list-false (times_by S step (suc p)) (times_by S step p) e
          (below-same (times_by-rising (suc p)).size (times_by-rising p).size
          (λ i h.
          omega
          (arith, sum_to-tight (λ k. get_or (times_by S step p) k 0) (λ k. get_or (times_by S step (suc p)) k 0) S.count (times_by-ascends p) le i h))
          (times_by-ascends p))

  total-passes : (p : ℕ) → ((q : ℕ) → q < p → unchanged S step q ≡ false) → p ≤ total p
  total-passes zero all = zero-le
  total-passes (suc p) all = omega (arith, total-passes p (λ q h. all q (omega arith)), total-grows p (all p (omega arith)))

  total-bound : (p : ℕ) → total p ≤ ceiling S
  unfolding total
  total-bound p = sum_to-mono (λ i. get_or (times_by S step p) i 0) (λ i. S.bound i + 1) S.count (times_by-capped p)

  -- the search for the first pass that changes nothing finds one
  pub changes-still : unchanged S step (changes S step) ≡ true
  changes-still = go (unchanged S step (changes S step)) refl
    where
      first : First (unchanged S step) (ceiling S) 0 (changes S step)
      first = changes-first S step

      go : (t : Bool) → unchanged S step (changes S step) ≡ t → t ≡ true
      go true e = refl
      go false e =
          let more = below_suc (λ q. unchanged S step q ≡ false) (changes S step) (λ q h. first.before q zero-le h) e in
          sym e ∙ first.here (omega (arith, total-bound (suc (changes S step)), total-passes (suc (changes S step)) more))

  -- the pass that is needed last changes nothing
  pub passes_needed-still : (p : ℕ) → passes_by S step ≡ suc p → times_by S step (suc p) ≡ times_by S step p
  unfolding passes_by unchanged
  passes_needed-still p e =
      let last : changes S step ≡ p = omega arith in
      subst (λ (q : ℕ). times_by S step (suc q) ≡ times_by S step q) last
      (same_list-true (times_by S step (suc (changes S step))) (times_by S step (changes S step)) changes-still)

  -- the settled times stand still under the step, and under a pass
  pub settled-fixed : step (settled_by S step) ≡ settled_by S step
  unfolding settled_by passes_by times_by
  settled-fixed = ap step (passes_needed-still (changes S step) refl)

  settled-rising : Rising S (settled_by S step)
  unfolding settled_by
  settled-rising = times_by-rising (passes_by S step)

  pub settled-length : length (settled_by S step) ≡ S.count
  settled-length = settled-rising.size

  pub settled-pass : pass S (settled_by S step) ≡ settled_by S step
  settled-pass = still-pass up (settled_by S step) settled-rising settled-fixed

  -- each settled time is its capped sum
  pub settled_is : (i : ℕ) → i < S.count → get_or (settled_by S step) i 0 ≡ capped S (settled_by S step) i
  settled_is i h = ap (λ (R : List ℕ). get_or R i 0) (sym settled-pass) ∙ get_d-pass S (settled_by S step) i h

  pub settled-closed : Closed S (settled_by S step)
  settled-closed = still-closed S (settled_by S step) settled-pass

  pub settled-capped : Capped S (settled_by S step)
  unfolding settled_by
  settled-capped = times_by-capped (passes_by S step)

  pub settled-stays : (C : List ℕ) → Closed S C → Below S.count (settled_by S step) C
  unfolding settled_by
  settled-stays C closed = times_by-stays C closed (passes_by S step)
