-- A pass over all times together is an ascending step, and what follows of such steps.
-- Assumes nothing.
use mathlib.Core.List.{List}
use mathlib.Core.Path.{◌≡◌, sym, ap, ◌∙◌}
use Prim.Native.Nat.{ℕ, ◌+◌, ◌<◌}
use native.Mathlib.Nat.{le_refl, le_trans, le_antisymm}
use native.Mathlib.Omega.{arith}
use lib.ListN.{length, get_or, replicate, length-replicate, get_or-replicate}
use lib.Seq.{ext_get_or}
use Rattle.folds.specs.Folds.{tabulate}
use Rattle.folds.proofs.Lists.{length-tabulate, get_d_tabulate}
use Rattle.passes.specs.Passes.{System, capped, pass, Below, Capped, Monotone, Choice}
pub use Rattle.passes.specs.Ascending.{Rising, Closed, Ascending}

-- ---- a pass

module _ (S : System) where
  pub length-pass : (R : List ℕ) → length (pass S R) ≡ S.count
  unfolding pass
  length-pass R = length-tabulate (capped S R) 0 S.count

  pub get_d-pass : (R : List ℕ) (i : ℕ) → i < S.count → get_or (pass S R) i 0 ≡ capped S R i
  unfolding pass
  get_d-pass R i h = get_d_tabulate (capped S R) 0 S.count i h

  pub pass-mono : Monotone S → (R R' : List ℕ) → Below S.count R R' → Below S.count (pass S R) (pass S R')
  pass-mono mono R R' le i h = omega (arith, get_d-pass R i h, get_d-pass R' i h, mono R R' le i h)

  -- a pass over all times together is such a step
  pub pass-ascending : Monotone S → Ascending S (pass S)
  pass-ascending mono =
      record {
        rising = λ R rising. record { size = length-pass R; rises = pass-mono mono R (pass S R) rising.rises };
        reaches = λ R rising i h. le_refl _;
        stays = λ R C rising closed le i h. le_trans (pass-mono mono R C le i h) (closed i h);
      }

  -- ---- where passes start, and times that no pass raises

  zeros : (i : ℕ) → i < S.count → ◌≡◌ {A = ℕ} (get_or (replicate S.count 0) i 0) 0
  zeros i h = get_or-replicate {A = ℕ} S.count i 0 0 h

  pub zeros-rising : Rising S (replicate S.count 0)
  zeros-rising = record { size = length-replicate {A = ℕ} S.count 0; rises = λ i h. omega (arith, zeros i h) }

  pub zeros-below : (R : List ℕ) → Below S.count (replicate S.count 0) R
  zeros-below R i h = omega (arith, zeros i h)

  -- every time at its cap, D_i + 1
  pub caps : List ℕ
  caps = tabulate (λ i. S.bound i + 1) S.count

  get_d-caps : (i : ℕ) → i < S.count → get_or caps i 0 ≡ S.bound i + 1
  unfolding caps
  get_d-caps i h = get_d_tabulate (λ k. S.bound k + 1) 0 S.count i h

  pub caps-closed : Closed S caps
  caps-closed i h = omega (arith, get_d-caps i h, get_d-pass caps i h)

  pub caps-capped : (R : List ℕ) → Below S.count R caps → Capped S R
  caps-capped R le i h = omega (arith, get_d-caps i h, le i h)

  pub choice-closed : (C : List ℕ) → Choice S C → Closed S C
  choice-closed C choice i h = omega (arith, get_d-pass C i h, choice.meets i h)

-- ---- times that stand still

-- times that are below each other are the same
pub below-same : {n : ℕ} {R R' : List ℕ} → length R ≡ n → length R' ≡ n → Below n R R' → Below n R' R → R ≡ R'
below-same {n} {R} {R'} size size' le ge =
    ext_get_or 0 R R' (size ∙ sym size') (λ i h. let task : i < n = omega arith in le_antisymm (le i task) (ge i task))

-- what the step leaves as it is, a pass does
pub still-pass : {S : System} {step : List ℕ → List ℕ} → Ascending S step → (R : List ℕ) → Rising S R → step R ≡ R → pass S R ≡ R
still-pass {S} up R rising still =
    below-same (length-pass S R) rising.size
    (λ i h. omega (arith, up.reaches R rising i h, ap (λ (l : List ℕ). get_or l i 0) still)) rising.rises

pub still-closed : (S : System) (R : List ℕ) → pass S R ≡ R → Closed S R
still-closed S R e i h = omega (arith, ap (λ (l : List ℕ). get_or l i 0) e)
