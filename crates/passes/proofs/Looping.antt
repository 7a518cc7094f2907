-- What a loop over passes knows before each of them, and what follows where the next one changes nothing.
-- Assumes nothing.
use mathlib.Core.Bool.{false}
use mathlib.Core.List.{List}
use mathlib.Core.Logic.{⊎_elim}
use mathlib.Core.Path.{◌≡◌, refl, sym}
use Prim.Native.Nat.{ℕ, ◌+◌, ◌<◌}
use native.Mathlib.Numerals.{add-one}
use native.Mathlib.Omega.{arith}
use lib.ListN.{replicate}
use Rattle.folds.proofs.Numbers.{le-or-lt, below_suc}
use Rattle.passes.specs.Passes.{System, times_by, unchanged, changes, passes_by, settled_by, Capped}
use Rattle.passes.proofs.Ascending.{Ascending}
use Rattle.passes.proofs.Steps.{times_by-suc, unchanged-false, changes-least}
use Rattle.passes.proofs.Settling.{times_by-capped, changes-still}

-- R is the times after p passes, each of which changed a time
pub record Passing (S : System) (step : List ℕ → List ℕ) (p : ℕ) (R : List ℕ) : Type 0 where
  pub times : R ≡ times_by S step p
  pub moved : (q : ℕ) → q < p → unchanged S step q ≡ false

pub passing-none : (S : System) (step : List ℕ → List ℕ) → Passing S step 0 (replicate S.count 0)
unfolding times_by
passing-none S step = record { times = refl; moved = λ q l. absurd (omega arith) }

-- the next pass changes a time
pub passing-more : {S : System} {step : List ℕ → List ℕ} {p : ℕ} {R : List ℕ} → Passing S step p R → (step R ≡ R → ⊥)
    → Passing S step (p + 1) (step R)
passing-more {S} {step} {p} so_far moves =
    let next : unchanged S step p ≡ false = unchanged-false S step p (λ e. moves (rw so_far.times e)) in
    record {
      times = rw (so_far.times, add-one) (sym (times_by-suc S step p));
      moved = λ q l. below_suc (λ k. unchanged S step k ≡ false) p so_far.moved next q (omega arith);
    }

module _ {S : System} {step : List ℕ → List ℕ} (up : Ascending S step) {p : ℕ} {R : List ℕ} (so_far : Passing S step p R) where
  pub passing-capped : Capped S R
  passing-capped = rw so_far.times (times_by-capped up p)

  -- more passes are needed than were made
  pub passing-over : p < passes_by S step
  unfolding passes_by
  passing-over = ⊎_elim (λ h. omega arith) (λ h. absurd (clash (so_far.moved (changes S step) h))) (le-or-lt p (changes S step))
    where
      clash : unchanged S step (changes S step) ≡ false → ⊥
      clash e = let z : ◌≡◌ {A = ℕ} 0 1 = cc (changes-still up) in omega arith

  -- the next pass changes nothing: it is the one that is needed last
  pub passing-needed : step R ≡ R → passes_by S step ≡ p + 1
  unfolding passes_by
  passing-needed e = omega (arith, passing-over, changes-least S step p (rw (← so_far.times) e))

  -- and the times have settled
  pub passing-settled : step R ≡ R → settled_by S step ≡ R
  unfolding settled_by
  passing-settled e = rw (passing-needed e, add-one, times_by-suc S step p, ← so_far.times) e
