-- Whatever the order in which steps visit the tasks, their passes settle at the same times, and none needs more passes than a pass over
-- all times together.
-- Assumes nothing.
use mathlib.Core.List.{List}
use mathlib.Core.Path.{◌≡◌, refl, sym, ◌∙◌}
use Prim.Native.Nat.{ℕ, zero, suc, ◌≤◌}
use native.Mathlib.Nat.{le_trans, le_refl}
use native.Mathlib.Omega.{arith}
use Rattle.passes.specs.Passes.{System, pass, times_by, changes, passes_by, settled_by, passes_needed, Below, Monotone}
use Rattle.passes.proofs.Ascending.{Closed, Ascending, pass-mono, pass-ascending, below-same, still-closed}
use Rattle.passes.proofs.Steps.{times_by-suc, changes-least}
use Rattle.passes.proofs.Settling.{times_by-rising, times_by-ascends, times_by-stays, passes_needed-still, settled-length, settled-closed, settled-stays}

module _ {S : System} {step : List ℕ → List ℕ} (up : Ascending S step) where
  -- two ascending steps settle at the same times
  pub settled_same : {step' : List ℕ → List ℕ} → Ascending S step' → settled_by S step ≡ settled_by S step'
  settled_same {step'} up' =
      below-same (settled-length up) (settled-length up')
      (settled-stays up (settled_by S step') (settled-closed up')) (settled-stays up' (settled_by S step) (settled-closed up))

  module _ (mono : Monotone S) where
    -- as many passes over all times together reach no further
    times_by-ahead : (p : ℕ) → Below S.count (times_by S (pass S) p) (times_by S step p)
    unfolding times_by
    times_by-ahead zero i h = le_refl _
    times_by-ahead (suc p) i h =
        le_trans (pass-mono S mono (times_by S (pass S) p) (times_by S step p) (times_by-ahead p) i h)
        (up.reaches (times_by S step p) (times_by-rising up p) i h)

    -- no ascending step needs more passes
    pub passes_needed-least : passes_by S step ≤ passes_needed S
    unfolding passes_by
    passes_needed-least = omega (arith, changes-least S step p (sym (times_by-suc S step p) ∙ still))
      where
        p : ℕ
        p = changes S (pass S)

        closed : Closed S (times_by S (pass S) p)
        closed =
            still-closed S (times_by S (pass S) p) (sym (times_by-suc S (pass S) p) ∙ passes_needed-still (pass-ascending S mono) p refl)

        still : times_by S step (suc p) ≡ times_by S step p
        still =
            below-same (times_by-rising up (suc p)).size (times_by-rising up p).size
            (λ i h. le_trans (times_by-stays up (times_by S (pass S) p) closed (suc p) i h) (times_by-ahead p i h)) (times_by-ascends up p)
