-- Systems with the same tasks, bounds and sums make the same passes, over all times together or in an order, and so need as many, settle at the same times,
-- and have the same late tasks.
-- Assumes nothing.
use mathlib.Core.List.{List}
use mathlib.Core.Path.{◌≡◌, sym, ap, ap₂, ◌∙◌}
use Prim.Native.Nat.{ℕ, zero, suc, ◌+◌, ◌-◌, ◌<◌}
use native.Mathlib.Numerals.{add-one}
use native.Mathlib.Omega.{arith}
use lib.Dec.{ltb}
use lib.ListN.{length, get_or, set, replicate}
use Rattle.folds.specs.Folds.{tabulate, sum_to, same_list, first_from}
use Rattle.folds.proofs.Folds.{sum_to-cong}
use Rattle.folds.proofs.Lists.{tabulate-cong}
use Rattle.folds.proofs.Searches.{first_from-cong}
use Rattle.passes.specs.Passes.{System, capped, pass, ceiling, times_by, unchanged, changes, passes_by, settled_by, settled, is_late, first_late, Alike}
use Rattle.passes.specs.Visits.{in_turn, in_order, Permutation}
use Rattle.passes.proofs.InOrder.{in_turn-none, in_turn-next}

module _ {S S' : System} (alike : Alike S S') where
  capped-alike : (R : List ℕ) (i : ℕ) → i < S.count → capped S R i ≡ capped S' R i
  capped-alike R i h = cc (alike.sum R i h, alike.bound i h)

  pub pass-alike : (R : List ℕ) → pass S R ≡ pass S' R
  unfolding pass
  pass-alike R = tabulate-cong (capped S R) (capped S' R) S.count (capped-alike R) ∙ ap (tabulate (capped S' R)) alike.count

  ceiling-alike : ceiling S ≡ ceiling S'
  ceiling-alike =
      sum_to-cong _ _ S.count (λ i h. ap (λ (d : ℕ). d + 1) (alike.bound i h)) ∙ ap (sum_to (λ i. S'.bound i + 1)) alike.count

  -- the late tasks, at any times
  pub first_late-alike : (R : List ℕ) → first_late S R ≡ first_late S' R
  unfolding first_late
  first_late-alike R =
      first_from-cong (is_late S R) (is_late S' R) S.count 0 (λ i _ h. ap (λ (d : ℕ). ltb d (get_or R i 0)) (alike.bound i (omega arith)))
      ∙ ap (λ (n : ℕ). first_from (is_late S' R) n 0) alike.count

  -- ---- steps that lead to the same times

  module _ {step step' : List ℕ → List ℕ} (same : (R : List ℕ) → step R ≡ step' R) where
    times_by-alike : (p : ℕ) → times_by S step p ≡ times_by S' step' p
    unfolding times_by
    times_by-alike zero = ap (λ (n : ℕ). replicate n 0) alike.count
    times_by-alike (suc p) = same (times_by S step p) ∙ ap step' (times_by-alike p)

    changes-alike : changes S step ≡ changes S' step'
    unfolding changes unchanged
    changes-alike =
        first_from-cong (unchanged S step) (unchanged S' step') (ceiling S) 0 (λ p _ _. ap₂ same_list (times_by-alike (suc p)) (times_by-alike p))
        ∙ ap (λ (n : ℕ). first_from (unchanged S' step') n 0) ceiling-alike

    -- as many passes
    pub passes_by-alike : passes_by S step ≡ passes_by S' step'
    unfolding passes_by
    passes_by-alike = ap suc changes-alike

    -- the same settled times
    pub settled_by-alike : settled_by S step ≡ settled_by S' step'
    unfolding settled_by
    settled_by-alike = times_by-alike (passes_by S step) ∙ ap (times_by S' step') passes_by-alike

  -- ---- Analyse's passes

  pub settled-alike : settled S ≡ settled S'
  settled-alike = settled_by-alike pass-alike

  -- ---- passes in the order of a list that names every task once

  in_turn-alike : (f : ℕ → ℕ) (n : ℕ) → ((k : ℕ) → k < n → f k < S.count) → (R : List ℕ) → in_turn S (tabulate f n) R ≡ in_turn S' (tabulate f n) R
  in_turn-alike f zero all R = in_turn-none S f R ∙ sym (in_turn-none S' f R)
  in_turn-alike f (suc n) all R =
      let before = in_turn-alike f n (λ k h. all k (omega arith)) R in
      let so_far = in_turn S (tabulate f n) R in
      rw (← add-one n, in_turn-next S f R n, in_turn-next S' f R n, ← before) (ap (set so_far (f n)) (capped-alike so_far (f n) (all n (omega arith))))

  pub in_order-alike : {order : List ℕ} → Permutation S.count order → (R : List ℕ) → in_order S order R ≡ in_order S' order R
  in_order-alike {order} permuted =
      in_turn-alike (λ k. get_or order k 0 - 1) (length order) (λ k h. omega (arith, permuted.within k (omega (arith, permuted.size))))
