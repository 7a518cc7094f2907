-- A pass that visits the tasks one after the other, each using the newest times, is ascending too: in any order that names every task.
-- Assumes nothing.
use mathlib.Core.List.{List, [], ◌∷◌}
use mathlib.Core.Logic.{◌⊎◌, inl, inr, ⊎_elim}
use mathlib.Core.Path.{◌≡◌, ◌∙◌}
use Prim.Native.Nat.{ℕ, ◌≤◌, ◌<◌}
use native.Mathlib.Decide.{ℕ_discrete}
use native.Mathlib.Nat.{le_trans, le_refl}
use native.Mathlib.Omega.{arith}
use lib.ListN.{get_or, length-set}
use lib.Seq.{get_or-set_same, get_or-set_other}
use Rattle.passes.specs.Passes.{System, capped, Below, Monotone}
use Rattle.passes.specs.Visits.{visit, in_turn}
use Rattle.passes.proofs.Ascending.{Rising, Closed, Ascending, get_d-pass}

-- the list names task k
abbrev pub Names : List ℕ → ℕ → Type 0
Names [] k = ⊥
Names (i ∷ order) k = (k ≡ i) ⊎ Names order k

module _ (S : System) (mono : Monotone S) where
  -- ---- one visit, to task i

  module _ (R : List ℕ) (rising : Rising S R) (i : ℕ) where
    visit-here : (k : ℕ) → k < S.count → k ≡ i → get_or (visit S R i) k 0 ≡ capped S R k
    visit-here k h e = rw e (get_or-set_same R i (capped S R i) 0 (omega (arith, rising.size)))

    visit-is : (k : ℕ) → k < S.count → (get_or (visit S R i) k 0 ≡ capped S R k) ⊎ (get_or (visit S R i) k 0 ≡ get_or R k 0)
    visit-is k h = elim (ℕ_discrete k i) [ yes e ↦ inl (visit-here k h e) | no n ↦ inr (get_or-set_other R i k (capped S R i) 0 n) ]

    pub visit-raises : Below S.count R (visit S R i)
    visit-raises k h =
        ⊎_elim (λ e. omega (arith, rising.rises k h, get_d-pass S R k h)) (λ e. omega arith) (visit-is k h)

    pub visit-rising : Rising S (visit S R i)
    visit-rising =
        record {
          size = length-set R i (capped S R i) ∙ rising.size;
          rises = λ k h.
              let higher = mono R (visit S R i) visit-raises k h in
              let next = get_d-pass S (visit S R i) k h in
              ⊎_elim (λ e. omega arith) (λ e. omega (arith, rising.rises k h, get_d-pass S R k h)) (visit-is k h);
        }

    visit-stays : (C : List ℕ) → Closed S C → Below S.count R C → Below S.count (visit S R i) C
    visit-stays C closed le k h =
        ⊎_elim (λ e. omega (arith, closed k h, get_d-pass S C k h, mono R C le k h)) (λ e. omega (arith, le k h)) (visit-is k h)

  -- ---- a pass of visits

  in_turn-rising : (order R : List ℕ) → Rising S R → Rising S (in_turn S order R)
  unfolding in_turn
  in_turn-rising [] R rising = rising
  in_turn-rising (i ∷ order) R rising = in_turn-rising order (visit S R i) (visit-rising R rising i)

  in_turn-raises : (order R : List ℕ) → Rising S R → Below S.count R (in_turn S order R)
  unfolding in_turn
  in_turn-raises [] R rising k h = le_refl _
  in_turn-raises (i ∷ order) R rising k h =
      le_trans (visit-raises R rising i k h) (in_turn-raises order (visit S R i) (visit-rising R rising i) k h)

  in_turn-stays : (order R C : List ℕ) → Rising S R → Closed S C → Below S.count R C → Below S.count (in_turn S order R) C
  unfolding in_turn
  in_turn-stays [] R C rising closed le = le
  in_turn-stays (i ∷ order) R C rising closed le =
      in_turn-stays order (visit S R i) C (visit-rising R rising i) closed (visit-stays R rising i C closed le)

  in_turn-reaches : (order R : List ℕ) → Rising S R → (k : ℕ) → k < S.count → Names order k → capped S R k ≤ get_or (in_turn S order R) k 0
  unfolding in_turn
  in_turn-reaches [] R rising k h named = absurd named
  in_turn-reaches (i ∷ order) R rising k h (inl e) =
      omega (arith, visit-here R rising i k h e, in_turn-raises order (visit S R i) (visit-rising R rising i) k h)
  in_turn-reaches (i ∷ order) R rising k h (inr named) =
      omega (arith, mono R (visit S R i) (visit-raises R rising i) k h, in_turn-reaches order (visit S R i) (visit-rising R rising i) k h named)

  -- an order that names every task makes an ascending pass
  pub in_turn-ascending : (order : List ℕ) → ((k : ℕ) → k < S.count → Names order k) → Ascending S (in_turn S order)
  in_turn-ascending order every =
      record {
        rising = in_turn-rising order;
        reaches = λ R rising k h. omega (arith, get_d-pass S R k h, in_turn-reaches order R rising k h (every k h));
        stays = in_turn-stays order;
      }
