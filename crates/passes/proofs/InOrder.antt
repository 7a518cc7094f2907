-- A pass in the order of a list that names every task once: its passes settle at Analyse's times, and it needs no more of them.
-- Assumes nothing.
use Prim.Native.Nat.{ℕ, zero, suc, ◌+◌, ◌-◌, ◌≤◌, ◌<◌}
use mathlib.Core.List.{List, [], ◌∷◌, ◌++◌}
use mathlib.Core.Logic.{◌⊎◌, inl, inr}
use mathlib.Core.Path.{◌≡◌, refl, ap, subst, ◌∙◌}
use native.Mathlib.Nat.{not-suc-le-zero}
use native.Mathlib.Numerals.{add-one}
use native.Mathlib.Omega.{arith}
use lib.ListN.{length, get_or}
use Rattle.folds.specs.Folds.{tabulate}
use Rattle.folds.proofs.Numbers.{below_suc}
use Rattle.folds.proofs.Named.{all_named}
use Rattle.passes.specs.Passes.{System, passes_by, settled_by, passes_needed, settled, Monotone}
use Rattle.passes.specs.Visits.{visit, in_turn, tasks_of, in_order, Permutation}
use Rattle.passes.proofs.Ascending.{Ascending, pass-ascending}
use Rattle.passes.proofs.Orders.{settled_same, passes_needed-least}
use Rattle.passes.proofs.Visits.{Names, in_turn-ascending}

-- ---- one visit more

-- what a list with one more at its end names
names_more : (order : List ℕ) (i k : ℕ) → Names order k ⊎ (k ≡ i) → Names (order ++ (i ∷ [])) k
names_more [] i k (inl named) = absurd named
names_more [] i k (inr e) = inl e
names_more (j ∷ order) i k (inl (inl e)) = inl e
names_more (j ∷ order) i k (inl (inr named)) = inr (names_more order i k (inl named))
names_more (j ∷ order) i k (inr e) = inr (names_more order i k (inr e))

names-tabulate : (f : ℕ → ℕ) (n j : ℕ) → j < n → Names (tabulate f n) (f j)
unfolding tabulate
names-tabulate f zero j l = absurd (not-suc-le-zero l)
names-tabulate f (suc n) j l =
    below_suc (λ i. Names (tabulate f n ++ (f n ∷ [])) (f i)) n (λ i h. names_more (tabulate f n) (f n) (f i) (inl (names-tabulate f n i h)))
    (names_more (tabulate f n) (f n) (f n) (inr refl)) j l

in_turn-more : (S : System) (order : List ℕ) (i : ℕ) (R : List ℕ) → in_turn S (order ++ (i ∷ [])) R ≡ visit S (in_turn S order R) i
unfolding in_turn
in_turn-more S [] i R = refl
in_turn-more S (j ∷ order) i R = in_turn-more S order i (visit S R j)

-- the first k + 1 visits of a pass
module _ (S : System) (f : ℕ → ℕ) (R : List ℕ) where
  pub in_turn-none : in_turn S (tabulate f 0) R ≡ R
  unfolding tabulate in_turn
  in_turn-none = refl

  pub in_turn-next : (k : ℕ) → in_turn S (tabulate f (k + 1)) R ≡ visit S (in_turn S (tabulate f k) R) (f k)
  unfolding tabulate
  in_turn-next k = ap (λ (m : ℕ). in_turn S (tabulate f m) R) (add-one k) ∙ in_turn-more S (tabulate f k) (f k) R

-- ---- a pass in order

module _ (S : System) (mono : Monotone S) {order : List ℕ} (permuted : Permutation S.count order) where
  named : (k : ℕ) → k < S.count → Names (tasks_of order) k
  named k h =
      let n = S.count in
      let f : ℕ → ℕ = λ j. get_or order j 0 - 1 in
      let found = all_named f n (λ j l. omega (arith, permuted.within j l))
      (λ i j l l' e. permuted.differ i j l l' (let a = permuted.within i (omega arith) in let c = permuted.within j l' in omega arith)) k h in
      subst (Names (tasks_of order)) found.2 (names-tabulate f (length order) found.0 (let l : found.0 < n = found.1 in omega (arith, permuted.size)))

  pub in_order-ascending : Ascending S (in_order S order)
  in_order-ascending = in_turn-ascending S mono (tasks_of order) named

  -- the same times
  pub in_order-settled : settled_by S (in_order S order) ≡ settled S
  in_order-settled = settled_same in_order-ascending (pass-ascending S mono)

  -- never more passes
  pub in_order-passes : passes_by S (in_order S order) ≤ passes_needed S
  in_order-passes = passes_needed-least in_order-ascending mono
