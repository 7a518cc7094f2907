-- The different blocks loaded in a set: each once, all of that set, and what one more load makes of them.
-- Assumes nothing.
use Prim.Native.Nat.{ℕ, zero, suc}
use mathlib.Core.Bool.{Bool, true, cond, false≢true}
use mathlib.Core.List.{List, [], ◌∷◌}
use mathlib.Core.Path.{◌≡◌, refl, sym, ap, subst, ◌∙◌}
use native.Mathlib.Decide.{ℕ_discrete}
use borrow.Author.Tests.{eq-eqb, ne_eqb}
use lib.ListN.{take}
use Rattle.lru_cache.specs.Recency.{among, without, recent, held}
use Rattle.lru_cache.proofs.Lists.{Once, among_none, among-front, among-behind, among_later, among-without, among-moved, once-without, without-self}

module _ (place : ℕ → ℕ) where
  pub recent-none : (s : ℕ) → recent place s [] ≡ []
  unfolding recent
  recent-none s = refl

  -- a load in the set, and one in another
  pub recent-own : (s m : ℕ) (past : List ℕ) → place m ≡ s → recent place s (m ∷ past) ≡ m ∷ without m (recent place s past)
  unfolding recent
  recent-own s m past e = ap (λ (t : Bool). cond t (m ∷ without m (recent place s past)) (recent place s past)) (eq-eqb (place m) s e)

  pub recent-other : (s m : ℕ) (past : List ℕ) → (place m ≡ s → ⊥) → recent place s (m ∷ past) ≡ recent place s past
  unfolding recent
  recent-other s m past n = ap (λ (t : Bool). cond t (m ∷ without m (recent place s past)) (recent place s past)) (ne_eqb (place m) s n)

  pub once-recent : (s : ℕ) (past : List ℕ) → Once (recent place s past)
  once-recent s [] = subst Once (sym (recent-none s)) tt
  once-recent s (m ∷ past) = go (once-recent s past) (ℕ_discrete (place m) s)
    where
      go : Once (recent place s past) → Dec (place m ≡ s) → Once (recent place s (m ∷ past))
      go next (yes e) = subst Once (sym (recent-own s m past e)) (without-self m (recent place s past) next, once-without m (recent place s past) next)
      go next (no n) = subst Once (sym (recent-other s m past n)) next

  -- each is a block of the set, and was loaded
  pub recent-there : (s y : ℕ) (past : List ℕ) → among y (recent place s past) ≡ true → (place y ≡ s) × (among y past ≡ true)
  recent-there s y [] e = absurd (false≢true (sym (ap (among y) (recent-none s) ∙ among_none y) ∙ e))
  recent-there s y (m ∷ past) e = go (recent-there s y past) (ℕ_discrete (place m) s) (ℕ_discrete m y)
    where
      go : (among y (recent place s past) ≡ true → (place y ≡ s) × (among y past ≡ true)) → Dec (place m ≡ s) → Dec (m ≡ y)
          → (place y ≡ s) × (among y (m ∷ past) ≡ true)
      go next (yes q) (yes r) = (ap place (sym r) ∙ q, ap (λ (z : ℕ). among y (z ∷ past)) r ∙ among-front y past)
      go next (yes q) (no o) =
          let so = next (among-without m y (recent place s past)
          (sym (ap (among y) (recent-own s m past q) ∙ among-behind m y (without m (recent place s past)) o) ∙ e)) in
          (so.0, among_later m y past so.1)
      go next (no n) r =
          let so = next (sym (ap (among y) (recent-other s m past n)) ∙ e) in
          (so.0, among_later m y past so.1)

  -- a block that is held after the load of another was held before it
  pub held-before : (ways s x m : ℕ) (past : List ℕ) → (x ≡ m → ⊥) → among m (held place ways s (x ∷ past)) ≡ true → among m (held place ways s past) ≡ true
  held-before zero s x m past n e = e
  held-before (suc k) s x m past n e = go (ℕ_discrete (place x) s)
    where
      go : Dec (place x ≡ s) → among m (take (suc k) (recent place s past)) ≡ true
      go (yes q) =
          among-moved k x m (recent place s past)
          (sym (ap (λ (l : List ℕ). among m (take (suc k) l)) (recent-own s x past q) ∙ among-behind x m (take k (without x (recent place s past))) n) ∙ e)
      go (no o) = sym (ap (λ (l : List ℕ). among m (take (suc k) l)) (recent-other s x past o)) ∙ e
