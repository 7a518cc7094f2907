-- One position more, and the positions whose block is loaded again: a load that hits tells the last position that loaded its block that it is kept, and no other.
-- Assumes nothing.
use Prim.Native.Nat.{ℕ, zero, suc, ◌+◌, ◌≤◌, ◌<◌}
use mathlib.Core.Bool.{Bool, true, false, not, cond, ◌&&◌, ◌||◌, or-true, or-false, or_assoc, false≢true}
use mathlib.Core.Path.{◌≡◌, refl, sym, ap, ap₂, ◌∙◌}
use native.Mathlib.Decide.{ℕ_discrete}
use native.Mathlib.Nat.{add-zero}
use native.Mathlib.Omega.{arith}
use borrow.Author.Tests.{eq-eqb, ne_eqb}
use lib.Dec.{eqb}
use Rattle.lru_cache.specs.Recency.{among, hits, next_hits}
use Rattle.lru_cache.specs.Positions.{with_load, before, next_loads}
use Rattle.entries.specs.Marks.{last_of}
use Rattle.lru_cache.proofs.Lists.{among_none, among-behind}
use Rattle.lru_cache.proofs.Useful.{next-none, next-own, next-other}

-- whether one of the k positions from j on loads block m
unfoldable loaded : (ℕ → ℕ) → ℕ → ℕ → ℕ → Bool
loaded l m j zero = false
loaded l m j (suc k) = eqb (l j) (suc m) || loaded l m (suc j) k

module _ (l : ℕ → ℕ) (m : ℕ) where
  loaded-end : (j k : ℕ) → loaded l m j (suc k) ≡ (loaded l m j k || eqb (l (j + k)) (suc m))
  unfolding loaded
  loaded-end j zero = or-false (eqb (l j) (suc m)) ∙ ap (λ (i : ℕ). eqb (l i) (suc m)) (sym (add-zero j))
  loaded-end j (suc k) =
      let next : suc j + k ≡ j + suc k = omega arith in
      ap (λ (t : Bool). eqb (l j) (suc m) || t) (loaded-end (suc j) k ∙ ap (λ (i : ℕ). loaded l m (suc j) k || eqb (l i) (suc m)) next)
      ∙ sym (or_assoc (eqb (l j) (suc m)) (loaded l m (suc j) k) (eqb (l (j + suc k)) (suc m)))

  -- ---- the last position that loads the block

  last-below : (e : ℕ) → last_of l e m ≤ e
  unfolding last_of
  last-below zero = omega arith
  last-below (suc e) = go (eqb (l e) (suc m)) (last-below e)
    where
      go : (t : Bool) → last_of l e m ≤ e → cond t e (last_of l e m) ≤ suc e
      go true h = omega arith
      go false h = omega arith

  pub last-small : (e : ℕ) → e ≤ 2048 → last_of l e m < 2048
  unfolding last_of
  last-small zero h = omega arith
  last-small (suc e) h = go (eqb (l e) (suc m)) (last-small e (omega arith))
    where
      go : (t : Bool) → last_of l e m < 2048 → cond t e (last_of l e m) < 2048
      go true k = omega arith
      go false k = k

  pub last-own : (e : ℕ) → l e ≡ suc m → last_of l (suc e) m ≡ e
  unfolding last_of
  last-own e h = ap (λ (t : Bool). cond t e (last_of l e m)) (eq-eqb (l e) (suc m) h)

  pub last-other : (e : ℕ) → (l e ≡ suc m → ⊥) → last_of l (suc e) m ≡ last_of l e m
  unfolding last_of
  last-other e h = ap (λ (t : Bool). cond t e (last_of l e m)) (ne_eqb (l e) (suc m) h)

  loaded-none : (j : ℕ) → loaded l m j 0 ≡ false
  unfolding loaded
  loaded-none j = refl

  -- a position that loads it is the last one where none after it does
  last-loaded : (i k : ℕ) → l i ≡ suc m → loaded l m (suc i) k ≡ not (eqb (last_of l (suc i + k) m) i)
  last-loaded i zero h =
      loaded-none (suc i)
      ∙ sym (ap (λ (x : ℕ). not (eqb (last_of l x m) i)) (add-zero (suc i)) ∙ ap (λ (x : ℕ). not (eqb x i)) (last-own i h) ∙ ap not (eq-eqb i i refl))
  last-loaded i (suc k) h = go (last-loaded i k h) (ℕ_discrete (l (suc i + k)) (suc m))
    where
      more : suc i + suc k ≡ suc (suc i + k)
      more = omega arith

      go : loaded l m (suc i) k ≡ not (eqb (last_of l (suc i + k) m) i) → Dec (l (suc i + k) ≡ suc m) → loaded l m (suc i) (suc k) ≡ not (eqb (last_of l (suc i + suc k) m) i)
      go next (yes q) =
          loaded-end (suc i) k ∙ ap (λ (t : Bool). loaded l m (suc i) k || t) (eq-eqb (l (suc i + k)) (suc m) q) ∙ or-true (loaded l m (suc i) k)
          ∙ sym (ap (λ (x : ℕ). not (eqb (last_of l x m) i)) more ∙ ap (λ (x : ℕ). not (eqb x i)) (last-own (suc i + k) q) ∙ ap not (ne_eqb (suc i + k) i (λ e. omega arith)))
      go next (no o) =
          loaded-end (suc i) k ∙ ap (λ (t : Bool). loaded l m (suc i) k || t) (ne_eqb (l (suc i + k)) (suc m) o) ∙ or-false (loaded l m (suc i) k)
          ∙ next ∙ sym (ap (λ (x : ℕ). not (eqb (last_of l x m) i)) more ∙ ap (λ (x : ℕ). not (eqb x i)) (last-other (suc i + k) o))

-- a block that was loaded has a last position
pub last-there : (l : ℕ → ℕ) (m e : ℕ) → among m (before l e) ≡ true → (last_of l e m < e) × (l (last_of l e m) ≡ suc m)
unfolding before
last-there l m zero h = absurd (false≢true (sym (among_none m) ∙ h))
last-there l m (suc e) h = go (last-there l m e) (ℕ_discrete (l e) (suc m))
  where
    skip : (x : ℕ) → (x ≡ suc m → ⊥) → among m (with_load x (before l e)) ≡ among m (before l e)
    skip zero n = refl
    skip (suc y) n = among-behind y m (before l e) (λ q. n (ap suc q))

    go : (among m (before l e) ≡ true → (last_of l e m < e) × (l (last_of l e m) ≡ suc m)) → Dec (l e ≡ suc m) → (last_of l (suc e) m < suc e) × (l (last_of l (suc e) m) ≡ suc m)
    go next (yes q) = (omega (arith, last-own l m e q), ap l (last-own l m e q) ∙ q)
    go next (no o) =
        let so = next (sym (skip (l e) o) ∙ h) in
        let less : last_of l e m < e = so.0 in
        (omega (arith, last-other l m e o), ap l (last-other l m e o) ∙ so.1)

-- ---- the next load of a block among one position more

module _ (place : ℕ → ℕ) (ways : ℕ) (l : ℕ → ℕ) (m : ℕ) where
  abbrev next : ℕ → ℕ → Bool
  next j k = next_hits place ways (before l j) (next_loads l j k) m

  -- the first of the positions
  first-own : (j k : ℕ) → l j ≡ suc m → next j (suc k) ≡ hits place ways (before l j) m
  unfolding next_loads
  first-own j k q = ap (λ (x : ℕ). next_hits place ways (before l j) (with_load x (next_loads l (suc j) k)) m) q ∙ next-own place ways (before l j) (next_loads l (suc j) k) m

  first-other : (j k : ℕ) → (l j ≡ suc m → ⊥) → next j (suc k) ≡ next (suc j) k
  unfolding before next_loads
  first-other j k o = go (l j) o
    where
      go : (x : ℕ) → (x ≡ suc m → ⊥) → next_hits place ways (before l j) (with_load x (next_loads l (suc j) k)) m ≡ next_hits place ways (with_load x (before l j)) (next_loads l (suc j) k) m
      go zero n = refl
      go (suc y) n = next-other place ways (before l j) (next_loads l (suc j) k) y m (λ q. n (ap suc q))

  nothing_yet : (j : ℕ) → next j 0 ≡ false
  unfolding next_loads
  nothing_yet j = next-none place ways (before l j) m

  -- none of k positions loads the block
  none-loaded : (j k : ℕ) → loaded l m j k ≡ false → next j k ≡ false
  unfolding loaded
  none-loaded j zero h = nothing_yet j
  none-loaded j (suc k) h = go (none-loaded (suc j) k) (ℕ_discrete (l j) (suc m))
    where
      go : (loaded l m (suc j) k ≡ false → next (suc j) k ≡ false) → Dec (l j ≡ suc m) → next j (suc k) ≡ false
      go rest (yes q) = absurd (false≢true (sym h ∙ ap (λ (t : Bool). t || loaded l m (suc j) k) (eq-eqb (l j) (suc m) q)))
      go rest (no o) = first-other j k o ∙ rest (sym (ap (λ (t : Bool). t || loaded l m (suc j) k) (ne_eqb (l j) (suc m) o)) ∙ h)

  next_more : (j k : ℕ) → next j (suc k) ≡ cond (loaded l m j k) (next j k) (eqb (l (j + k)) (suc m) && hits place ways (before l (j + k)) m)
  unfolding loaded
  next_more j zero = go (ℕ_discrete (l j) (suc m)) ∙ ap (λ (i : ℕ). eqb (l i) (suc m) && hits place ways (before l i) m) (sym (add-zero j))
    where
      go : Dec (l j ≡ suc m) → next j 1 ≡ (eqb (l j) (suc m) && hits place ways (before l j) m)
      go (yes q) = first-own j 0 q ∙ sym (ap (λ (t : Bool). t && hits place ways (before l j) m) (eq-eqb (l j) (suc m) q))
      go (no o) = first-other j 0 o ∙ nothing_yet (suc j) ∙ sym (ap (λ (t : Bool). t && hits place ways (before l j) m) (ne_eqb (l j) (suc m) o))
  next_more j (suc k) = go (next_more (suc j) k) (ℕ_discrete (l j) (suc m))
    where
      there : suc j + k ≡ j + suc k
      there = omega arith

      rest : ℕ → Bool
      rest i = eqb (l i) (suc m) && hits place ways (before l i) m

      go : next (suc j) (suc k) ≡ cond (loaded l m (suc j) k) (next (suc j) k) (rest (suc j + k)) → Dec (l j ≡ suc m)
          → next j (suc (suc k)) ≡ cond (eqb (l j) (suc m) || loaded l m (suc j) k) (next j (suc k)) (rest (j + suc k))
      go more (yes q) =
          first-own j (suc k) q ∙ sym (first-own j k q)
          ∙ sym (ap (λ (t : Bool). cond (t || loaded l m (suc j) k) (next j (suc k)) (rest (j + suc k))) (eq-eqb (l j) (suc m) q))
      go more (no o) =
          first-other j (suc k) o ∙ more
          ∙ ap₂ (λ (u : Bool) (i : ℕ). cond (loaded l m (suc j) k) u (rest i)) (sym (first-other j k o)) there
          ∙ sym (ap (λ (t : Bool). cond (t || loaded l m (suc j) k) (next j (suc k)) (rest (j + suc k))) (ne_eqb (l j) (suc m) o))

  -- position i loads the block, and position e = i + 1 + k is one more
  module _ (i k : ℕ) (own : l i ≡ suc m) where
    abbrev e : ℕ
    e = suc i + k

    -- it does not load the block, or misses: nothing changes
    pub next-same : (eqb (l e) (suc m) && hits place ways (before l e) m) ≡ false → next (suc i) (suc k) ≡ next (suc i) k
    next-same h = next_more (suc i) k ∙ go (loaded l m (suc i) k) refl
      where
        go : (t : Bool) → loaded l m (suc i) k ≡ t → cond t (next (suc i) k) (eqb (l e) (suc m) && hits place ways (before l e) m) ≡ next (suc i) k
        go true q = refl
        go false q = h ∙ sym (none-loaded (suc i) k q)

    -- another position loaded it since: nothing changes
    pub next-passed : (last_of l e m ≡ i → ⊥) → next (suc i) (suc k) ≡ next (suc i) k
    next-passed n =
        next_more (suc i) k
        ∙ ap (λ (t : Bool). cond t (next (suc i) k) (eqb (l e) (suc m) && hits place ways (before l e) m)) (last-loaded l m i k own ∙ ap not (ne_eqb (last_of l e m) i n))

    -- position i was the last to load it, and the load hits
    pub next-new : last_of l e m ≡ i → l e ≡ suc m → hits place ways (before l e) m ≡ true → (next (suc i) k ≡ false) × (next (suc i) (suc k) ≡ true)
    next-new q here hit =
        let fresh : loaded l m (suc i) k ≡ false = last-loaded l m i k own ∙ ap not (eq-eqb (last_of l e m) i q) in (
          none-loaded (suc i) k fresh,
          next_more (suc i) k ∙ ap (λ (t : Bool). cond t (next (suc i) k) (eqb (l e) (suc m) && hits place ways (before l e) m)) fresh
              ∙ ap₂ (λ (t u : Bool). t && u) (eq-eqb (l e) (suc m) here) hit,
        )
