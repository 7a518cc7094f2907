-- With one way every figure is that of the direct-mapped cache of document 01: misses, and a useful block in each useful set and in no other.
-- Assumes nothing.
use Prim.Native.Nat.{ℕ, ◌+◌}
use mathlib.Core.Bool.{Bool, true, false, not, cond, ◌&&◌, or-false, and_comm, false≢true}
use mathlib.Core.List.{List, [], ◌∷◌}
use mathlib.Core.Option.{Option, none, some}
use mathlib.Core.Path.{◌≡◌, refl, sym, ap, ap₂, ◌∙◌}
use native.Mathlib.Decide.{ℕ_discrete}
use native.Mathlib.Nat.{add-zero}
use borrow.Author.Tests.{eqb-true, eq-eqb, ne_eqb}
use lib.Dec.{eqb}
use lib.ListN.{take}
use Rattle.folds.specs.Folds.{only_if, sum_where, count_to}
use Rattle.folds.proofs.Numbers.{never_true, only_if-and}
use Rattle.folds.proofs.Folds.{sum_to-cong}
use Rattle.lru_cache.specs.Recency.{among, held, hits, miss_count, next_hits, useful_in, count_in}
use Rattle.document01.specs.Document01.{first_in, same_block, miss_count as direct_misses, useful_set as direct_useful}
use Rattle.lru_cache.proofs.Recent.{recent-none, recent-own, recent-other}
use Rattle.lru_cache.proofs.Useful.{next-none, next-own, next-other, next-held, hits-is}

-- what a set of one way holds
abbrev list_of : Option ℕ → List ℕ
list_of none = []
list_of (some m) = m ∷ []

module _ (place : ℕ → ℕ) where
  first-none : (s : ℕ) → first_in place s [] ≡ none
  unfolding first_in
  first-none s = refl

  first-own : (s m : ℕ) (ms : List ℕ) → place m ≡ s → first_in place s (m ∷ ms) ≡ some m
  unfolding first_in
  first-own s m ms e = ap (λ (t : Bool). cond t (some m) (first_in place s ms)) (eq-eqb (place m) s e)

  first-other : (s m : ℕ) (ms : List ℕ) → (place m ≡ s → ⊥) → first_in place s (m ∷ ms) ≡ first_in place s ms
  unfolding first_in
  first-other s m ms n = ap (λ (t : Bool). cond t (some m) (first_in place s ms)) (ne_eqb (place m) s n)

  held_one : (s : ℕ) (past : List ℕ) → held place 1 s past ≡ list_of (first_in place s past)
  held_one s [] = ap (take 1) (recent-none place s) ∙ sym (ap list_of (first-none s))
  held_one s (m ∷ past) = go (held_one s past) (ℕ_discrete (place m) s)
    where
      go : held place 1 s past ≡ list_of (first_in place s past) → Dec (place m ≡ s) → held place 1 s (m ∷ past) ≡ list_of (first_in place s (m ∷ past))
      go next (yes e) = ap (take 1) (recent-own place s m past e) ∙ sym (ap list_of (first-own s m past e))
      go next (no n) = ap (take 1) (recent-other place s m past n) ∙ next ∙ sym (ap list_of (first-other s m past n))

  among_one : (o : Option ℕ) (m : ℕ) → among m (list_of o) ≡ same_block o (some m)
  unfolding among
  among_one none m = refl
  among_one (some x) m = or-false (eqb x m)

  hits-first : (past : List ℕ) (m : ℕ) → hits place 1 past m ≡ same_block (first_in place (place m) past) (some m)
  hits-first past m = hits-is place 1 past m ∙ ap (among m) (held_one (place m) past) ∙ among_one (first_in place (place m) past) m

  -- the misses of a list of loads
  pub misses-one : (past later : List ℕ) → miss_count place 1 past later ≡ direct_misses place past later
  unfolding miss_count direct_misses
  misses-one past [] = refl
  misses-one past (m ∷ later) = ap₂ (λ (t : Bool) (n : ℕ). only_if (not t) 1 + n) (hits-first past m) (misses-one (m ∷ past) later)

  -- ---- useful blocks

  -- the block last loaded in a set: its next load hits where it is the next one in the set
  next_one : (s m : ℕ) → place m ≡ s → (past later : List ℕ) → first_in place s past ≡ some m
      → next_hits place 1 past later m ≡ same_block (some m) (first_in place s later)
  next_one s m own past [] last = next-none place 1 past m ∙ sym (ap (same_block (some m)) (first-none s))
  next_one s m own past (x ∷ later) last = go (next_one s m own (x ∷ past) later) (ℕ_discrete x m) (ℕ_discrete (place x) s)
    where
      -- the block is not held once another is loaded in its set
      lost : (x ≡ m → ⊥) → place x ≡ s → next_hits place 1 (x ∷ past) later m ≡ true → ⊥
      lost n q e =
          n (eqb-true x m
          (sym (ap (among m) (ap (λ (k : ℕ). held place 1 k (x ∷ past)) own ∙ held_one s (x ∷ past) ∙ ap list_of (first-own s x past q))
          ∙ among_one (some x) m) ∙ next-held place 1 (x ∷ past) later m e))

      go : (first_in place s (x ∷ past) ≡ some m → next_hits place 1 (x ∷ past) later m ≡ same_block (some m) (first_in place s later)) → Dec (x ≡ m) → Dec (place x ≡ s)
          → next_hits place 1 past (x ∷ later) m ≡ same_block (some m) (first_in place s (x ∷ later))
      go next (yes q) d =
          ap (λ (z : ℕ). next_hits place 1 past (z ∷ later) m) q ∙ next-own place 1 past later m
          ∙ hits-first past m ∙ ap (λ (o : Option ℕ). same_block o (some m)) (ap (λ (k : ℕ). first_in place k past) own ∙ last)
          ∙ sym (ap (same_block (some m)) (first-own s x later (ap place q ∙ own) ∙ ap some q))
      go next (no n) (yes q) =
          next-other place 1 past later x m n ∙ never_true (next_hits place 1 (x ∷ past) later m) (lost n q)
          ∙ sym (ap (same_block (some m)) (first-own s x later q) ∙ ne_eqb m x (λ e. n (sym e)))
      go next (no n) (no o) =
          next-other place 1 past later x m n ∙ next (first-other s x past o ∙ last) ∙ sym (ap (same_block (some m)) (first-other s x later o))

  first-place : (s m : ℕ) (past : List ℕ) → first_in place s past ≡ some m → place m ≡ s
  first-place s m [] e = absurd (no-some (sym (first-none s) ∙ e))
    where
      no-some : none ≡ some m → ⊥
      no-some e = false≢true (ap is_some e)
        where
          is_some : Option ℕ → Bool
          is_some none = false
          is_some (some x) = true
  first-place s m (x ∷ past) e = go (first-place s m past) (ℕ_discrete (place x) s)
    where
      go : (first_in place s past ≡ some m → place m ≡ s) → Dec (place x ≡ s) → place m ≡ s
      go next (yes q) = ap place (sym (some_inj (sym (first-own s x past q) ∙ e))) ∙ q
        where
          some_inj : some x ≡ some m → x ≡ m
          some_inj e = ap (value x) e
            where
              value : ℕ → Option ℕ → ℕ
              value d none = d
              value d (some y) = y
      go next (no n) = next (sym (first-other s x past n) ∙ e)

  -- a set has one useful block where it is useful, and none where not
  pub useful-one : (past later : List ℕ) (s : ℕ) → useful_in place 1 past later s ≡ only_if (direct_useful place past later s) 1
  unfolding useful_in count_in direct_useful
  useful-one past later s = ap (count_in (next_hits place 1 past later)) (held_one s past) ∙ go (first_in place s past) refl
    where
      nothing : (o : Option ℕ) → same_block none o ≡ false
      nothing none = refl
      nothing (some x) = refl

      go : (o : Option ℕ) → first_in place s past ≡ o → count_in (next_hits place 1 past later) (list_of o) ≡ only_if (same_block o (first_in place s later)) 1
      go none e = sym (ap (λ (t : Bool). only_if t 1) (nothing (first_in place s later)))
      go (some m) e = add-zero (only_if (next_hits place 1 past later m) 1) ∙ ap (λ (t : Bool). only_if t 1) (next_one s m (first-place s m past e) past later e)

  -- so as many blocks are useful in the sets that pass a test as sets are useful and pass it
  pub useful-sets-one : (test : ℕ → Bool) (past later : List ℕ) (n : ℕ)
      → sum_where test (useful_in place 1 past later) n ≡ count_to (λ s. direct_useful place past later s && test s) n
  unfolding count_to
  useful-sets-one test past later n =
      sum_to-cong _ _ n (λ s h. ap (λ (k : ℕ). only_if (test s) k) (useful-one past later s) ∙ sym (only_if-and (test s) (direct_useful place past later s) 1)
      ∙ ap (λ (t : Bool). only_if t 1) (and_comm (test s) (direct_useful place past later s)))
