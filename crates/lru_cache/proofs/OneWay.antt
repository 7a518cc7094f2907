-- With one way every figure is that of a direct-mapped cache: hits, misses, and a useful block in each useful set and in no other.
-- Assumes nothing.
use Prim.Native.Nat.{ℕ, ◌+◌, ◌<◌}
use mathlib.Core.Bool.{Bool, true, false, not, cond, ◌&&◌, or-false, and_comm, false≢true}
use mathlib.Core.List.{List, [], ◌∷◌, ◌++◌, reverse, append_assoc, append-nil, reverse-append}
use mathlib.Core.Option.{Option, none, some}
use mathlib.Core.Path.{◌≡◌, refl, sym, ap, ap₂, ◌∙◌}
use native.Mathlib.Decide.{ℕ_discrete}
use native.Mathlib.Nat.{add-zero}
use native.Mathlib.Omega.{arith}
use borrow.Author.Tests.{eqb-true, eq-eqb, ne_eqb}
use lib.Dec.{eqb}
use lib.ListN.{length, take, length-append, get_or-append}
use lib.Seq.{get_or_at, take_at, take-append-le}
use Rattle.folds.specs.Folds.{only_if, sum_where, count_to}
use Rattle.folds.proofs.Numbers.{never_true, only_if-and}
use Rattle.folds.proofs.Folds.{sum_to-cong, count_to-none, count_to-next, count_to-cong}
use Rattle.lru_cache.specs.Recency.{among, held, hits, miss_count, next_hits, useful_in, count_in}
use Rattle.lru_cache.specs.Direct.{first_in, last_in, same_block, direct_hits, misses, direct_misses, direct_useful}
use Rattle.lru_cache.proofs.Recent.{recent-none, recent-own, recent-other}
use Rattle.lru_cache.proofs.Useful.{next-none, next-own, next-other, next-held, hits-is}

-- what a set of one way holds
abbrev list_of : Option ℕ → List ℕ
list_of none = []
list_of (some m) = m ∷ []

module _ (place : ℕ → ℕ) where
  first-none : (s : ℕ) → first_in place s [] ≡ none
  unfolding first_in
  first-none s = refl

  first-own : (s m : ℕ) (ms : List ℕ) → place m ≡ s → first_in place s (m ∷ ms) ≡ some m
  unfolding first_in
  first-own s m ms e = ap (λ (t : Bool). cond t (some m) (first_in place s ms)) (eq-eqb (place m) s e)

  first-other : (s m : ℕ) (ms : List ℕ) → (place m ≡ s → ⊥) → first_in place s (m ∷ ms) ≡ first_in place s ms
  unfolding first_in
  first-other s m ms n = ap (λ (t : Bool). cond t (some m) (first_in place s ms)) (ne_eqb (place m) s n)

  held_one : (s : ℕ) (past : List ℕ) → held place 1 s past ≡ list_of (first_in place s past)
  held_one s [] = ap (take 1) (recent-none place s) ∙ sym (ap list_of (first-none s))
  held_one s (m ∷ past) = go (held_one s past) (ℕ_discrete (place m) s)
    where
      go : held place 1 s past ≡ list_of (first_in place s past) → Dec (place m ≡ s) → held place 1 s (m ∷ past) ≡ list_of (first_in place s (m ∷ past))
      go next (yes e) = ap (take 1) (recent-own place s m past e) ∙ sym (ap list_of (first-own s m past e))
      go next (no n) = ap (take 1) (recent-other place s m past n) ∙ next ∙ sym (ap list_of (first-other s m past n))

  among_one : (o : Option ℕ) (m : ℕ) → among m (list_of o) ≡ same_block o (some m)
  unfolding among
  among_one none m = refl
  among_one (some x) m = or-false (eqb x m)

  hits-first : (past : List ℕ) (m : ℕ) → hits place 1 past m ≡ same_block (first_in place (place m) past) (some m)
  hits-first past m = hits-is place 1 past m ∙ ap (among m) (held_one (place m) past) ∙ among_one (first_in place (place m) past) m

  -- a load hits
  pub hits-one : (before : List ℕ) (m : ℕ) → hits place 1 (reverse before) m ≡ direct_hits place before m
  unfolding direct_hits last_in
  hits-one before m = hits-first (reverse before) m

  -- ---- the misses of a list of loads

  module _ (ms : List ℕ) (m : ℕ) where
    earlier : (e : ℕ) → e < length ms → misses place (ms ++ (m ∷ [])) e ≡ misses place ms e
    earlier e h =
        ap₂ (λ (before : List ℕ) (x : ℕ). not (direct_hits place before x)) (take-append-le e ms (m ∷ []) (omega arith)) (get_or-append ms (m ∷ []) 0 e h)

    here : misses place (ms ++ (m ∷ [])) (length ms) ≡ not (direct_hits place ms m)
    here =
        ap₂ (λ (before : List ℕ) (x : ℕ). not (direct_hits place before x)) (take_at ms (m ∷ []) (length ms) refl) (get_or_at ms m [] 0 (length ms) refl)

    direct-next : direct_misses place (ms ++ (m ∷ [])) ≡ direct_misses place ms + only_if (not (direct_hits place ms m)) 1
    unfolding direct_misses
    direct-next =
        let more : length (ms ++ (m ∷ [])) ≡ length ms + 1 = length-append ms (m ∷ []) in
        ap (count_to (misses place (ms ++ (m ∷ [])))) more
        ∙ count_to-next (misses place (ms ++ (m ∷ []))) (length ms)
        ∙ ap₂ (λ (n : ℕ) (t : Bool). n + only_if t 1) (count_to-cong (misses place (ms ++ (m ∷ []))) (misses place ms) (length ms) earlier) here

  direct-none : direct_misses place [] ≡ 0
  unfolding direct_misses
  direct-none = count_to-none (misses place [])

  misses-from : (before later : List ℕ) → direct_misses place (before ++ later) ≡ direct_misses place before + miss_count place 1 (reverse before) later
  unfolding miss_count
  misses-from before [] = ap (direct_misses place) (append-nil before) ∙ sym (add-zero (direct_misses place before))
  misses-from before (x ∷ later) =
      let rest = misses-from (before ++ (x ∷ [])) later in
      let split : direct_misses place (before ++ (x ∷ later)) ≡ direct_misses place ((before ++ (x ∷ [])) ++ later) = ap (direct_misses place) (sym (append_assoc before (x ∷ []) later)) in
      let turned : miss_count place 1 (reverse (before ++ (x ∷ []))) later ≡ miss_count place 1 (x ∷ reverse before) later =
      ap (λ (p : List ℕ). miss_count place 1 p later) (reverse-append before (x ∷ [])) in
      omega (arith, split, rest, turned, direct-next before x, ap (λ (t : Bool). only_if (not t) 1) (hits-one before x))

  pub misses-one : (ms : List ℕ) → miss_count place 1 [] ms ≡ direct_misses place ms
  misses-one ms = omega (arith, misses-from [] ms, direct-none)

  -- ---- useful blocks

  -- the block last loaded in a set: its next load hits where it is the next one in the set
  next_one : (s m : ℕ) → place m ≡ s → (past later : List ℕ) → first_in place s past ≡ some m
      → next_hits place 1 past later m ≡ same_block (some m) (first_in place s later)
  next_one s m own past [] last = next-none place 1 past m ∙ sym (ap (same_block (some m)) (first-none s))
  next_one s m own past (x ∷ later) last = go (next_one s m own (x ∷ past) later) (ℕ_discrete x m) (ℕ_discrete (place x) s)
    where
      -- the block is not held once another is loaded in its set
      lost : (x ≡ m → ⊥) → place x ≡ s → next_hits place 1 (x ∷ past) later m ≡ true → ⊥
      lost n q e =
          n (eqb-true x m
          (sym (ap (among m) (ap (λ (k : ℕ). held place 1 k (x ∷ past)) own ∙ held_one s (x ∷ past) ∙ ap list_of (first-own s x past q))
          ∙ among_one (some x) m) ∙ next-held place 1 (x ∷ past) later m e))

      go : (first_in place s (x ∷ past) ≡ some m → next_hits place 1 (x ∷ past) later m ≡ same_block (some m) (first_in place s later)) → Dec (x ≡ m) → Dec (place x ≡ s)
          → next_hits place 1 past (x ∷ later) m ≡ same_block (some m) (first_in place s (x ∷ later))
      go next (yes q) d =
          ap (λ (z : ℕ). next_hits place 1 past (z ∷ later) m) q ∙ next-own place 1 past later m
          ∙ hits-first past m ∙ ap (λ (o : Option ℕ). same_block o (some m)) (ap (λ (k : ℕ). first_in place k past) own ∙ last)
          ∙ sym (ap (same_block (some m)) (first-own s x later (ap place q ∙ own) ∙ ap some q))
      go next (no n) (yes q) =
          next-other place 1 past later x m n ∙ never_true (next_hits place 1 (x ∷ past) later m) (lost n q)
          ∙ sym (ap (same_block (some m)) (first-own s x later q) ∙ ne_eqb m x (λ e. n (sym e)))
      go next (no n) (no o) =
          next-other place 1 past later x m n ∙ next (first-other s x past o ∙ last) ∙ sym (ap (same_block (some m)) (first-other s x later o))

  first-place : (s m : ℕ) (past : List ℕ) → first_in place s past ≡ some m → place m ≡ s
  first-place s m [] e = absurd (no-some (sym (first-none s) ∙ e))
    where
      no-some : none ≡ some m → ⊥
      no-some e = false≢true (ap is_some e)
        where
          is_some : Option ℕ → Bool
          is_some none = false
          is_some (some x) = true
  first-place s m (x ∷ past) e = go (first-place s m past) (ℕ_discrete (place x) s)
    where
      go : (first_in place s past ≡ some m → place m ≡ s) → Dec (place x ≡ s) → place m ≡ s
      go next (yes q) = ap place (sym (some_inj (sym (first-own s x past q) ∙ e))) ∙ q
        where
          some_inj : some x ≡ some m → x ≡ m
          some_inj e = ap (value x) e
            where
              value : ℕ → Option ℕ → ℕ
              value d none = d
              value d (some y) = y
      go next (no n) = next (sym (first-other s x past n) ∙ e)

  useful-first-in : (s : ℕ) (past later : List ℕ) → useful_in place 1 past later s ≡ only_if (same_block (first_in place s past) (first_in place s later)) 1
  unfolding useful_in count_in
  useful-first-in s past later = ap (count_in (next_hits place 1 past later)) (held_one s past) ∙ go (first_in place s past) refl
    where
      nothing : (o : Option ℕ) → same_block none o ≡ false
      nothing none = refl
      nothing (some x) = refl

      go : (o : Option ℕ) → first_in place s past ≡ o → count_in (next_hits place 1 past later) (list_of o) ≡ only_if (same_block o (first_in place s later)) 1
      go none e = sym (ap (λ (t : Bool). only_if t 1) (nothing (first_in place s later)))
      go (some m) e = add-zero (only_if (next_hits place 1 past later m) 1) ∙ ap (λ (t : Bool). only_if t 1) (next_one s m (first-place s m past e) past later e)

  -- a set has one useful block where it is useful, and none where not
  pub useful-one : (before later : List ℕ) (s : ℕ) → useful_in place 1 (reverse before) later s ≡ only_if (direct_useful place before later s) 1
  unfolding direct_useful last_in
  useful-one before later s = useful-first-in s (reverse before) later

  -- so as many blocks are useful in the sets that pass a test as sets are useful and pass it
  pub useful-sets-one : (test : ℕ → Bool) (before later : List ℕ) (n : ℕ)
      → sum_where test (useful_in place 1 (reverse before) later) n ≡ count_to (λ s. direct_useful place before later s && test s) n
  unfolding count_to
  useful-sets-one test before later n =
      sum_to-cong _ _ n (λ s h. ap (λ (k : ℕ). only_if (test s) k) (useful-one before later s) ∙ sym (only_if-and (test s) (direct_useful place before later s) 1)
      ∙ ap (λ (t : Bool). only_if t 1) (and_comm (test s) (direct_useful place before later s)))
