-- Useful blocks: a block is useful exactly where its next load hits, for it was held ever since its last load. So one load changes the number
-- of useful blocks in its own set alone: one less where it hits, one more where the next load of its block will hit.
-- Assumes nothing.
use Prim.Native.Nat.{ℕ, zero, suc, ◌+◌, ◌≤◌, ◌<◌}
use mathlib.Core.Bool.{Bool, true, false, not, cond, ◌&&◌, and-true, and-false, false≢true}
use mathlib.Core.List.{List, [], ◌∷◌}
use mathlib.Core.Path.{◌≡◌, refl, sym, ap, ◌∙◌}
use native.Mathlib.Decide.{ℕ_discrete}
use native.Mathlib.Omega.{arith}
use borrow.Author.Tests.{eq-eqb, ne_eqb}
use lib.Dec.{eqb}
use lib.ListN.{length, take, length-take}
use Rattle.folds.specs.Folds.{only_if, count_to}
use Rattle.folds.proofs.Numbers.{never_true, only_if-bound}
use Rattle.folds.proofs.Folds.{count_to-cong, count_to-but}
use Rattle.lru_cache.specs.Recency.{among, held, hits, miss_count, next_hits, useful_block, useful_in, count_in, recent}
use Rattle.lru_cache.proofs.Lists.{among_later, among-take, once-take, count_in-bound, count_in-numbers, largest, among-largest}
use Rattle.lru_cache.proofs.Recent.{once-recent, recent-there, held-before}

module _ (place : ℕ → ℕ) (ways : ℕ) where
  -- ---- the next load of a block

  pub next-none : (past : List ℕ) (m : ℕ) → next_hits place ways past [] m ≡ false
  unfolding next_hits
  next-none past m = refl

  pub next-own : (past later : List ℕ) (m : ℕ) → next_hits place ways past (m ∷ later) m ≡ hits place ways past m
  unfolding next_hits
  next-own past later m = ap (λ (t : Bool). cond t (hits place ways past m) (next_hits place ways (m ∷ past) later m)) (eq-eqb m m refl)

  pub next-other : (past later : List ℕ) (x m : ℕ) → (x ≡ m → ⊥) → next_hits place ways past (x ∷ later) m ≡ next_hits place ways (x ∷ past) later m
  unfolding next_hits
  next-other past later x m n = ap (λ (t : Bool). cond t (hits place ways past m) (next_hits place ways (x ∷ past) later m)) (ne_eqb x m n)

  pub hits-is : (past : List ℕ) (m : ℕ) → hits place ways past m ≡ among m (held place ways (place m) past)
  unfolding hits
  hits-is past m = refl

  -- a block whose next load hits is held
  pub next-held : (past later : List ℕ) (m : ℕ) → next_hits place ways past later m ≡ true → among m (held place ways (place m) past) ≡ true
  next-held past [] m e = absurd (false≢true (sym (next-none past m) ∙ e))
  next-held past (x ∷ later) m e = go (next-held (x ∷ past) later m) (ℕ_discrete x m)
    where
      go : (next_hits place ways (x ∷ past) later m ≡ true → among m (held place ways (place m) (x ∷ past)) ≡ true) → Dec (x ≡ m)
          → among m (held place ways (place m) past) ≡ true
      go next (yes q) = sym (hits-is past m) ∙ sym (ap (λ (z : ℕ). next_hits place ways past (z ∷ later) m) q ∙ next-own past later m) ∙ e
      go next (no n) = held-before place ways (place m) x m past n (next (sym (next-other past later x m n) ∙ e))

  -- so it is useful exactly where its next load hits
  pub useful-is : (past later : List ℕ) (m : ℕ) → useful_block place ways past later m ≡ next_hits place ways past later m
  useful-is past later m = go (next_hits place ways past later m) (next-held past later m)
    where
      go : (t : Bool) → (t ≡ true → among m (held place ways (place m) past) ≡ true) → (among m (held place ways (place m) past) && t) ≡ t
      go true f = and-true (among m (held place ways (place m) past)) ∙ f refl
      go false f = and-false (among m (held place ways (place m) past))

  -- ---- the useful blocks of a set are the numbers below any n that exceeds all of them

  module _ (past later : List ℕ) (n : ℕ) (small : (m : ℕ) → among m past ≡ true → m < n) where
    held_small : (s m : ℕ) → among m (held place ways s past) ≡ true → m < n
    held_small s m e = small m (recent-there place s m past (among-take ways m (recent place s past) e)).1

    inside : (s m : ℕ) → (among m (held place ways s past) && next_hits place ways past later m) ≡ (eqb (place m) s && next_hits place ways past later m)
    inside s m = go (next_hits place ways past later m) (next-held past later m) (ℕ_discrete (place m) s)
      where
        go : (t : Bool) → (t ≡ true → among m (held place ways (place m) past) ≡ true) → Dec (place m ≡ s)
            → (among m (held place ways s past) && t) ≡ (eqb (place m) s && t)
        go false f d = and-false (among m (held place ways s past)) ∙ sym (and-false (eqb (place m) s))
        go true f (yes q) =
            ap (λ (u : Bool). u && true) (ap (λ (k : ℕ). among m (held place ways k past)) (sym q) ∙ f refl)
            ∙ sym (ap (λ (u : Bool). u && true) (eq-eqb (place m) s q))
        go true f (no o) =
            ap (λ (u : Bool). u && true)
            (never_true (among m (held place ways s past)) (λ e. o (recent-there place s m past (among-take ways m (recent place s past) e)).0)
            ∙ sym (ne_eqb (place m) s o))

    next-count : (s : ℕ) → useful_in place ways past later s ≡ count_to (λ m. eqb (place m) s && next_hits place ways past later m) n
    unfolding useful_in
    next-count s =
        count_in-numbers (next_hits place ways past later) n (held place ways s past) (once-take ways (recent place s past) (once-recent place s past)) (held_small s)
        ∙ count_to-cong (λ m. among m (held place ways s past) && next_hits place ways past later m) (λ m. eqb (place m) s && next_hits place ways past later m) n (λ m h. inside s m)

    -- as the paper has it: the useful blocks that lie in the set
    pub useful-count : (s : ℕ) → useful_in place ways past later s ≡ count_to (λ m. eqb (place m) s && useful_block place ways past later m) n
    useful-count s =
        next-count s
        ∙ count_to-cong (λ m. eqb (place m) s && next_hits place ways past later m) (λ m. eqb (place m) s && useful_block place ways past later m) n
        (λ m h. ap (λ (t : Bool). eqb (place m) s && t) (sym (useful-is past later m)))

  -- ---- one load

  pub useful-turn : (past later : List ℕ) (x s : ℕ)
      → useful_in place ways (x ∷ past) later s + only_if (eqb (place x) s && hits place ways past x) 1
      ≡ useful_in place ways past (x ∷ later) s + only_if (eqb (place x) s && next_hits place ways (x ∷ past) later x) 1
  useful-turn past later x s =
      let n : ℕ = suc (largest (x ∷ past)) in
      let small : (m : ℕ) → among m (x ∷ past) ≡ true → m < suc (largest (x ∷ past)) = λ m e. among-largest m (x ∷ past) e in
      let before : ℕ → Bool = λ m. eqb (place m) s && next_hits place ways past (x ∷ later) m in
      let after : ℕ → Bool = λ m. eqb (place m) s && next_hits place ways (x ∷ past) later m in
      omega (
        arith,
        next-count past (x ∷ later) n (λ m e. small m (among_later x m past e)) s,
        next-count (x ∷ past) later n small s,
        ap (λ (t : Bool). only_if (eqb (place x) s && t) 1) (next-own past later x),
        count_to-but before after n x (omega arith) (λ m h ne. ap (λ (t : Bool). eqb (place m) s && t) (next-other past later x m (λ e. ne (sym e)))),
      )

  -- nothing is useful before the first load
  pub useful-first : (later : List ℕ) (s : ℕ) → useful_in place ways [] later s ≡ 0
  unfolding useful_in recent count_in
  useful-first later s = go ways
    where
      go : (k : ℕ) → count_in (next_hits place ways [] later) (take k []) ≡ 0
      go zero = refl
      go (suc k) = refl

  -- a set has no more useful blocks than ways
  pub useful-bound : (past later : List ℕ) (s : ℕ) → useful_in place ways past later s ≤ ways
  unfolding useful_in
  useful-bound past later s =
      omega (arith, count_in-bound (next_hits place ways past later) (held place ways s past), length-take ways (recent place s past))

  pub misses-bound : (past later : List ℕ) → miss_count place ways past later ≤ length later
  unfolding miss_count
  misses-bound past [] = omega arith
  misses-bound past (m ∷ later) =
      omega (arith, misses-bound (m ∷ past) later, only_if-bound (not (hits place ways past m)) {a = 1} {m = 1} (omega arith))
