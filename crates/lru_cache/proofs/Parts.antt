-- Sets in which blocks of one kind alone lie are a cache of their own: what they hold, which loads hit, and what is useful in them is as if only those
-- blocks were loaded.
-- Assumes nothing.
use Prim.Native.Nat.{ℕ, ◌+◌}
use mathlib.Core.Bool.{Bool, true, false, not, cond, ◌||◌, false≢true}
use mathlib.Core.List.{List, [], ◌∷◌}
use mathlib.Core.Path.{◌≡◌, refl, sym, ap, ap₂, ◌∙◌}
use native.Mathlib.Decide.{ℕ_discrete}
use native.Mathlib.Omega.{arith}
use borrow.Author.Tests.{eq-eqb, ne_eqb}
use lib.Dec.{eqb}
use lib.ListN.{take}
use Rattle.folds.specs.Folds.{only_if}
use Rattle.lru_cache.specs.Recency.{among, without, some_in, recent, held, hits, miss_count, next_hits, useful_in, count_in}
use Rattle.lru_cache.specs.Parts.{passing}
use Rattle.lru_cache.proofs.Lists.{among_none, among-front, among_later, among-behind, among-take}
use Rattle.lru_cache.proofs.Recent.{recent-none, recent-own, recent-other, recent-there}
use Rattle.lru_cache.proofs.Useful.{next-none, next-own, next-other, hits-is}

-- ---- the list

module _ (own : ℕ → Bool) where
  passing-none : passing own [] ≡ []
  unfolding passing
  passing-none = refl

  passing-own : (m : ℕ) (ms : List ℕ) → own m ≡ true → passing own (m ∷ ms) ≡ m ∷ passing own ms
  unfolding passing
  passing-own m ms e = ap (λ (t : Bool). cond t (m ∷ passing own ms) (passing own ms)) e

  passing-other : (m : ℕ) (ms : List ℕ) → own m ≡ false → passing own (m ∷ ms) ≡ passing own ms
  unfolding passing
  passing-other m ms e = ap (λ (t : Bool). cond t (m ∷ passing own ms) (passing own ms)) e

  among-passing : (m : ℕ) (ms : List ℕ) → among m (passing own ms) ≡ true → own m ≡ true
  among-passing m [] e = absurd (false≢true (sym (ap (among m) passing-none ∙ among_none m) ∙ e))
  among-passing m (x ∷ ms) e = go (among-passing m ms) (own x) refl (ℕ_discrete x m)
    where
      go : (among m (passing own ms) ≡ true → own m ≡ true) → (t : Bool) → own x ≡ t → Dec (x ≡ m) → own m ≡ true
      go next true q (yes r) = ap own (sym r) ∙ q
      go next true q (no o) = next (sym (ap (among m) (passing-own x ms q) ∙ among-behind x m (passing own ms) o) ∙ e)
      go next false q d = next (sym (ap (among m) (passing-other x ms q)) ∙ e)

-- two tests that agree on every block of a list
count_in-same : (f g : ℕ → Bool) (ms : List ℕ) → ((m : ℕ) → among m ms ≡ true → f m ≡ g m) → count_in f ms ≡ count_in g ms
unfolding count_in
count_in-same f g [] same = refl
count_in-same f g (x ∷ ms) same =
    ap₂ (λ (t : Bool) (k : ℕ). only_if t 1 + k) (same x (among-front x ms)) (count_in-same f g ms (λ m e. same m (among_later x m ms e)))

-- ---- the sets of a cache are those from `first` on, in which its own blocks lie, and no other

module _ (place inner : ℕ → ℕ) (own : ℕ → Bool) (first ways : ℕ) (inside : (m : ℕ) → own m ≡ true → place m ≡ first + inner m) where
  -- no other block lies in set s of it
  abbrev pub Apart : ℕ → Type 0
  Apart s = (m : ℕ) → own m ≡ false → place m ≡ first + s → ⊥

  abbrev part : List ℕ → List ℕ
  part = passing own

  recent-part : (s : ℕ) → Apart s → (past : List ℕ) → recent place (first + s) past ≡ recent inner s (part past)
  recent-part s apart [] = recent-none place (first + s) ∙ sym (ap (recent inner s) (passing-none own) ∙ recent-none inner s)
  recent-part s apart (m ∷ past) = go (recent-part s apart past) (own m) refl (ℕ_discrete (inner m) s)
    where
      go : recent place (first + s) past ≡ recent inner s (part past) → (t : Bool) → own m ≡ t → Dec (inner m ≡ s)
          → recent place (first + s) (m ∷ past) ≡ recent inner s (part (m ∷ past))
      go next true q (yes e) =
          recent-own place (first + s) m past (inside m q ∙ ap (λ (k : ℕ). first + k) e) ∙ ap (λ (ms : List ℕ). m ∷ without m ms) next
          ∙ sym (ap (recent inner s) (passing-own own m past q) ∙ recent-own inner s m (part past) e)
      go next true q (no n) =
          recent-other place (first + s) m past (λ e. n (let z : first + inner m ≡ first + s = sym (inside m q) ∙ e in omega (arith, z))) ∙ next
          ∙ sym (ap (recent inner s) (passing-own own m past q) ∙ recent-other inner s m (part past) n)
      go next false q d = recent-other place (first + s) m past (apart m q) ∙ next ∙ sym (ap (recent inner s) (passing-other own m past q))

  pub some_in-part : (s : ℕ) → Apart s → (ms : List ℕ) → some_in place (first + s) ms ≡ some_in inner s (part ms)
  unfolding some_in
  some_in-part s apart [] = sym (ap (some_in inner s) (passing-none own))
  some_in-part s apart (m ∷ ms) = go (some_in-part s apart ms) (own m) refl
    where
      here : own m ≡ true → Dec (inner m ≡ s) → eqb (place m) (first + s) ≡ eqb (inner m) s
      here q (yes e) = eq-eqb (place m) (first + s) (inside m q ∙ ap (λ (k : ℕ). first + k) e) ∙ sym (eq-eqb (inner m) s e)
      here q (no n) =
          ne_eqb (place m) (first + s) (λ e. n (let z : first + inner m ≡ first + s = sym (inside m q) ∙ e in omega (arith, z))) ∙ sym (ne_eqb (inner m) s n)

      go : some_in place (first + s) ms ≡ some_in inner s (part ms) → (t : Bool) → own m ≡ t
          → (eqb (place m) (first + s) || some_in place (first + s) ms) ≡ some_in inner s (part (m ∷ ms))
      go next true q =
          ap₂ (λ (t u : Bool). t || u) (here q (ℕ_discrete (inner m) s)) next ∙ sym (ap (some_in inner s) (passing-own own m ms q))
      go next false q =
          ap₂ (λ (t u : Bool). t || u) (ne_eqb (place m) (first + s) (apart m q)) next ∙ sym (ap (some_in inner s) (passing-other own m ms q))

  -- ---- hits, and what is useful

  module _ (All-apart : (m : ℕ) → own m ≡ true → Apart (inner m)) where
    pub hits-part : (past : List ℕ) (m : ℕ) → own m ≡ true → hits place ways past m ≡ hits inner ways (part past) m
    hits-part past m q =
        hits-is place ways past m
        ∙ ap (λ (ms : List ℕ). among m (take ways ms)) (ap (λ (k : ℕ). recent place k past) (inside m q) ∙ recent-part (inner m) (All-apart m q) past)
        ∙ sym (hits-is inner ways (part past) m)

    next-part : (past later : List ℕ) (m : ℕ) → own m ≡ true → next_hits place ways past later m ≡ next_hits inner ways (part past) (part later) m
    next-part past [] m q =
        next-none place ways past m ∙ sym (ap (λ (ms : List ℕ). next_hits inner ways (part past) ms m) (passing-none own) ∙ next-none inner ways (part past) m)
    next-part past (x ∷ later) m q = go (next-part (x ∷ past) later m q) (own x) refl (ℕ_discrete x m)
      where
        Goal : Type 0
        Goal = next_hits place ways past (x ∷ later) m ≡ next_hits inner ways (part past) (part (x ∷ later)) m

        go : next_hits place ways (x ∷ past) later m ≡ next_hits inner ways (part (x ∷ past)) (part later) m → (t : Bool) → own x ≡ t → Dec (x ≡ m) → Goal
        go rest true r (yes e) =
            ap (λ (z : ℕ). next_hits place ways past (z ∷ later) m) e ∙ next-own place ways past later m ∙ hits-part past m q
            ∙ sym (ap (λ (ms : List ℕ). next_hits inner ways (part past) ms m) (passing-own own x later r ∙ ap (λ (z : ℕ). z ∷ part later) e)
            ∙ next-own inner ways (part past) (part later) m)
        go rest true r (no n) =
            next-other place ways past later x m n ∙ rest ∙ ap (λ (ms : List ℕ). next_hits inner ways ms (part later) m) (passing-own own x past r)
            ∙ sym (ap (λ (ms : List ℕ). next_hits inner ways (part past) ms m) (passing-own own x later r) ∙ next-other inner ways (part past) (part later) x m n)
        go rest false r d =
            next-other place ways past later x m (λ e. false≢true (sym r ∙ ap own e ∙ q)) ∙ rest
            ∙ ap₂ (λ (ms ms' : List ℕ). next_hits inner ways ms ms' m) (passing-other own x past r) (sym (passing-other own x later r))

    pub useful-part : (s : ℕ) → Apart s → (past later : List ℕ) → useful_in place ways past later (first + s) ≡ useful_in inner ways (part past) (part later) s
    unfolding useful_in
    useful-part s apart past later =
        ap (λ (ms : List ℕ). count_in (next_hits place ways past later) (take ways ms)) (recent-part s apart past)
        ∙ count_in-same (next_hits place ways past later) (next_hits inner ways (part past) (part later)) (held inner ways s (part past))
        (λ m e. next-part past later m (among-passing own m past (recent-there inner s m (part past) (among-take ways m (recent inner s (part past)) e)).1))

-- ---- two caches: each load misses in the cache of its own block

module _ (place inner inner' : ℕ → ℕ) (own : ℕ → Bool) (first first' ways : ℕ) where
  abbrev other : ℕ → Bool
  other m = not (own m)

  module _ (inside : (m : ℕ) → own m ≡ true → place m ≡ first + inner m) (inside' : (m : ℕ) → other m ≡ true → place m ≡ first' + inner' m)
      (apart : (m : ℕ) → own m ≡ true → Apart place inner own first ways inside (inner m))
      (apart' : (m : ℕ) → other m ≡ true → Apart place inner' other first' ways inside' (inner' m)) where
    pub misses-parts : (past later : List ℕ)
        → miss_count place ways past later
        ≡ miss_count inner ways (passing own past) (passing own later) + miss_count inner' ways (passing other past) (passing other later)
    unfolding miss_count
    misses-parts past [] = sym (ap₂ (λ (ms ms' : List ℕ). miss_count inner ways (passing own past) ms + miss_count inner' ways (passing other past) ms') (passing-none own) (passing-none other))
    misses-parts past (x ∷ later) = go (misses-parts (x ∷ past) later) (own x) refl
      where
        mine : List ℕ → List ℕ
        mine = passing own

        rest : List ℕ → List ℕ
        rest = passing other

        go : miss_count place ways (x ∷ past) later ≡ miss_count inner ways (mine (x ∷ past)) (mine later) + miss_count inner' ways (rest (x ∷ past)) (rest later)
            → (t : Bool) → own x ≡ t
            → only_if (not (hits place ways past x)) 1 + miss_count place ways (x ∷ past) later
            ≡ miss_count inner ways (mine past) (mine (x ∷ later)) + miss_count inner' ways (rest past) (rest (x ∷ later))
        go next true q =
            omega (
              arith,
              next,
              ap (λ (t : Bool). only_if (not t) 1) (hits-part place inner own first ways inside apart past x q),
              ap (λ (ms : List ℕ). miss_count inner ways ms (mine later)) (passing-own own x past q),
              ap (λ (ms : List ℕ). miss_count inner ways (mine past) ms) (passing-own own x later q),
              ap (λ (ms : List ℕ). miss_count inner' ways ms (rest later)) (passing-other other x past (ap not q)),
              ap (λ (ms : List ℕ). miss_count inner' ways (rest past) ms) (passing-other other x later (ap not q)),
            )
        go next false q =
            omega (
              arith,
              next,
              ap (λ (t : Bool). only_if (not t) 1) (hits-part place inner' other first' ways inside' apart' past x (ap not q)),
              ap (λ (ms : List ℕ). miss_count inner ways ms (mine later)) (passing-other own x past q),
              ap (λ (ms : List ℕ). miss_count inner ways (mine past) ms) (passing-other own x later q),
              ap (λ (ms : List ℕ). miss_count inner' ways ms (rest later)) (passing-own other x past (ap not q)),
              ap (λ (ms : List ℕ). miss_count inner' ways (rest past) ms) (passing-own other x later (ap not q)),
            )
