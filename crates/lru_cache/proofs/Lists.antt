-- Laws of lists of blocks: what is in them, and what is left of them where one is taken out. A list has each block once, or says so.
-- Assumes nothing.
use Prim.Native.Nat.{ℕ, zero, suc, ◌≤◌, ◌<◌, zero-le, max}
use mathlib.Core.Bool.{Bool, true, false, cond, ◌&&◌, ◌||◌, or-true, false≢true}
use mathlib.Core.List.{List, [], ◌∷◌}
use mathlib.Core.Path.{◌≡◌, refl, sym, ap, subst, ◌∙◌}
use native.Mathlib.Decide.{ℕ_discrete}
use native.Mathlib.Omega.{arith}
use borrow.Author.Tests.{eq-eqb, ne_eqb}
use lib.Dec.{eqb}
use lib.ListN.{length, take}
use Rattle.folds.specs.Folds.{only_if, count_to}
use Rattle.folds.proofs.Folds.{count_to-zero, count_to-but}
use Rattle.folds.proofs.Numbers.{never_true, only_if-bound}
use Rattle.lru_cache.specs.Recency.{among, without, count_in}

-- each block once
abbrev pub Once : List ℕ → Type 0
Once [] = Unit {0}
Once (x ∷ xs) = (among x xs ≡ false) × Once xs

-- ---- a block at the front

pub among-front : (m : ℕ) (xs : List ℕ) → among m (m ∷ xs) ≡ true
unfolding among
among-front m xs = ap (λ (t : Bool). t || among m xs) (eq-eqb m m refl)

pub among-behind : (x m : ℕ) (xs : List ℕ) → (x ≡ m → ⊥) → among m (x ∷ xs) ≡ among m xs
unfolding among
among-behind x m xs n = ap (λ (t : Bool). t || among m xs) (ne_eqb x m n)

pub among_later : (x m : ℕ) (xs : List ℕ) → among m xs ≡ true → among m (x ∷ xs) ≡ true
unfolding among
among_later x m xs e = ap (λ (t : Bool). eqb x m || t) e ∙ or-true (eqb x m)

pub among_none : (m : ℕ) → among m [] ≡ false
unfolding among
among_none m = refl

-- ---- a block taken out

pub without-front : (m : ℕ) (xs : List ℕ) → without m (m ∷ xs) ≡ xs
unfolding without
without-front m xs = ap (λ (t : Bool). cond t xs (m ∷ without m xs)) (eq-eqb m m refl)

pub without-behind : (x m : ℕ) (xs : List ℕ) → (x ≡ m → ⊥) → without m (x ∷ xs) ≡ x ∷ without m xs
unfolding without
without-behind x m xs n = ap (λ (t : Bool). cond t xs (x ∷ without m xs)) (ne_eqb x m n)

pub without-none : (m : ℕ) → without m [] ≡ []
unfolding without
without-none m = refl

-- what is left was there
pub among-without : (m y : ℕ) (xs : List ℕ) → among y (without m xs) ≡ true → among y xs ≡ true
among-without m y [] e = sym (ap (among y) (without-none m)) ∙ e
among-without m y (x ∷ xs) e = go (among-without m y xs) (ℕ_discrete x m) (ℕ_discrete x y)
  where
    go : (among y (without m xs) ≡ true → among y xs ≡ true) → Dec (x ≡ m) → Dec (x ≡ y) → among y (x ∷ xs) ≡ true
    go next d (yes q) = ap (λ (z : ℕ). among y (z ∷ xs)) q ∙ among-front y xs
    go next (yes q) (no n) = among_later x y xs (sym (ap (among y) (ap (λ (z : ℕ). without m (z ∷ xs)) q ∙ without-front m xs)) ∙ e)
    go next (no o) (no n) =
        among_later x y xs (next (sym (ap (among y) (without-behind x m xs o) ∙ among-behind x y (without m xs) n) ∙ e))

pub missing-without : (m y : ℕ) (xs : List ℕ) → among y xs ≡ false → among y (without m xs) ≡ false
missing-without m y xs e = never_true (among y (without m xs)) (λ t. false≢true (sym e ∙ among-without m y xs t))

pub once-without : (m : ℕ) (xs : List ℕ) → Once xs → Once (without m xs)
once-without m [] o = subst Once (sym (without-none m)) o
once-without m (x ∷ xs) o = go (once-without m xs o.1) (ℕ_discrete x m)
  where
    go : Once (without m xs) → Dec (x ≡ m) → Once (without m (x ∷ xs))
    go next (yes q) = subst Once (sym (ap (λ (z : ℕ). without m (z ∷ xs)) q ∙ without-front m xs)) o.1
    go next (no n) = subst Once (sym (without-behind x m xs n)) (missing-without m x xs o.0, next)

-- what is taken out is there no more
pub without-self : (m : ℕ) (xs : List ℕ) → Once xs → among m (without m xs) ≡ false
without-self m [] o = ap (among m) (without-none m) ∙ among_none m
without-self m (x ∷ xs) o = go (without-self m xs o.1) (ℕ_discrete x m)
  where
    go : among m (without m xs) ≡ false → Dec (x ≡ m) → among m (without m (x ∷ xs)) ≡ false
    go next (yes q) = ap (λ (z : ℕ). among m (without m (z ∷ xs))) q ∙ ap (among m) (without-front m xs) ∙ ap (λ (z : ℕ). among z xs) (sym q) ∙ o.0
    go next (no n) = ap (among m) (without-behind x m xs n) ∙ among-behind x m (without m xs) n ∙ next

-- ---- the first k of a list

pub among-take : (k y : ℕ) (xs : List ℕ) → among y (take k xs) ≡ true → among y xs ≡ true
among-take zero y xs e = absurd (false≢true (sym (among_none y) ∙ e))
among-take (suc k) y [] e = e
among-take (suc k) y (x ∷ xs) e = go (among-take k y xs) (ℕ_discrete x y)
  where
    go : (among y (take k xs) ≡ true → among y xs ≡ true) → Dec (x ≡ y) → among y (x ∷ xs) ≡ true
    go next (yes q) = ap (λ (z : ℕ). among y (z ∷ xs)) q ∙ among-front y xs
    go next (no n) = among_later x y xs (next (sym (among-behind x y (take k xs) n) ∙ e))

pub once-take : (k : ℕ) (xs : List ℕ) → Once xs → Once (take k xs)
once-take zero xs o = tt
once-take (suc k) [] o = tt
once-take (suc k) (x ∷ xs) o = (never_true (among x (take k xs)) (λ t. false≢true (sym o.0 ∙ among-take k x xs t)), once-take k xs o.1)

-- what is among the first k once m is out was among the first k + 1
pub among-moved : (k m y : ℕ) (xs : List ℕ) → among y (take k (without m xs)) ≡ true → among y (take (suc k) xs) ≡ true
among-moved zero m y xs e = absurd (false≢true (sym (among_none y) ∙ e))
among-moved (suc k) m y [] e = sym (ap (λ (l : List ℕ). among y (take (suc k) l)) (without-none m)) ∙ e
among-moved (suc k) m y (x ∷ xs) e = go (among-moved k m y xs) (ℕ_discrete x m) (ℕ_discrete x y)
  where
    go : (among y (take k (without m xs)) ≡ true → among y (take (suc k) xs) ≡ true) → Dec (x ≡ m) → Dec (x ≡ y) → among y (x ∷ take (suc k) xs) ≡ true
    go next d (yes q) = ap (λ (z : ℕ). among y (z ∷ take (suc k) xs)) q ∙ among-front y (take (suc k) xs)
    go next (yes q) (no n) =
        among_later x y (take (suc k) xs) (sym (ap (λ (l : List ℕ). among y (take (suc k) l)) (ap (λ (z : ℕ). without m (z ∷ xs)) q ∙ without-front m xs)) ∙ e)
    go next (no o) (no n) =
        among_later x y (take (suc k) xs) (next
        (sym (ap (λ (l : List ℕ). among y (take (suc k) l)) (without-behind x m xs o) ∙ among-behind x y (take k (without m xs)) n) ∙ e))

-- ---- how many pass a test: of a list that has each block once, as many as the numbers in it that pass

pub count_in-bound : (test : ℕ → Bool) (xs : List ℕ) → count_in test xs ≤ length xs
unfolding count_in
count_in-bound test [] = zero-le
count_in-bound test (x ∷ xs) = omega (arith, count_in-bound test xs, only_if-bound (test x) {a = 1} {m = 1} (omega arith))

pub count_in-numbers : (test : ℕ → Bool) (n : ℕ) (xs : List ℕ) → Once xs → ((m : ℕ) → among m xs ≡ true → m < n)
    → count_in test xs ≡ count_to (λ m. among m xs && test m) n
unfolding count_in among
count_in-numbers test n [] o small = sym (count_to-zero (λ m. among m [] && test m) n (λ k h. refl))
count_in-numbers test n (x ∷ xs) o small =
    let rest = count_in-numbers test n xs o.1 (λ m e. small m (among_later x m xs e)) in
    let before : (among x xs && test x) ≡ false = ap (λ (t : Bool). t && test x) o.0 in
    let after : (among x (x ∷ xs) && test x) ≡ test x = ap (λ (t : Bool). t && test x) (among-front x xs) in
    omega (
      arith,
      rest,
      ap (λ (t : Bool). only_if t 1) before,
      ap (λ (t : Bool). only_if t 1) after,
      count_to-but (λ m. among m xs && test m) (λ m. among m (x ∷ xs) && test m) n x (small x (among-front x xs))
          (λ m h ne. ap (λ (t : Bool). t && test m) (sym (among-behind x m xs (λ e. ne (sym e))))),
    )

-- the largest block, and 0 where there is none
abbrev pub largest : List ℕ → ℕ
largest [] = 0
largest (x ∷ xs) = max x (largest xs)

pub among-largest : (m : ℕ) (xs : List ℕ) → among m xs ≡ true → m < suc (largest xs)
among-largest m [] e = absurd (false≢true (sym (among_none m) ∙ e))
among-largest m (x ∷ xs) e = go (among-largest m xs) (ℕ_discrete x m)
  where
    go : (among m xs ≡ true → m < suc (largest xs)) → Dec (x ≡ m) → m < suc (max x (largest xs))
    go next (yes q) = omega arith
    go next (no n) = omega (arith, next (sym (among-behind x m xs n) ∙ e))
