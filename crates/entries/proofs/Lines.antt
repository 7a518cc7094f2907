-- The entries of a set are those of its recency list: where a block stands, and what a load makes of them.
-- Assumes nothing.
use Prim.Native.Nat.{ℕ, zero, suc, ◌+◌, ◌*◌, ◌/◌, ◌%◌, ◌≤◌, ◌<◌}
use mathlib.Core.Bool.{Bool, true, false, cond, ◌||◌}
use mathlib.Core.List.{List, [], ◌∷◌, map}
use mathlib.Core.Path.{◌≡◌, refl, sym, ap, ap₂, subst, ◌∙◌}
use native.Mathlib.Decide.{ℕ_discrete}
use native.Mathlib.Omega.{arith}
use borrow.Author.Tests.{eq-eqb, ne_eqb, le-leb, lt-leb}
use lib.ListN.{length, get_or, set, take, length-set}
use lib.Seq.{get_or-set_same, get_or-set_other}
use Rattle.folds.proofs.Lists.{get_d-set-all}
use Rattle.lru_cache.specs.Recency.{among, without}
use Rattle.entries.specs.Entries.{is_of, is_earlier, found, shifted}
use Rattle.entries.specs.Marks.{Are, Earlier, AllEarlier}
use Rattle.lru_cache.proofs.Lists.{among_none, among-front, among-behind, without-none, without-front, without-behind}

-- ---- words outside the entries stay

module _ (base x : ℕ) where
  pub shifted-length : (v : ℕ) (held : List ℕ) (i n : ℕ) → length (shifted base x v held i n) ≡ length held
  unfolding shifted
  shifted-length v held i zero = refl
  shifted-length v held i (suc n) = go (is_of x (get_or held i 0) || is_earlier base (get_or held i 0)) (shifted-length (get_or held i 0) (set held i v) (suc i) n)
    where
      go : (t : Bool) → length (shifted base x (get_or held i 0) (set held i v) (suc i) n) ≡ length (set held i v)
          → length (cond t (set held i v) (shifted base x (get_or held i 0) (set held i v) (suc i) n)) ≡ length held
      go true next = length-set held i v
      go false next = next ∙ length-set held i v

  pub shifted-outside : (v : ℕ) (held : List ℕ) (i n j : ℕ) → ((k : ℕ) → i ≤ k → k < i + n → j ≡ k → ⊥) → get_or (shifted base x v held i n) j 0 ≡ get_or held j 0
  unfolding shifted
  shifted-outside v held i zero j out = refl
  shifted-outside v held i (suc n) j out =
      go (is_of x (get_or held i 0) || is_earlier base (get_or held i 0)) (shifted-outside (get_or held i 0) (set held i v) (suc i) n j (λ k h l. out k (omega arith) (omega arith)))
    where
      here : get_or (set held i v) j 0 ≡ get_or held j 0
      here = get_or-set_other held i j v 0 (out i (omega arith) (omega arith))

      go : (t : Bool) → get_or (shifted base x (get_or held i 0) (set held i v) (suc i) n) j 0 ≡ get_or (set held i v) j 0
          → get_or (cond t (set held i v) (shifted base x (get_or held i 0) (set held i v) (suc i) n)) j 0 ≡ get_or held j 0
      go true next = here
      go false next = next ∙ here

-- every word is one that was there, or v
pub shifted-all : (P : ℕ → Type 0) (base x v : ℕ) (held : List ℕ) (i n : ℕ) → i + n ≤ length held → P v → ((j : ℕ) → P (get_or held j 0))
    → (j : ℕ) → P (get_or (shifted base x v held i n) j 0)
unfolding shifted
shifted-all P base x v held i zero room new old j = old j
shifted-all P base x v held i (suc n) room new old j =
    go (is_of x (get_or held i 0) || is_earlier base (get_or held i 0)) (shifted-all P base x (get_or held i 0) (set held i v) (suc i) n (omega (arith, length-set held i v)) (old i) stored j)
  where
    stored : (k : ℕ) → P (get_or (set held i v) k 0)
    stored = get_d-set-all P held i v 0 (omega arith) new old

    go : (t : Bool) → P (get_or (shifted base x (get_or held i 0) (set held i v) (suc i) n) j 0)
        → P (get_or (cond t (set held i v) (shifted base x (get_or held i 0) (set held i v) (suc i) n)) j 0)
    go true next = stored j
    go false next = next

-- ---- the words of a list

pub are-same : (base : ℕ) (held held' : List ℕ) (i n : ℕ) (vs : List ℕ) → ((j : ℕ) → i ≤ j → j < i + n → get_or held' j 0 ≡ get_or held j 0) → Are base held i n vs → Are base held' i n vs
are-same base held held' i zero vs same are = tt
are-same base held held' i (suc n) [] same are =
    (subst (Earlier base) (sym (same i (omega arith) (omega arith))) are.0, are-same base held held' (suc i) n [] (λ j h k. same j (omega arith) (omega arith)) are.1)
are-same base held held' i (suc n) (v ∷ vs) same are =
    (same i (omega arith) (omega arith) ∙ are.0, are-same base held held' (suc i) n vs (λ j h k. same j (omega arith) (omega arith)) are.1)

-- before the first position no block is held
pub are-empty : (base : ℕ) (held : List ℕ) (i n : ℕ) → AllEarlier base held → Are base held i n []
are-empty base held i zero all = tt
are-empty base held i (suc n) all = (all i, are-empty base held (suc i) n all)

-- ---- entries `code m` of blocks m, whose positions are below 2048

module _ (base : ℕ) (position : ℕ → ℕ) (m : ℕ) where
  abbrev code : ℕ → ℕ
  code y = (base + suc y) * 2048 + position y

  code_of : (y : ℕ) → position y < 2048 → code y / 2048 ≡ base + suc y
  code_of y h = omega arith

  code-position : (y : ℕ) → position y < 2048 → code y % 2048 ≡ position y
  code-position y h = omega arith

  module _ (small : (y : ℕ) → position y < 2048) where
    -- the test of an entry
    own : (held : List ℕ) (i y : ℕ) → get_or held i 0 ≡ code y → y ≡ m → is_of (base + suc m) (get_or held i 0) ≡ true
    own held i y e q = eq-eqb (get_or held i 0 / 2048) (base + suc m) (ap (λ (z : ℕ). z / 2048) e ∙ code_of y (small y) ∙ ap (λ (z : ℕ). base + suc z) q)

    other : (held : List ℕ) (i y : ℕ) → get_or held i 0 ≡ code y → (y ≡ m → ⊥) → is_of (base + suc m) (get_or held i 0) ≡ false
    other held i y e n =
        ne_eqb (get_or held i 0 / 2048) (base + suc m) (λ q. n (suc-same (sym (ap (λ (z : ℕ). z / 2048) e ∙ code_of y (small y)) ∙ q)))
      where
        suc-same : base + suc y ≡ base + suc m → y ≡ m
        suc-same q = omega arith

    none : (held : List ℕ) (i : ℕ) → Earlier base (get_or held i 0) → is_of (base + suc m) (get_or held i 0) ≡ false
    none held i h = ne_eqb (get_or held i 0 / 2048) (base + suc m) (λ q. let z : get_or held i 0 / 2048 < base + 1 = omega (arith, h) in omega (arith, q, z))

    -- of an earlier trace, and of this one
    old : (held : List ℕ) (i : ℕ) → Earlier base (get_or held i 0) → is_earlier base (get_or held i 0) ≡ true
    old held i h = le-leb (get_or held i 0 / 2048) base (omega (arith, h))

    fresh : (held : List ℕ) (i y : ℕ) → get_or held i 0 ≡ code y → is_earlier base (get_or held i 0) ≡ false
    fresh held i y e = lt-leb (get_or held i 0 / 2048) base (omega (arith, ap (λ (z : ℕ). z / 2048) e ∙ code_of y (small y)))

    pub found-is : (held : List ℕ) (i n : ℕ) (ms : List ℕ) → Are base held i n (map code ms) → found base (base + suc m) held i n ≡ cond (among m (take n ms)) (suc (position m)) 0
    unfolding found
    found-is held i zero ms are = sym (ap (λ (t : Bool). cond t (suc (position m)) 0) (among_none m))
    found-is held i (suc n) [] are =
        ap₂ (λ (t u : Bool). cond t (1 + get_or held i 0 % 2048) (cond u 0 (found base (base + suc m) held (suc i) n))) (none held i are.0) (old held i are.0)
        ∙ sym (ap (λ (t : Bool). cond t (suc (position m)) 0) (among_none m))
    found-is held i (suc n) (y ∷ ms) are = go (found-is held (suc i) n ms are.1) (ℕ_discrete y m)
      where
        by : Bool → Bool → ℕ
        by t u = cond t (1 + get_or held i 0 % 2048) (cond u 0 (found base (base + suc m) held (suc i) n))

        go : found base (base + suc m) held (suc i) n ≡ cond (among m (take n ms)) (suc (position m)) 0 → Dec (y ≡ m)
            → by (is_of (base + suc m) (get_or held i 0)) (is_earlier base (get_or held i 0)) ≡ cond (among m (y ∷ take n ms)) (suc (position m)) 0
        go next (yes q) =
            ap (λ (t : Bool). by t (is_earlier base (get_or held i 0))) (own held i y are.0 q)
            ∙ (let s : 1 + get_or held i 0 % 2048 ≡ suc (position m) = omega (arith, ap (λ (z : ℕ). z % 2048) are.0 ∙ code-position y (small y), ap position q) in s)
            ∙ sym (ap (λ (t : Bool). cond t (suc (position m)) 0) (ap (λ (z : ℕ). among m (z ∷ take n ms)) q ∙ among-front m (take n ms)))
        go next (no o) =
            ap₂ by (other held i y are.0 o) (fresh held i y are.0) ∙ next
            ∙ sym (ap (λ (t : Bool). cond t (suc (position m)) 0) (among-behind y m (take n ms) o))

    front : (held : List ℕ) (i n v w : ℕ) → i < length held → get_or (shifted base (base + suc m) w (set held i v) (suc i) n) i 0 ≡ v
    front held i n v w h = shifted-outside base (base + suc m) w (set held i v) (suc i) n i (λ k h l e. omega arith) ∙ get_or-set_same held i v 0 h

    moved : (held : List ℕ) (i n v : ℕ) (vs : List ℕ) → Are base held (suc i) n vs → Are base (set held i v) (suc i) n vs
    moved held i n v vs are = are-same base held (set held i v) (suc i) n vs (λ j h k. get_or-set_other held i j v 0 (λ e. omega arith)) are

    abbrev stops : ℕ → Bool
    stops entry = is_of (base + suc m) entry || is_earlier base entry

    stop : (held : List ℕ) (i n v : ℕ) → stops (get_or held i 0) ≡ true → shifted base (base + suc m) v held i (suc n) ≡ set held i v
    unfolding shifted
    stop held i n v e = ap (λ (t : Bool). cond t (set held i v) (shifted base (base + suc m) (get_or held i 0) (set held i v) (suc i) n)) e

    go_on : (held : List ℕ) (i n v : ℕ) → stops (get_or held i 0) ≡ false
        → shifted base (base + suc m) v held i (suc n) ≡ shifted base (base + suc m) (get_or held i 0) (set held i v) (suc i) n
    unfolding shifted
    go_on held i n v e = ap (λ (t : Bool). cond t (set held i v) (shifted base (base + suc m) (get_or held i 0) (set held i v) (suc i) n)) e

    -- v comes to the front of what is left without m
    pub shifted-is : (held : List ℕ) (i n v : ℕ) (ms : List ℕ) → i + n ≤ length held → Are base held i n (map code ms)
        → Are base (shifted base (base + suc m) v held i n) i n (v ∷ map code (without m ms))
    shifted-is held i zero v ms room are = tt
    shifted-is held i (suc n) v [] room are =
        subst (λ (h : List ℕ). Are base h i (suc n) (v ∷ map code (without m []))) (sym (stop held i n v (ap₂ ◌||◌ (none held i are.0) (old held i are.0)))) (
          get_or-set_same held i v 0 (omega arith),
          subst (λ (ms : List ℕ). Are base (set held i v) (suc i) n (map code ms)) (sym (without-none m)) (moved held i n v [] are.1),
        )
    shifted-is held i (suc n) v (y ∷ ms) room are =
        go (shifted-is (set held i v) (suc i) n (get_or held i 0) ms (omega (arith, length-set held i v)) (moved held i n v (map code ms) are.1)) (ℕ_discrete y m)
      where
        go : Are base (shifted base (base + suc m) (get_or held i 0) (set held i v) (suc i) n) (suc i) n (get_or held i 0 ∷ map code (without m ms)) → Dec (y ≡ m)
            → Are base (shifted base (base + suc m) v held i (suc n)) i (suc n) (v ∷ map code (without m (y ∷ ms)))
        go next (yes q) =
            subst (λ (h : List ℕ). Are base h i (suc n) (v ∷ map code (without m (y ∷ ms)))) (sym (stop held i n v (ap (λ (t : Bool). t || is_earlier base (get_or held i 0)) (own held i y are.0 q)))) (
              get_or-set_same held i v 0 (omega arith),
              subst (λ (xs : List ℕ). Are base (set held i v) (suc i) n (map code xs)) (sym (ap (λ (z : ℕ). without m (z ∷ ms)) q ∙ without-front m ms))
                  (moved held i n v (map code ms) are.1),
            )
        go next (no o) =
            subst (λ (h : List ℕ). Are base h i (suc n) (v ∷ map code (without m (y ∷ ms)))) (sym (go_on held i n v (ap₂ ◌||◌ (other held i y are.0 o) (fresh held i y are.0)))) (
              front held i n v (get_or held i 0) (omega arith),
              subst (λ (vs : List ℕ). Are base (shifted base (base + suc m) (get_or held i 0) (set held i v) (suc i) n) (suc i) n vs)
                  (ap (λ (f : ℕ). f ∷ map code (without m ms)) are.0 ∙ sym (ap (map code) (without-behind y m ms o))) next,
            )
