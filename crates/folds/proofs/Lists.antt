-- Laws of one store, and of `tabulate`, `fill_to` and `same_list`.
-- Assumes nothing.
use Prim.Native.Nat.{ℕ, zero, suc, ◌+◌, ◌≤◌, ◌<◌}
use mathlib.Core.Bool.{Bool, true, false, cond}
use mathlib.Core.List.{List, [], ◌∷◌, ◌++◌}
use mathlib.Core.Logic.{⊎_elim}
use mathlib.Core.Path.{◌≡◌, refl, sym, ap, ap₂, subst, ◌∙◌}
use native.Mathlib.Decide.{ℕ_discrete}
use native.Mathlib.Nat.{eq-or-lt_of_le, le_of_suc-le-suc, not-suc-le-zero}
use native.Mathlib.Numerals.{add-one}
use native.Mathlib.Omega.{arith}
use lib.Dec.{eqb}
use lib.ListN.{length, get_or, set, replicate, length-append, length-set, get_or-append}
use lib.Seq.{get_or_at, ext_get_or, get_or-set_same, get_or-set_other}
use borrow.Author.Tests.{eqb-true, eq-eqb}
use Rattle.folds.specs.Folds.{tabulate, fill_to, same_list}
use Rattle.folds.proofs.Numbers.{below_suc, le-or-lt}

-- ---- `set`

-- a list of the default is the default everywhere
pub get_d-none : {A : Type 0} (n k : ℕ) (d : A) → get_or (replicate n d) k d ≡ d
get_d-none zero k d = refl
get_d-none (suc n) zero d = refl
get_d-none (suc n) (suc k) d = get_d-none n k d

-- what holds of the value stored and of every element before holds of every element after
pub get_d-set-all : {A : Type 0} (P : A → Type 0) (xs : List A) (i : ℕ) (v d : A) → i < length xs → P v → ((k : ℕ) → P (get_or xs k d))
    → (k : ℕ) → P (get_or (set xs i v) k d)
get_d-set-all P xs i v d h here all k = go (ℕ_discrete k i)
  where
    go : Dec (k ≡ i) → P (get_or (set xs i v) k d)
    go (yes e) = subst P (sym (ap (λ (j : ℕ). get_or (set xs i v) j d) e ∙ get_or-set_same xs i v d h)) here
    go (no n) = subst P (sym (get_or-set_other xs i k v d n)) (all k)

-- ---- `tabulate`

module _ {A : Type 0} (f : ℕ → A) (d : A) where
  pub length-tabulate : (n : ℕ) → length (tabulate f n) ≡ n
  unfolding tabulate
  length-tabulate zero = refl
  length-tabulate (suc n) = let h : length (tabulate f n) ≡ n = length-tabulate n in simp length-append (omega arith)

  pub get_d_tabulate : (n i : ℕ) → i < n → get_or (tabulate f n) i d ≡ f i
  unfolding tabulate
  get_d_tabulate zero i l = absurd (not-suc-le-zero l)
  get_d_tabulate (suc n) i l =
      below_suc (λ k. get_or (tabulate f n ++ (f n ∷ [])) k d ≡ f k) n
      (λ k h. get_or-append (tabulate f n) _ d k (rw length-tabulate h) ∙ get_d_tabulate n k h)
      (get_or_at (tabulate f n) (f n) [] d n (length-tabulate n))
      i l

pub tabulate-cong : {A : Type 0} (f g : ℕ → A) (n : ℕ) → ((k : ℕ) → k < n → f k ≡ g k) → tabulate f n ≡ tabulate g n
unfolding tabulate
tabulate-cong f g zero same = refl
tabulate-cong f g (suc n) same = rw (tabulate-cong f g n (λ k h. same k (omega arith)), same n (omega arith))

-- ---- `fill_to`

module _ {A : Type 0} (f : ℕ → A) (xs : List A) where
  pub fill_to-none : fill_to f 0 xs ≡ xs
  unfolding fill_to
  fill_to-none = refl

  pub fill_to-next : (n : ℕ) → fill_to f (n + 1) xs ≡ set (fill_to f n xs) n (f n)
  unfolding fill_to
  fill_to-next n = ap (λ (k : ℕ). fill_to f k xs) (add-one n)

  pub length-fill_to : (n : ℕ) → length (fill_to f n xs) ≡ length xs
  unfolding fill_to
  length-fill_to zero = refl
  length-fill_to (suc n) = length-set (fill_to f n xs) n (f n) ∙ length-fill_to n

  pub fill_to-below : (d : A) (n k : ℕ) → k < n → k < length xs → get_or (fill_to f n xs) k d ≡ f k
  unfolding fill_to
  fill_to-below d zero k less within = absurd (not-suc-le-zero less)
  fill_to-below d (suc n) k less within =
      ⊎_elim
      (λ (e : k ≡ n). subst (λ (j : ℕ). get_or (set (fill_to f n xs) n (f n)) j d ≡ f j) (sym e) (get_or-set_same (fill_to f n xs) n (f n) d (subst (λ (m : ℕ). n < m) (sym (length-fill_to n)) (subst (λ (j : ℕ). j < length xs) e within))))
      (λ (lt : k < n). get_or-set_other (fill_to f n xs) n k (f n) d (λ e. omega (arith, lt, e)) ∙ fill_to-below d n k lt within)
      (eq-or-lt_of_le (le_of_suc-le-suc less))

  pub fill_to-from : (d : A) (n k : ℕ) → n ≤ k → get_or (fill_to f n xs) k d ≡ get_or xs k d
  unfolding fill_to
  fill_to-from d zero k le = refl
  fill_to-from d (suc n) k le = get_or-set_other (fill_to f n xs) n k (f n) d (λ e. omega (arith, le, e)) ∙ fill_to-from d n k (omega (arith, le))

  -- a list of that length with f k at each place below n, and the rest as found
  pub fill_to-is : (d : A) (n : ℕ) (l : List A) → length l ≡ length xs → ((k : ℕ) → k < n → k < length xs → get_or l k d ≡ f k)
      → ((k : ℕ) → n ≤ k → get_or l k d ≡ get_or xs k d) → l ≡ fill_to f n xs
  fill_to-is d n l size below from =
      ext_get_or d l (fill_to f n xs) (size ∙ sym (length-fill_to n))
      (λ k h.
      ⊎_elim (λ le. from k le ∙ sym (fill_to-from d n k le)) (λ lt. below k lt (omega arith) ∙ sym (fill_to-below d n k lt (omega arith)))
      (le-or-lt n k))

pub fill_to-cong : {A : Type 0} (f g : ℕ → A) (xs : List A) (n : ℕ) → ((k : ℕ) → k < n → f k ≡ g k) → fill_to f n xs ≡ fill_to g n xs
unfolding fill_to
fill_to-cong f g xs zero all = refl
fill_to-cong f g xs (suc n) all = ap₂ (λ l v. set l n v) (fill_to-cong f g xs n (λ k h. all k (omega arith))) (all n (omega arith))

-- ---- `same_list`

cond-true : (t u : Bool) → cond t u false ≡ true → (t ≡ true) × (u ≡ true)
cond-true true u e = (refl, e)
cond-true false u e = let z : ◌≡◌ {A = ℕ} 0 1 = cc in absurd (omega arith)

pub same_list-true : (xs ys : List ℕ) → same_list xs ys ≡ true → xs ≡ ys
unfolding same_list
same_list-true [] [] e = refl
same_list-true [] (y ∷ ys) e = cc
same_list-true (x ∷ xs) [] e = cc
same_list-true (x ∷ xs) (y ∷ ys) e =
    let both = cond-true (eqb x y) (same_list xs ys) e in
    cc (eqb-true x y both.0, same_list-true xs ys both.1)

pub same_list-refl : (xs : List ℕ) → same_list xs xs ≡ true
unfolding same_list
same_list-refl [] = refl
same_list-refl (x ∷ xs) = simp (eq-eqb x x refl) (same_list-refl xs)

pub same_list-false : (xs ys : List ℕ) → same_list xs ys ≡ false → xs ≡ ys → ⊥
same_list-false xs ys e q = let z : ◌≡◌ {A = ℕ} 0 1 = cc (same_list-refl xs, ap (λ l. same_list xs l) q) in omega arith

pub same_list-differ : (xs ys : List ℕ) → (xs ≡ ys → ⊥) → same_list xs ys ≡ false
same_list-differ xs ys no-path = go (same_list xs ys) refl
  where
    go : (t : Bool) → same_list xs ys ≡ t → t ≡ false
    go true e = absurd (no-path (same_list-true xs ys e))
    go false e = refl
