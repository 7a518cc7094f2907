-- Laws of `join_to`. The length and the elements of lists joined are for boards made up from a header and a seed (request 14).
-- Assumes nothing.
use Prim.Native.Nat.{ℕ, zero, suc, ◌+◌, ◌-◌, ◌≤◌, ◌<◌}
use mathlib.Core.List.{List, [], ◌++◌}
use mathlib.Core.Logic.{⊎_elim}
use mathlib.Core.Path.{◌≡◌, refl, sym, ap, subst, ◌∙◌}
use native.Mathlib.Nat.{not-suc-le-zero}
use native.Mathlib.Numerals.{add-one}
use native.Mathlib.Omega.{arith}
use lib.ListN.{length, get_or, length-append, get_or-append}
use lib.Seq.{get_or-append-add}
use Rattle.folds.specs.Folds.{sum_to, join_to}
use Rattle.folds.proofs.Folds.{sum_to-below}
use Rattle.folds.proofs.Numbers.{le-or-lt, below_suc}

module _ {A : Type 0} (f : ℕ → List A) where
  pub join_to-none : join_to f 0 ≡ []
  unfolding join_to
  join_to-none = refl

  pub join_to-next : (n : ℕ) → join_to f (n + 1) ≡ join_to f n ++ f n
  unfolding join_to
  join_to-next n = ap (join_to f) (add-one n)

-- element p of the second of two lists
pub get_d-second : {A : Type 0} (d : A) (xs ys : List A) (n p : ℕ) → length xs ≡ n → get_or (xs ++ ys) (n + p) d ≡ get_or ys p d
get_d-second d xs ys n p e = ap (λ (m : ℕ). get_or (xs ++ ys) (m + p) d) (sym e) ∙ get_or-append-add xs ys p d

module _ {A : Type 0} (d : A) (f : ℕ → List A) where
  pub length-join_to : (n : ℕ) → length (join_to f n) ≡ sum_to (λ i. length (f i)) n
  unfolding join_to sum_to
  length-join_to zero = refl
  length-join_to (suc n) = length-append (join_to f n) (f n) ∙ ap (λ (m : ℕ). m + length (f n)) (length-join_to n)

  -- element p of list i
  pub get_d-join_to : (n i p : ℕ) → i < n → p < length (f i) → get_or (join_to f n) (sum_to (λ k. length (f k)) i + p) d ≡ get_or (f i) p d
  unfolding join_to
  get_d-join_to zero i p l h = absurd (not-suc-le-zero l)
  get_d-join_to (suc n) i p l h =
      below_suc (λ j. p < length (f j) → get_or (join_to f n ++ f n) (sum_to (λ k. length (f k)) j + p) d ≡ get_or (f j) p d) n
      (λ j u g.
      get_or-append (join_to f n) (f n) d _ (inside j u g) ∙ get_d-join_to n j p u g)
      (λ g. get_d-second d (join_to f n) (f n) _ p (length-join_to n))
      i l h
    where
      inside : (j : ℕ) → j < n → p < length (f j) → sum_to (λ k. length (f k)) j + p < length (join_to f n)
      inside j u g = omega (arith, length-join_to n, sum_to-below (λ k. length (f k)) j n u)

  -- what holds of every element of every list holds of every element
  pub join_to-all : (P : A → Type 0) (n : ℕ) → ((i p : ℕ) → i < n → p < length (f i) → P (get_or (f i) p d))
      → (p : ℕ) → p < length (join_to f n) → P (get_or (join_to f n) p d)
  unfolding join_to
  join_to-all P zero all p h = absurd (not-suc-le-zero h)
  join_to-all P (suc n) all p h =
      ⊎_elim
      (λ (late : length (join_to f n) ≤ p).
      let size : length (join_to f n ++ f n) ≡ length (join_to f n) + length (f n) = length-append (join_to f n) (f n) in
      let there : length (join_to f n) + (p - length (join_to f n)) ≡ p = omega arith in
      subst P (sym (ap (λ (q : ℕ). get_or (join_to f n ++ f n) q d) (sym there) ∙ get_or-append-add (join_to f n) (f n) (p - length (join_to f n)) d))
      (all n (p - length (join_to f n)) (omega arith) (omega arith)))
      (λ (early : p < length (join_to f n)).
      subst P (sym (get_or-append (join_to f n) (f n) d p early)) (join_to-all P n (λ i q u g. all i q (omega arith) g) p early))
      (le-or-lt (length (join_to f n)) p)
