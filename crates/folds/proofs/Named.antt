-- A list of n different numbers below n has each of them: the numbers are counted by their values, where none counts twice.
-- Assumes nothing.
use Prim.Native.Nat.{ℕ, zero, suc, ◌+◌, ◌≤◌, ◌<◌}
use mathlib.Core.Bool.{Bool, true, false}
use mathlib.Core.Logic.{⊎_elim}
use mathlib.Core.Path.{◌≡◌, refl, sym, ap, ◌∙◌}
use native.Mathlib.Nat.{mul-one}
use native.Mathlib.Omega.{arith}
use lib.Dec.{eqb}
use borrow.Author.Tests.{eqb-true, eq-eqb}
use Rattle.folds.specs.Folds.{only_if, sum_to, count_to}
use Rattle.folds.proofs.Folds.{sum_to-bound, sum_to-below, sum_to-tight, sum_to-swap, sum_to-least, none_or_some, count_to-none, count_to-next, count_to-zero}

module _ (f : ℕ → ℕ) (n : ℕ) (within : (k : ℕ) → k < n → f k < n) (differ : (j k : ℕ) → j < k → k < n → f j ≡ f k → ⊥) where
  -- the places of the value i
  abbrev hit : ℕ → ℕ → ℕ
  hit i k = only_if (eqb (f k) i) 1

  -- at most one
  once : (i m : ℕ) → m ≤ n → count_to (λ k. eqb (f k) i) m ≤ 1
  once i zero h = omega (arith, count_to-none (λ k. eqb (f k) i))
  once i (suc m) h = go (once i m (omega arith)) (eqb (f m) i) refl
    where
      next : count_to (λ k. eqb (f k) i) (suc m) ≡ count_to (λ k. eqb (f k) i) m + only_if (eqb (f m) i) 1
      next = ap (count_to (λ k. eqb (f k) i)) (omega arith) ∙ count_to-next (λ k. eqb (f k) i) m

      go : count_to (λ k. eqb (f k) i) m ≤ 1 → (t : Bool) → eqb (f m) i ≡ t → count_to (λ k. eqb (f k) i) (suc m) ≤ 1
      go before true e =
          let none : count_to (λ k. eqb (f k) i) m ≡ 0 = count_to-zero (λ k. eqb (f k) i) m (λ j l. other j l (eqb (f j) i) refl) in
          omega (arith, next, ap (λ (t : Bool). only_if t 1) e)
        where
          other : (j : ℕ) → j < m → (t : Bool) → eqb (f j) i ≡ t → t ≡ false
          other j l true q = absurd (differ j m l (omega arith) (eqb-true (f j) i q ∙ sym (eqb-true (f m) i e)))
          other j l false q = refl
      go before false e = omega (arith, next, before, ap (λ (t : Bool). only_if t 1) e)

  -- each place counts for a value
  some : (k : ℕ) → k < n → 1 ≤ sum_to (λ i. hit i k) n
  some k h =
      let here : hit (f k) k ≡ 1 = ap (λ (t : Bool). only_if t 1) (eq-eqb (f k) (f k) refl) in
      omega (arith, sum_to-below (λ i. hit i k) (f k) n (within k h))

  pub all_named : (i : ℕ) → i < n → (k : ℕ) × (k < n) × (f k ≡ i)
  unfolding count_to
  all_named i l = ⊎_elim (λ none. absurd (clash none)) (λ found. (found.0, found.1, eqb-true (f found.0) i found.2)) (none_or_some (λ k. eqb (f k) i) n)
    where
      counts : ℕ → ℕ
      counts v = count_to (λ k. eqb (f k) v) n

      total : n ≤ sum_to counts n
      total = rw (sum_to-swap hit n n) (sum_to-least (λ k. sum_to (λ v. hit v k) n) n some)

      one : counts i ≡ 1
      one = sum_to-tight counts (λ v. 1) n (λ v h. once v n (omega arith)) (omega (arith, total, mul-one n, sum_to-bound (λ v. 1) n 1 (λ v h. omega arith))) i l

      clash : ((k : ℕ) → k < n → eqb (f k) i ≡ false) → ⊥
      clash none = omega (arith, one, count_to-zero (λ k. eqb (f k) i) n none)
