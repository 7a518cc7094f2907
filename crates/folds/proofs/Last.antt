-- The last index that passes a test, and a sum over the indices that pass it, which goes from each to the one before it.
-- Assumes nothing.
use Prim.Native.Nat.{ℕ, zero, suc, ◌+◌, ◌-◌, ◌≤◌, ◌<◌}
use mathlib.Core.Bool.{Bool, true, false, cond}
use mathlib.Core.Logic.{⊎_elim}
use mathlib.Core.Path.{◌≡◌, refl, sym, ap, ◌∙◌}
use native.Mathlib.Nat.{eq-or-lt_of_le}
use native.Mathlib.Numerals.{add-one}
use native.Mathlib.Omega.{arith}
use Rattle.folds.specs.Folds.{only_if, sum_to, sum_where, last_to}
use Rattle.folds.proofs.Folds.{sum_to-none, sum_to-next}

module _ (test : ℕ → Bool) where
  pub last_to-none : last_to test 0 ≡ 0
  unfolding last_to
  last_to-none = refl

  -- one more index, which passes, or does not
  pub last_to-here : (k : ℕ) → test k ≡ true → last_to test (k + 1) ≡ k + 1
  unfolding last_to
  last_to-here k e = ap (last_to test) (add-one k) ∙ ap (λ (t : Bool). cond t (suc k) (last_to test k)) e ∙ sym (add-one k)

  pub last_to-other : (k : ℕ) → test k ≡ false → last_to test (k + 1) ≡ last_to test k
  unfolding last_to
  last_to-other k e = ap (last_to test) (add-one k) ∙ ap (λ (t : Bool). cond t (suc k) (last_to test k)) e

  pub last_to-low : (n : ℕ) → last_to test n ≤ n
  unfolding last_to
  last_to-low zero = omega arith
  last_to-low (suc n) = go (test n) (last_to-low n)
    where
      go : (t : Bool) → last_to test n ≤ n → cond t (suc n) (last_to test n) ≤ suc n
      go true h = omega arith
      go false h = omega arith

  -- the index that it names passes
  pub last_to-passes : (n k : ℕ) → last_to test n ≡ k + 1 → test k ≡ true
  unfolding last_to
  last_to-passes zero k e = absurd (omega arith)
  last_to-passes (suc n) k e = go (test n) refl (last_to-passes n k) e
    where
      go : (t : Bool) → test n ≡ t → (last_to test n ≡ k + 1 → test k ≡ true) → cond t (suc n) (last_to test n) ≡ k + 1 → test k ≡ true
      go true p before q = let same : k ≡ n = omega arith in ap test same ∙ p
      go false p before q = before q

  -- none passes from there on
  pub last_to-after : (n k : ℕ) → last_to test n ≤ k → k < n → test k ≡ false
  unfolding last_to
  last_to-after zero k low high = absurd (omega arith)
  last_to-after (suc n) k low high = go (test n) refl (last_to-after n k) low
    where
      go : (t : Bool) → test n ≡ t → (last_to test n ≤ k → k < n → test k ≡ false) → cond t (suc n) (last_to test n) ≤ k → test k ≡ false
      go true p before q = absurd (omega arith)
      go false p before q =
          ⊎_elim (λ (e : k ≡ n). ap test e ∙ p) (λ (less : k < n). before q less) (eq-or-lt_of_le (let h : k ≤ n = omega arith in h))

  pub last_to-sum : (f : ℕ → ℕ) (n : ℕ) → sum_where test f (last_to test n) ≡ sum_where test f n
  unfolding last_to sum_to
  last_to-sum f zero = refl
  last_to-sum f (suc n) = go (test n) refl (last_to-sum f n)
    where
      go : (t : Bool) → test n ≡ t → sum_where test f (last_to test n) ≡ sum_where test f n
          → sum_where test f (cond t (suc n) (last_to test n)) ≡ sum_where test f n + only_if (test n) (f n)
      go true p before = refl
      go false p before = omega (arith, before, ap (λ (t : Bool). only_if t (f n)) p)

  -- ---- a sum that goes from the last index below n that passes to the one before it, and so on up

  module _ (f : ℕ → ℕ) (n : ℕ) where
    -- k is the number of the next index, or 0: what those below k add is still to come
    pub record Traversed (acc k : ℕ) : Type 0 where
      pub low : k ≤ n
      pub passes : (m : ℕ) → k ≡ m + 1 → test m ≡ true
      pub rest : acc + sum_where test f k ≡ sum_where test f n

    pub traversed-start : {k : ℕ} → k ≡ last_to test n → Traversed 0 k
    traversed-start e =
        record {
          low = omega (arith, last_to-low n);
          passes = λ m q. last_to-passes n m (sym e ∙ q);
          rest = omega (arith, ap (sum_where test f) e, last_to-sum f n);
        }

    pub traversed-turn : {acc next k k' : ℕ} → Traversed acc k → 0 < k → next ≡ acc + f (k - 1) → k' ≡ last_to test (k - 1) → Traversed next k'
    traversed-turn {acc} {next} {k} {k'} so_far some new up =
        let whole : k ≡ k - 1 + 1 = omega arith in
        record {
          low = omega (arith, so_far.low, last_to-low (k - 1));
          passes = λ m q. last_to-passes (k - 1) m (sym up ∙ q);
          rest = omega (
            arith,
            so_far.rest,
            ap (sum_where test f) whole,
            sum_to-next (λ m. only_if (test m) (f m)) (k - 1),
            ap (λ (t : Bool). only_if t (f (k - 1))) (so_far.passes (k - 1) whole),
            ap (sum_where test f) up,
            last_to-sum f (k - 1),
          );
        }

    -- none is still to come
    pub traversed-end : {acc k : ℕ} → Traversed acc k → k ≤ 0 → acc ≡ sum_where test f n
    traversed-end {acc} {k} h none =
        let zero : k ≡ 0 = omega arith in
        omega (arith, h.rest, ap (sum_where test f) zero, sum_to-none (λ m. only_if (test m) (f m)))
