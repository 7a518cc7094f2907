-- What one turn of a loop does to a fold, a search or a filled list: the loop's invariant is an equation `acc ≡ fold f k`.
-- Assumes nothing.
use Prim.Native.Nat.{ℕ, suc, ◌+◌, ◌-◌, ◌^◌, ◌≤◌, ◌<◌, max}
use mathlib.Core.Bool.{Bool, true, false, ◌||◌}
use mathlib.Core.List.{List}
use mathlib.Core.Path.{◌≡◌, sym, ap, ap₂, ◌∙◌}
use native.Mathlib.Nat.{le_trans, le_of_eq, le_antisymm, lt_of_le_of_lt, sub-eq-zero_of_le}
use native.Mathlib.Numerals.{add-one, add-one-le}
use native.Mathlib.Omega.{arith}
use mir.Syntax.{w64}
use mir.Val.{Fits}
use lib.ListN.{set}
use Rattle.folds.specs.Folds.{sum_to, max_to, any_to, first_from, fill_to}
use Rattle.folds.proofs.Folds.{sum_to-next, sum_to-prefix, max_to-next, any_to-next}
use Rattle.folds.proofs.Lists.{fill_to-next}

-- ---- the end of a loop that counts k up to n

pub at-end : {A : Type 0} (F : ℕ → A) {acc : A} {k n : ℕ} → acc ≡ F k → k ≤ n → n ≤ k → acc ≡ F n
at-end F e p q = e ∙ ap F (le_antisymm p q)

-- ---- folds

pub sum_to-turn : (f : ℕ → ℕ) (k : ℕ) {acc x : ℕ} → acc ≡ sum_to f k → x ≡ f k → acc + x ≡ sum_to f (k + 1)
sum_to-turn f k e h = ap₂ ◌+◌ e h ∙ sym (sum_to-next f k)

-- a part of a sum fits where the whole sum does
pub sum_to-fits : (f : ℕ → ℕ) (k n : ℕ) {acc x : ℕ} → acc ≡ sum_to f k → x ≡ f k → k < n → sum_to f n < 2 ^ 64 → Fits w64 (acc + x)
sum_to-fits f k n e h l cap =
    record { fits = lt_of_le_of_lt (le_trans (le_of_eq (sum_to-turn f k e h)) (sum_to-prefix f (k + 1) n (add-one-le l))) cap }

pub max_to-turn : (f : ℕ → ℕ) (k : ℕ) {acc x : ℕ} → acc ≡ max_to f k → x ≡ f k → max acc x ≡ max_to f (k + 1)
max_to-turn f k e h = ap₂ max e h ∙ sym (max_to-next f k)

pub any_to-turn : (test : ℕ → Bool) (k : ℕ) {acc x : Bool} → acc ≡ any_to test k → x ≡ test k → (acc || x) ≡ any_to test (k + 1)
any_to-turn test k e h = ap₂ ◌||◌ e h ∙ sym (any_to-next test k)

-- ---- a search of i .. end - 1, upwards

module _ (test : ℕ → Bool) (i end : ℕ) where
  step : i < end → first_from test (end - i) i ≡ elim (test i) as (λ _. ℕ) [ true ↦ i | false ↦ first_from test (end - (i + 1)) (i + 1) ]
  unfolding first_from
  step l =
      let left : end - i ≡ suc (end - (i + 1)) = omega arith in
      ap (λ (k : ℕ). first_from test k i) left
      ∙ ap (λ (j : ℕ). elim (test i) as (λ _. ℕ) [ true ↦ i | false ↦ first_from test (end - (i + 1)) j ]) (sym (add-one i))

  pub first_from-pass : i < end → test i ≡ false → first_from test (end - (i + 1)) (i + 1) ≡ first_from test (end - i) i
  first_from-pass l e =
      sym (step l ∙ ap (λ (t : Bool). elim t as (λ _. ℕ) [ true ↦ i | false ↦ first_from test (end - (i + 1)) (i + 1) ]) e)

  pub first_from-stop : i < end → test i ≡ true → i ≡ first_from test (end - i) i
  first_from-stop l e =
      sym (step l ∙ ap (λ (t : Bool). elim t as (λ _. ℕ) [ true ↦ i | false ↦ first_from test (end - (i + 1)) (i + 1) ]) e)

  pub first_from-end : end ≤ i → i ≡ first_from test (end - i) i
  unfolding first_from
  first_from-end h = ap (λ (k : ℕ). first_from test k i) (sym (sub-eq-zero_of_le h))

-- ---- a list that is filled upwards

pub fill_to-turn : {A : Type 0} (f : ℕ → A) (xs : List A) (k : ℕ) {l : List A} {v : A} → l ≡ fill_to f k xs → v ≡ f k → set l k v ≡ fill_to f (k + 1) xs
fill_to-turn f xs k e h = ap₂ (λ l v. set l k v) e h ∙ sym (fill_to-next f xs k)
