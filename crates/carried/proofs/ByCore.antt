-- The accesses of the cores from one core up to another, joined to the definitions.
-- Assumes nothing.
use Prim.Native.Nat.{ℕ, ◌+◌, ◌-◌, ◌≤◌}
use mathlib.Core.Bool.{Bool}
use mathlib.Core.List.{List}
use mathlib.Core.Path.{◌≡◌, sym, ap, ap₂, ◌∙◌}
use native.Mathlib.Numerals.{add-one}
use native.Mathlib.Omega.{arith}
use lib.Dec.{ltb, leb}
use borrow.Author.Tests.{lt-ltb, le-ltb, le-leb, lt-leb}
use Rattle.folds.specs.Folds.{only_if, sum_to}
use Rattle.folds.proofs.Folds.{sum_to-next, sum_to-cong, sum_to-prefix, sum_to-zero, sum_to-split}
use Rattle.board.specs.Layout.{cores}
use Rattle.sums.specs.Sums.{is_before, is_after, over_cores, core_accesses}
use Rattle.carried.specs.Terms.{cores_from}

module _ (b R : List ℕ) (t j : ℕ) where
  abbrev A : ℕ → ℕ
  A y = core_accesses b R t j y

  -- ---- a run of cores from `first` on: none yet, and one more, which is core y

  module _ (first : ℕ) where
    pub cores_from-none : cores_from b R t j first (first - 1) ≡ 0
    unfolding cores_from
    cores_from-none =
        sum_to-zero (λ y. only_if (leb first (y + 1)) (A (y + 1))) (first - 1)
        (λ y h. ap (λ (here : Bool). only_if here (A (y + 1))) (lt-leb first (y + 1) (omega arith)))

    pub cores_from-next : (y : ℕ) → 1 ≤ y → first ≤ y → cores_from b R t j first (y - 1) + A y ≡ cores_from b R t j first y
    unfolding cores_from
    cores_from-next y some h =
        let whole : y - 1 + 1 ≡ y = omega arith in
        let term : ℕ → ℕ = λ y. only_if (leb first (y + 1)) (A (y + 1)) in
        ap₂ (λ (z : ℕ) (here : Bool). sum_to term (y - 1) + only_if here (A z)) (sym whole) (sym (le-leb first (y - 1 + 1) (omega arith)))
        ∙ sym (sum_to-next term (y - 1))
        ∙ ap (sum_to term) whole

    pub cores_from-prefix : (m n : ℕ) → m ≤ n → cores_from b R t j first m ≤ cores_from b R t j first n
    unfolding cores_from
    cores_from-prefix m n h = sum_to-prefix (λ y. only_if (leb first (y + 1)) (A (y + 1))) m n h

  -- ---- the cores before core x, and those after it

  pub cores_before-from : (x : ℕ) → 1 ≤ x → x ≤ cores b → over_cores b (is_before x) A ≡ cores_from b R t j 1 (x - 1)
  unfolding cores_from
  cores_before-from x some low =
      let whole : cores b ≡ x - 1 + (cores b - (x - 1)) = omega arith in
      let before : ℕ → ℕ = λ y. only_if (ltb (y + 1) x) (A (y + 1)) in
      omega (
        arith,
        ap (sum_to before) whole,
        sum_to-split before (x - 1) (cores b - (x - 1)),
        sum_to-cong before (λ y. only_if (leb 1 (y + 1)) (A (y + 1))) (x - 1)
            (λ y h. ap (λ (here : Bool). only_if here (A (y + 1))) (lt-ltb (y + 1) x (omega arith) ∙ sym (le-leb 1 (y + 1) (omega arith)))),
        sum_to-zero (λ y. before (x - 1 + y)) (cores b - (x - 1))
            (λ y h. ap (λ (here : Bool). only_if here (A (x - 1 + y + 1))) (le-ltb (x - 1 + y + 1) x (omega arith))),
      )

  pub cores_after-from : (x : ℕ) → over_cores b (is_after x) A ≡ cores_from b R t j (x + 1) (cores b)
  unfolding cores_from
  cores_after-from x = ap (λ (first : ℕ). sum_to (λ y. only_if (leb first (y + 1)) (A (y + 1))) (cores b)) (sym (add-one x))
