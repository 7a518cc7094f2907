-- MD added to the rows, one after the other.
-- Assumes nothing.
use Prim.Native.Nat.{ℕ, ◌+◌, ◌*◌, ◌<◌}
use mathlib.Core.List.{List}
use mathlib.Core.Path.{◌≡◌, refl, sym, ap, ap₂, ◌∙◌}
use native.Mathlib.Nat.{suc-mul, mul-le-mul_right}
use native.Mathlib.Omega.{arith}
use lib.ListN.{get_or}
use Rattle.folds.proofs.Numbers.{below_suc}
use Rattle.folds.specs.Stored.{Stored}
use Rattle.scratch.specs.Scratch.{with_md, Addable, Added}

-- to no row
pub added_none : {n : ℕ} {w : List ℕ} → Added n 0 w w
added_none = record { size = refl; rows = λ i k row column. absurd (omega arith); before = λ p h. refl; after = λ p h. refl }

module _ {n i at : ℕ} {w w₁ : List ℕ} (able : Addable n w) (so_far : Added n i w w₁) (row : i < n) (place : at ≡ 4 * n + i * n) where
  -- row i is as it was
  same : (k : ℕ) → k < n → with_md n at w₁ k ≡ with_md n at w k
  same k column = ap₂ ◌+◌ (so_far.after (at + k) (omega arith)) (so_far.before (3 * n + k) (omega arith))

  moved : (k : ℕ) → with_md n at w k ≡ with_md n (4 * n + i * n) w k
  moved k = ap (λ (a : ℕ). with_md n a w k) place

  pub added_next : {w₂ : List ℕ} → Stored (with_md n at w₁) at n w₁ w₂ → Added n (i + 1) w w₂
  added_next {w₂} stored =
      record {
        size = stored.size ∙ so_far.size;
        rows = λ j k h.
            below_suc (λ r. k < n → get_or w₂ (4 * n + r * n + k) 0 ≡ with_md n (4 * n + r * n) w k) i
            (λ r l column.
            let low : 4 * n + r * n + k < at = omega (arith, suc-mul r n, mul-le-mul_right n l) in
            stored.before (4 * n + r * n + k) low ∙ so_far.rows r k l column)
            (λ column. ap (λ (a : ℕ). get_or w₂ (a + k) 0) (sym place) ∙ stored.part k column ∙ same k column ∙ moved k)
            j (omega arith);
        before = λ p h. stored.before p (omega arith) ∙ so_far.before p h;
        after = λ p h. stored.after p (omega (arith, suc-mul i n)) ∙ so_far.after p (omega (arith, suc-mul i n));
      }
