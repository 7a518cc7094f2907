-- The sum of the releases on a core, to which those of task i itself are added last; and how large it is on the way.
-- Assumes nothing.
use Prim.Native.Nat.{ℕ, ◌+◌, ◌*◌, ◌≤◌}
use mathlib.Core.Bool.{Bool}
use mathlib.Core.List.{List}
use mathlib.Core.Path.{◌≡◌, refl, sym, ap₂, ◌∙◌}
use native.Mathlib.Omega.{arith}
use lib.ListN.{get_or}
use borrow.Author.Tests.{eq-eqb}
use Rattle.folds.specs.Folds.{only_if}
use Rattle.folds.proofs.Folds.{sum_to-next}
use Rattle.folds.proofs.Last.{Traversed}
use Rattle.board.specs.Layout.{core}
use Rattle.figures.specs.Figures.{task_pd}
use Rattle.sums.specs.Sums.{releases, memory_demand}
use Rattle.sums.specs.Limits.{most_work, most_demand, most_own_accesses, most_higher_work}
use Rattle.sums.specs.Links.{is_on}
use Rattle.sums.specs.Inputs.{RowInput, release_cost, own_costs}
use Rattle.sums.proofs.Numbers.{product-cong}
use Rattle.sums.proofs.Bounds.{demand-bound, work-bound, own_costs-bound}

-- task i is on its core
pub own_costs-last : (b R : List ℕ) (i : ℕ) (cost : ℕ → ℕ) {acc n m : ℕ} → acc ≡ own_costs b R i cost i
    → n ≡ releases b i i (get_or R i 0) → m ≡ cost i → acc + n * m ≡ own_costs b R i cost (i + 1)
own_costs-last b R i cost sum some each =
    ap₂ (λ (acc v : ℕ). acc + v) sum (product-cong some each)
    ∙ ap₂ (λ (acc : ℕ) (t : Bool). acc + only_if t (release_cost b R i cost i)) refl (sym (eq-eqb (core b i) (core b i) refl))
    ∙ sym (sum_to-next (λ k. only_if (is_on b (core b i) k) (release_cost b R i cost k)) i)

-- what is added up so far of S, and of the work of higher tasks
module _ (b own R : List ℕ) (i : ℕ) (h : RowInput b own R i) where
  pub accesses-few : {acc k : ℕ} → Traversed (is_on b (core b i)) (release_cost b R i (memory_demand b i)) i acc k → acc ≤ most_own_accesses
  accesses-few so_far =
      omega (arith, so_far.rest, own_costs-bound _ _ h.sound h.times _ h.task _ most_demand i (omega arith) (demand-bound _ h.sound i))

  pub work-little : {acc k : ℕ} → Traversed (is_on b (core b i)) (release_cost b R i (task_pd b)) i acc k → acc ≤ most_higher_work
  work-little so_far =
      omega (arith, so_far.rest, own_costs-bound _ _ h.sound h.times _ h.task _ most_work i (omega arith) (work-bound _ h.sound))
