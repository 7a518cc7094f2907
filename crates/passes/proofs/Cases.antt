-- Three cases by computation: a task that takes 3, and one that takes 2 and waits for the first.
-- Assumes nothing.
use mathlib.Core.List.{List, [], ◌∷◌}
use mathlib.Core.Path.{◌≡◌, refl}
use Prim.Native.Nat.{ℕ, zero, suc, ◌+◌}
use lib.ListN.{get_or}
use Rattle.folds.specs.Folds.{tabulate, sum_to, same_list, first_from}
use Rattle.passes.specs.Passes.{System, pass, times_by, unchanged, changes, passes_by, settled_by, passes_needed, settled, first_late}

abbrev takes : List ℕ → ℕ → ℕ
takes R zero = 3
takes R (suc i) = 2 + get_or R 0 0

-- both tasks with this bound
abbrev pair : ℕ → System
pair bound = record { count = 2; bound = λ i. bound; sum = takes }

abbrev Answers : ℕ → ℕ → List ℕ → ℕ → Type 0
Answers bound passes times late =
    (passes_needed (pair bound) ≡ passes) × (settled (pair bound) ≡ times) × (first_late (pair bound) (settled (pair bound)) ≡ late)

-- both on time, the second late, both late
pub cases : Answers 5 3 (3 ∷ 5 ∷ []) 2 × Answers 4 3 (3 ∷ 5 ∷ []) 1 × Answers 1 2 (2 ∷ 2 ∷ []) 0
unfolding tabulate sum_to same_list first_from pass times_by unchanged changes passes_by settled_by first_late
cases = ((refl, refl, refl), (refl, refl, refl), (refl, refl, refl))
