-- Passes in a chosen order: a pass visits the tasks of a list one after the other, each using the newest times ("a pass visits them in turn").
-- Assumes nothing.
use Rattle.std.specs.Prelude.{ℕ, ◌-◌, ◌≤◌, ◌<◌, List, [], ◌∷◌, ◌≡◌, length, get_or, set}
use Rattle.folds.specs.Folds.{tabulate}
use Rattle.passes.specs.Passes.{System, capped}

-- task i gets its capped sum at the newest times
abbrev pub visit : System → List ℕ → ℕ → List ℕ
visit S R i = set R i (capped S R i)

-- a pass that visits the tasks of the list one after the other
unfoldable pub in_turn : System → List ℕ → List ℕ → List ℕ
in_turn S [] R = R
in_turn S (i ∷ order) R = in_turn S order (visit S R i)

-- the tasks, from 0, that a list of task numbers, from 1, names
abbrev pub tasks_of : List ℕ → List ℕ
tasks_of order = tabulate (λ k. get_or order k 0 - 1) (length order)

-- a pass in the order of a list of task numbers
abbrev pub in_order : System → List ℕ → List ℕ → List ℕ
in_order S order = in_turn S (tasks_of order)

-- the list has the numbers 1 .. n, each once
pub record Permutation (n : ℕ) (order : List ℕ) : Type 0 where
  pub size : length order ≡ n
  pub within : (k : ℕ) → k < n → (1 ≤ get_or order k 0) × (get_or order k 0 ≤ n)
  pub differ : (j k : ℕ) → j < k → k < n → get_or order j 0 ≡ get_or order k 0 → ⊥
