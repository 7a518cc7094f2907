-- For the code: what a step from times to times has to meet for its passes to settle at the least choice.
-- Assumes nothing.
use Rattle.std.specs.Prelude.{ℕ, List, ◌≡◌, length}
use Rattle.passes.specs.Passes.{System, pass, Below}

-- times, one a task, that a pass does not lower
pub record Rising (S : System) (R : List ℕ) : Type 0 where
  pub size : length R ≡ S.count
  pub rises : Below S.count R (pass S R)

-- times that a pass does not raise
abbrev pub Closed : System → List ℕ → Type 0
Closed S C = Below S.count (pass S C) C

-- what a step has to meet, in whatever order it visits the tasks: from times that a pass does not lower
pub record Ascending (S : System) (step : List ℕ → List ℕ) : Type 0 where
  -- it leads to such times again
  pub rising : (R : List ℕ) → Rising S R → Rising S (step R)
  -- reaches at least what a pass would
  pub reaches : (R : List ℕ) → Rising S R → Below S.count (pass S R) (step R)
  -- and stays below all times above them that a pass does not raise
  pub stays : (R C : List ℕ) → Rising S R → Closed S C → Below S.count R C → Below S.count (step R) C
