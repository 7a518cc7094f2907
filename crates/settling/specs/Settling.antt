-- For the code: what the passes end with.
-- Assumes nothing.
use Rattle.std.specs.Prelude.{ℕ, ◌≤◌, cond, List, Option, Some, None, ◌≡◌, ltb, length, take}
use Rattle.passes.specs.Passes.{System, passes_by, settled_by}

-- the passes needed by a step, unless they exceed the limit
unfoldable pub passes_of : System → (List ℕ → List ℕ) → ℕ → Option ℕ
passes_of S step limit = cond (ltb limit (passes_by S step)) None (Some (passes_by S step))

-- what is left of a scratch of w words once the passes have ended, with the settled times as its first n words where they were reached
pub record Ended (S : System) (step : List ℕ → List ℕ) (limit : ℕ) (w w' : List ℕ) : Type 0 where
  pub size : length w' ≡ length w
  pub times : passes_by S step ≤ limit → take S.count w' ≡ settled_by S step
