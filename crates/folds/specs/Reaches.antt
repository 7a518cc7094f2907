-- For the code: a sum that counts only up to a cap, and may stop once it has reached it.
-- Assumes nothing.
use Rattle.std.specs.Prelude.{ℕ, ◌≤◌, min, ◌≡◌}

-- a is c, or is on its way to c and has reached the cap: what counts only up to the cap is the same of both
pub record Reaches (cap a c : ℕ) : Type 0 where
  pub below : a ≤ c
  pub same : min cap a ≡ min cap c
