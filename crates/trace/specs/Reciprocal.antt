-- For the code: the number by which the code multiplies to divide a block by the sets of a cache.
-- Assumes nothing.
use Rattle.std.specs.Prelude.{ℕ, ◌+◌, ◌/◌, ◌≤◌, ◌≡◌}
use Rattle.board.specs.Layout.{most_sets}

-- 1 .. 256 sets, and their reciprocal in units of 2^-24
pub record SetDivisor (sets inverse : ℕ) : Type 0 where
  pub some : 1 ≤ sets
  pub few : sets ≤ most_sets
  pub reciprocal : inverse ≡ 16777216 / sets + 1
