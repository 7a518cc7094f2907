-- For the code: what a function over one task of a board asks: the board passed its checks, and the task is one of its tasks.
-- Assumes nothing.
use Rattle.std.specs.Prelude.{ℕ, ◌<◌, List}
use Rattle.board.specs.Layout.{tasks}
use Rattle.board.specs.Sound.{Sound}

pub record Ready (b : List ℕ) (k : ℕ) : Type 0 where
  pub sound : Sound b
  pub task : k < tasks b
