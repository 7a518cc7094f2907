-- For the code: where a board's traces start, for the loops over them.
-- Assumes nothing.
use Rattle.std.specs.Prelude.{ℕ, ◌+◌, ◌<◌, List, ◌≡◌}
use Rattle.board.specs.Layout.{traces, fetches_at, first_trace, first_instruction}
use Rattle.board.specs.Sound.{Sound}

-- the place of the first fetch word of trace r
abbrev pub start_of : List ℕ → ℕ → ℕ
start_of b r = fetches_at b + first_instruction b r

-- trace r of a board that passed its checks starts at `start`
pub record Starts (b : List ℕ) (r start : ℕ) : Type 0 where
  pub sound : Sound b
  pub trace : r < traces b
  pub place : start ≡ start_of b r

-- a walk over the traces stands past r of those of task k
pub record At (b : List ℕ) (k r trace start : ℕ) : Type 0 where
  pub known : trace ≡ first_trace b k + r
  pub place : start ≡ start_of b trace
