-- For the code: where a trace lies in a board's words.
-- Assumes nothing.
use Rattle.std.specs.Prelude.{ℕ, ◌+◌, ◌≤◌, List, length}
use Rattle.board.specs.Layout.{instructions, fetches_at}
use Rattle.trace.specs.Traces.{Trace}

-- the trace of `len` instructions whose first fetch word is word `start`
abbrev pub trace_at : List ℕ → ℕ → ℕ → Trace
trace_at b start len = record { words = b; start = start; len = len }

-- its fetch words and its work words lie within the board
pub record Lies (b : List ℕ) (start len : ℕ) : Type 0 where
  pub header : 20 ≤ length b
  pub first : fetches_at b ≤ start
  pub room : start + instructions b + len ≤ length b
  pub short : len ≤ 1024
