-- For the theorem about boards whose releases are punctual: the passes of a board as they were before a release could be late. No contract cites them.
-- Assumes nothing.
use Rattle.std.specs.Prelude.{ℕ, List}
use Rattle.board.specs.Layout.{tasks, deadline}
use Rattle.sums.specs.Punctual.{punctual_sum}
use Rattle.passes.specs.Passes.{System}

abbrev pub punctual_system : List ℕ → System
punctual_system b = record { count = tasks b; bound = deadline b; sum = punctual_sum b }
