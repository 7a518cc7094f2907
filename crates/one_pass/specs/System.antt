-- The passes of a board: its tasks, bounds and sums.
-- Assumes nothing.
use Rattle.std.specs.Prelude.{ℕ, List}
use Rattle.board.specs.Layout.{tasks}
use Rattle.sums.specs.Sums.{bound, task_sum}
use Rattle.passes.specs.Passes.{System}

abbrev pub system : List ℕ → System
system b = record { count = tasks b; bound = bound b; sum = task_sum b }
