-- For the code: the task that a number from 1 stands for, none for 0; and the other way round.
-- Assumes nothing.
use Rattle.std.specs.Prelude.{ℕ, zero, suc, Option, Some, None}

abbrev pub task_numbered : ℕ → Option ℕ
task_numbered zero = None
task_numbered (suc k) = Some k

abbrev pub number_of : Option ℕ → ℕ
number_of None = 0
number_of (Some k) = suc k
