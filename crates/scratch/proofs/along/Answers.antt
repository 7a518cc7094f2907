-- `scratch::along` meets its contract: a prepared scratch holds what a sum takes.
use Rattle.scratch.proofs.Prepared.{sum-input}
use Rattle.scratch.proofs.along.Goals as goal

pub task_sum-requires : goal.task_sum-requires
task_sum-requires c = sum-input c.requires.0 c.requires.3 c.requires.1 c.requires.2 c.place-own.ensures c.place-all.ensures
