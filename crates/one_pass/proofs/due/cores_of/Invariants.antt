use Rattle.one_pass.specs.DueTasks.{OnCores}
use Rattle.one_pass.proofs.due.cores_of.Given as goal

abbrev pub invariant-loop-k : goal.invariant-loop-k
invariant-loop-k l = OnCores l.board l.k l.on
