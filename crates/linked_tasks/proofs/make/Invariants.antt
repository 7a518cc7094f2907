use Rattle.sums.specs.Links.{LinkedTo}
use Rattle.linked_tasks.proofs.make.Given as goal

abbrev pub invariant-loop-k : goal.invariant-loop-k
invariant-loop-k l = LinkedTo l.board l.k l.links
