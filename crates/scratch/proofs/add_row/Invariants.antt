use Rattle.folds.specs.Stored.{Stored}
use Rattle.scratch.specs.Scratch.{with_md}
use Rattle.scratch.proofs.add_row.Given as goal

abbrev pub invariant-loop-k : goal.invariant-loop-k
invariant-loop-k l = Stored (with_md l.n l.at l.initial.scratch) l.at l.k l.initial.scratch l.scratch
