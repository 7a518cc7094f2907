use Rattle.scratch.specs.Scratch.{Added}
use Rattle.scratch.proofs.add_md.Given as goal

abbrev pub invariant-loop-i : goal.invariant-loop-i
invariant-loop-i l = Added l.n l.i l.initial.scratch l.scratch
