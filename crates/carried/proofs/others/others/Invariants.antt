use mathlib.Core.Path.{◌≡◌}
use Rattle.folds.specs.Folds.{sum_to}
use Rattle.carried.specs.Terms.{carried_if}
use Rattle.carried.proofs.others.others.Given as goal

abbrev pub invariant-loop-k : goal.invariant-loop-k
invariant-loop-k l = l.sum ≡ sum_to (carried_if l.window.board.now l.window.times.now l.window.t l.x l.window.j 0) l.k
