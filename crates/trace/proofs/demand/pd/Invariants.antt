-- The sum has the cycles of the instructions passed.
use Rattle.std.proofs.Common.{◌*◌, ◌≤◌, ◌≡◌}
use Rattle.folds.specs.Folds.{sum_to}
use Rattle.board.specs.Layout.{cycles_of}
use Rattle.trace.specs.Traces.{work}
use Rattle.trace.proofs.demand.pd.Given as goal

abbrev pub invariant-loop-p : goal.invariant-loop-p
invariant-loop-p l = (l.sum ≤ 4095 * l.p) × (l.sum ≡ sum_to (λ i. cycles_of (work l.trace i)) l.p)
