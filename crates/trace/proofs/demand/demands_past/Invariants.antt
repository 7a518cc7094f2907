-- The sums have the cycles and the bus accesses of the instructions passed.
use Rattle.std.proofs.Common.{◌*◌, ◌≤◌, ◌≡◌}
use Rattle.folds.specs.Folds.{sum_to}
use Rattle.board.specs.Layout.{cycles_of}
use Rattle.trace.specs.Traces.{work}
use Rattle.trace.specs.Positions.{accesses}
use Rattle.trace.proofs.demand.demands_past.Given as goal

abbrev pub invariant-loop-p : goal.invariant-loop-p
invariant-loop-p l =
    (l.pd ≤ 4095 * l.p) × (l.pd ≡ sum_to (λ i. cycles_of (work l.trace i)) l.p)
    × (l.md ≤ 3 * l.p) × (l.md ≡ sum_to (accesses l.trace l.low l.high) l.p)
