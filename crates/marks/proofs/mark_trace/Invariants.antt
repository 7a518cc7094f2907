-- The invariant: the positions of the instructions before p have their marks, and their accesses and touched sets are in.
use Rattle.std.proofs.Common.{◌+◌, ◌*◌, ◌≡◌}
use Rattle.folds.specs.Folds.{count_to}
use Rattle.board.specs.Layout.{ways}
use Rattle.trace.specs.Cache.{place_of}
use Rattle.trace.specs.Positions.{touches}
use Rattle.trace.specs.Traces.{writes}
use Rattle.marks.proofs.Evicting.{added}
use Rattle.marks.proofs.Turns.{ScannedTo, misses}
use Rattle.marks.proofs.mark_trace.Given as goal

abbrev pub invariant-loop-p : goal.invariant-loop-p
invariant-loop-p l =
    (l.n ≡ count_to (misses l.trace (ways l.trace.words)) (2 * l.p) + count_to (writes l.trace) l.p)
    × (l.ecb ≡ added (touches l.trace (place_of l.trace.words)) l.initial.ecb l.p)
    × ScannedTo l.trace (ways l.trace.words) l.base l.space.held l.space.marks l.p
