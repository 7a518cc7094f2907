-- `sum` is that of the planes from i on, as if plane i were the first.
use Rattle.std.proofs.Common.{◌≡◌, ◌-◌}
use Rattle.folds.specs.Folds.{sum_where}
use Rattle.bitset.specs.Bits.{member}
use Rattle.bitset.specs.Records.{record_at}
use Rattle.counts.specs.Planes.{sets_of, count_of}
use Rattle.counts.proofs.count_in.Given as goal

abbrev pub invariant-loop-i : goal.invariant-loop-i
invariant-loop-i l = l.sum ≡ sum_where (member (record_at 8 l.ecbs l.j)) (count_of l.caches l.live l.i (l.planes - l.i)) (sets_of l.caches)
