-- The entries from k on, with `carried` still to be put in front of them, give what the whole gives.
use Rattle.std.proofs.Common.{◌≡◌, ◌+◌, ◌-◌, ◌*◌, length}
use Rattle.entries.specs.Entries.{found, shifted}
use Rattle.entries.proofs.touch.Given as goal

abbrev pub invariant-loop-k : goal.invariant-loop-k
invariant-loop-k l =
    (length l.held ≡ length l.fn.held) × (found l.base l.x l.held l.k (l.from + l.ways - l.k) ≡ found l.base l.x l.fn.held l.from l.ways)
    × (shifted l.base l.x l.carried l.held l.k (l.from + l.ways - l.k) ≡ shifted l.base l.x (l.x * 2048 + l.e) l.fn.held l.from l.ways)
