-- After i planes the numbers have moved but for the carries that go into the others.
use Rattle.std.proofs.Common.{List, ℕ, ◌≡◌, length}
use Rattle.counts.specs.Carries.{Rippled}
use Rattle.counts.proofs.carry_on.Given as goal

abbrev pub invariant-loop-i : goal.invariant-loop-i
invariant-loop-i l =
    (length l.live ≡ length l.fn.live) ×
    ((old : List ℕ) → Rippled l.caches l.planes l.mark l.at old 1 l.first l.fn.live → Rippled l.caches l.planes l.mark l.at old l.i l.carry l.live)
