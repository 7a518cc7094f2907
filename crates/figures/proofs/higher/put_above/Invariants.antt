-- The tasks from j on are listed.
use Rattle.std.proofs.Common.{◌+◌, ◌≤◌, take}
use Rattle.figures.proofs.Listed.{Listing}
use Rattle.figures.proofs.higher.put_above.Given as goal

abbrev pub invariant-loop-j : goal.invariant-loop-j
invariant-loop-j l = Listing l.board l.i l.j (take l.count l.tasks) × (l.count + l.j ≤ l.i)
