-- The row is raised for the tasks of the list that were passed, and no count still to come is above `most`.
use Rattle.std.proofs.Common.{List, ℕ}
use Rattle.counts.specs.Counted.{count_by}
use Rattle.counts.specs.declared.Counts.{Counts}
use Rattle.figures.specs.Overhead.{evicted_by}
use Rattle.figures.proofs.Listed.{Walk}
use Rattle.figures.proofs.row.Preempted.raise.Given as goal

-- the useful blocks of the point in the sets evicted by task j
abbrev pub reloads_by : List ℕ → Counts → ℕ → ℕ
reloads_by b live j = count_by live.caches live.words live.planes (evicted_by b j)

abbrev pub invariant-loop-j : goal.invariant-loop-j
invariant-loop-j l = Walk l.self.board.now l.self.index (reloads_by l.self.board.now l.live) l.fn.row l.row l.most l.j-index
