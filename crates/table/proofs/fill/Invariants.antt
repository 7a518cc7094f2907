-- The first k records are filled.
use Rattle.std.proofs.Common.{◌≡◌}
use Rattle.folds.specs.Folds.{fill_to}
use Rattle.figures.specs.Figures.{figure_of}
use Rattle.table.proofs.fill.Given as goal

abbrev pub invariant-loop-k : goal.invariant-loop-k
invariant-loop-k l = l.table ≡ fill_to (figure_of l.board) l.k l.fn.table
