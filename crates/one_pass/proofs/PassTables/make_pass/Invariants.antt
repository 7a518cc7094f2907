use lib.ListN.{take}
use Rattle.passes.specs.Passes.{capped}
use Rattle.folds.specs.Stored.{Stored}
use Rattle.one_pass.specs.System.{system}
use Rattle.one_pass.proofs.PassTables.make_pass.Given as goal

abbrev pub invariant-loop-i : goal.invariant-loop-i
invariant-loop-i l = Stored (capped (system l.self.board.now) (take l.self.n l.initial.scratch)) l.self.n l.i l.initial.scratch l.scratch
