use Prim.Native.Nat.{◌-◌}
use Rattle.folds.specs.Reaches.{Reaches}
use Rattle.carried.specs.Terms.{cores_from}
use Rattle.carried.proofs.cores.Cores.cores_sum.Given as goal

abbrev pub invariant-loop-y : goal.invariant-loop-y
invariant-loop-y l = Reaches l.cap l.sum (cores_from l.self.window.board.now l.self.window.times.now l.self.window.t l.self.window.j l.first (l.y - 1))
