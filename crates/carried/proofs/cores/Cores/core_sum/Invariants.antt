use Prim.Native.Nat.{◌+◌}
use Rattle.sums.specs.Sums.{carry_in}
use Rattle.linked_tasks.specs.Numbered.{number_of}
use Rattle.linked_tasks.proofs.Along.{Along}
use Rattle.carried.proofs.cores.Cores.core_sum.Given as goal

abbrev pub invariant-loop-next : goal.invariant-loop-next
invariant-loop-next l = Along l.self.window.board.now l.y (carry_in l.self.window.board.now l.self.window.times.now l.self.window.t l.self.window.j) (l.self.window.j + 1) l.sum l.next

abbrev pub decreases-loop-next : goal.decreases-loop-next
decreases-loop-next l = number_of l.next
