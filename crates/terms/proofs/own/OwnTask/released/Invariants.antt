use Rattle.board.specs.Layout.{core}
use Rattle.figures.specs.Figures.{task_pd}
use Rattle.sums.specs.Sums.{memory_demand}
use Rattle.sums.specs.Inputs.{release_cost}
use Rattle.linked_tasks.specs.Numbered.{number_of}
use Rattle.linked_tasks.proofs.Along.{Along}
use Rattle.terms.proofs.own.OwnTask.released.Given as goal

abbrev pub invariant-loop-next : goal.invariant-loop-next
invariant-loop-next l =
    record {
      accesses : Along l.self.board.now (core l.self.board.now l.self.i) (release_cost l.self.board.now l.self.times.now l.self.i (memory_demand l.self.board.now l.self.i)) l.self.i l.sums.accesses l.next;
      work : Along l.self.board.now (core l.self.board.now l.self.i) (release_cost l.self.board.now l.self.times.now l.self.i (task_pd l.self.board.now)) l.self.i l.sums.work l.next;
    }

abbrev pub decreases-loop-next : goal.decreases-loop-next
decreases-loop-next l = number_of l.next
