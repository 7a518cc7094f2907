-- The late task is below n, and the answer is that of the passes and of the late task.
use Rattle.std.proofs.Common.{sym, arith}
use Rattle.settling.proofs.Delivered.{late_task-some}
use Rattle.answers.proofs.Concluded.{answer-late, answer-times, times-given}
use Rattle.answers.proofs.taken.conclude.Goals as goal

pub overflow_cast-result : goal.overflow_cast-result
overflow_cast-result c = omega (arith, (late_task-some _ _ _ (sym c.in-Some-deliver.ensures.0)).1, c.requires.0.sound.tasks)

pub overflow_add-result : goal.overflow_add-result
overflow_add-result c = omega (arith, (late_task-some _ _ _ (sym c.in-Some-deliver.ensures.0)).1, c.requires.0.sound.tasks)

pub returns-in-Some-deliver : goal.returns-in-Some-deliver
returns-in-Some-deliver c = (answer-late _ _ c.in-Some.is (sym c.in-Some-deliver.ensures.0), times-given _ _ c.in-Some.is _ c.in-Some-deliver.ensures.1)

pub returns-in-None : goal.returns-in-None
returns-in-None c = (answer-times _ _ c.in-Some.is (sym c.in-None.ensures.0), times-given _ _ c.in-Some.is _ c.in-None.ensures.1)
