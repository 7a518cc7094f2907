-- `one_pass::PassTables::visit_task` meets its contract: the task is not due, or has its next time, or gets it.
use mathlib.Core.Path.{refl, sym, ◌∙◌}
use native.Mathlib.Omega.{arith}
use Rattle.one_pass.proofs.Visiting.{visited-none, visitable-done, visited-one}
use Rattle.one_pass.proofs.PassTables.visit_task.Goals as goal

-- it is not due
pub returns-then-not-has : goal.returns-then-not-has
returns-then-not-has c =
    let ready = c.requires.0 in
    (visited-none ready c.requires.1 (ready.quiet c.args.i c.requires.1 (sym c.has.ensures ∙ c.if-not-has.true)), ready)

-- its time stays
pub returns-then-scratch-i : goal.returns-then-scratch-i
returns-then-scratch-i c =
    let ready = c.requires.0 in
    let room = ready.startable.room in
    let e = c.if-scratch-i.true ∙ c.next_time-next.ensures in
    (visited-none ready c.requires.1 e, visitable-done ready c.requires.1 (omega (arith, room.tasks, room.sound.tasks)) c.without.ensures e)

-- its time changes
pub returns : goal.returns
returns c = visited-one c.requires.0 c.requires.1 c.next_time-next.ensures c.if-scratch-i.false _ refl c.joined.ensures
