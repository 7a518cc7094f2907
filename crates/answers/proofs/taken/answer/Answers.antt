-- What is concluded of the passes that were made.
use Rattle.answers.proofs.Concluded.{concluded}
use Rattle.answers.proofs.taken.answer.Goals as goal

pub returns : goal.returns
returns g c =
    let made = c.run-passes.ensures in
    let told = c.conclude.ensures in
    (concluded _ _ _ c.pass_limit-limit.ensures.0 made.1 c.run-passes.result c.requires.0.room.tasks made.0 told.0 told.1, made.2)
