-- The records of all tasks where no row refuses, and none where one does.
use Rattle.std.proofs.Common.{sym, ◌∙◌, arith}
use Rattle.figures.proofs.Fillable.{fillable-tasks, fillable-none, surveyed-tasks}
use Rattle.checks.proofs.Accepted.{figures-taken}
use Rattle.answers.specs.Answers.{figures_answer}
use Rattle.answers.proofs.Outcomes.{refused-is, outcome-value, outcome-refused, tasks-records, none-records}
use Rattle.works.proofs.figures.Goals as goal

pub of-board-requires : goal.of-board-requires
of-board-requires c = (figures-taken _ _ (sym c.in_ok-check_figures.ensures)).sound

pub returns-in_err-check_figures : goal.returns-in_err-check_figures
unfolding figures_answer
returns-in_err-check_figures c =
    let refused = sym c.in_err-check_figures.ensures in
    ((none-records _ refused, (fillable-none, omega arith)), refused-is _ c.from_residual.ensures ∙ outcome-refused _ refused)

pub returns : goal.returns
unfolding figures_answer
returns c =
    let passed = sym c.in_ok-check_figures.ensures in
    let taken = figures-taken _ _ passed in
    let all = rw c.of-board.ensures at c.tasks-n.ensures.0 in
    let held = surveyed-tasks all (rw c.of-board.ensures at c.survey.ensures.0) in
    let fillable = fillable-tasks taken.sound all (omega (arith, all, c.survey.ensures.2, taken.sound.tasks)) held in
    ((tasks-records _ passed all, (fillable, omega (arith, all, taken.table))), outcome-value _ passed all)
