-- The page of how a task's time is made up is that of what `make_up` answers.
use Rattle.std.proofs.Common.{arith, ◌∙◌}
use Rattle.makeup_page.proofs.Pages.{make-up-printable, board_made_up-is}
use Rattle.makeup_page.proofs.MadeUpBoardPageMOST.of_board.Goals as goal

pub made_up_page-requires : goal.made_up_page-requires
made_up_page-requires c =
    let call = c.make_up_alone-made in
    let empty = c.new-page.ensures in
    (omega arith, (make-up-printable _ _ _ _ _ call.ensures.answer call.ensures.parts, rw empty (omega arith)))

pub returns : goal.returns
returns c =
    let put = c.made_up_page.ensures in
    rw c.new-page.ensures at put ∙ board_made_up-is _ c.number_in-task.ensures c.make_up_alone-made.ensures.answer
