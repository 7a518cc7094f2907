-- The page of a board's times is that of what Analyse answers.
use Rattle.std.proofs.Common.{arith, ◌∙◌}
use Rattle.page.proofs.Pages.{analyse-printable, board_page-is}
use Rattle.page.proofs.TimesBoardPageMOST.of_board.Goals as goal

pub answer_page-requires : goal.answer_page-requires
answer_page-requires c =
    let call = c.analyse_alone-answer in
    let empty = c.new-page.ensures in
    (omega arith, (analyse-printable _ _ _ _ _ call.auto.times call.ensures.answer, rw empty (omega arith)))

pub returns : goal.returns
returns c =
    let call = c.analyse_alone-answer in
    let put = c.answer_page.ensures in
    rw c.new-page.ensures at put ∙ board_page-is _ _ _ call.ensures.answer call.ensures.given
