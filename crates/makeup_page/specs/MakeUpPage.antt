-- The page of how a time is made up: the bytes written, for any bytes read and any argument.
-- Assumes nothing.
use Rattle.std.specs.Prelude.{ℕ, ◌-◌, List}
use Rattle.board.specs.Layout.{most_tasks, most_scratch}
use Rattle.answers.specs.MakeUp.{make_up_answer}
use Rattle.input.specs.Argument.{number_in}
use Rattle.parts_page.specs.PartsPage.{made_up_page}
use Rattle.page.specs.Page.{input_page}

-- the page of a task of a board, by its number from 1; the buffers lent are for the most tasks that a board can have
unfoldable pub board_made_up : ℕ → List ℕ → List ℕ
board_made_up task b = made_up_page b (task - 1) (make_up_answer b most_tasks most_scratch most_tasks task)

-- the page of the argument and the input
unfoldable pub make_up_page : List ℕ → List ℕ → List ℕ
make_up_page argument bytes = input_page (board_made_up (number_in argument)) bytes
