-- The line of a task.
-- Assumes nothing.
use Prim.Native.Nat.{ℕ, ◌+◌}
use mathlib.Core.List.{List, [], ◌∷◌}
use mathlib.Core.Path.{◌≡◌}
use lib.ListN.{get_or}
use Rattle.board.specs.Layout.{core, deadline}
use Rattle.text.specs.Text.{decimal, line}
use Rattle.answer_page.specs.AnswerPage.{task_line}

-- the line of task k, from its core and deadline
pub task_line-is : (b R : List ℕ) (k c d : ℕ) → c ≡ core b k → d ≡ deadline b k
    → line (decimal (k + 1) ∷ decimal c ∷ decimal (get_or R k 0) ∷ decimal d ∷ []) ≡ task_line b R k
task_line-is b R k c d e h = cc
