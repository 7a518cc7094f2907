use Prim.Native.Nat.{◌+◌, ◌*◌, ◌≤◌}
use mathlib.Core.List.{◌++◌}
use mathlib.Core.Path.{◌≡◌}
use lib.ListN.{length}
use Rattle.answer_page.specs.AnswerPage.{task_lines}
use Rattle.answer_page.proofs.task_lines.Given as goal

abbrev pub invariant-loop-k : goal.invariant-loop-k
invariant-loop-k g l =
    (length l.page.items ≤ length l.initial.page.items + 44 * l.k) × (l.page.items ≡ l.initial.page.items ++ task_lines l.board l.times l.k)
