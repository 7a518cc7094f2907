use Prim.Native.Nat.{◌+◌, ◌*◌, ◌≤◌}
use mathlib.Core.List.{◌++◌}
use mathlib.Core.Path.{◌≡◌}
use lib.ListN.{length}
use Rattle.folds.specs.Folds.{join_to}
use Rattle.interference.specs.Parts.{listed}
use Rattle.parts_page.specs.PartsPage.{part_line}
use Rattle.parts_page.proofs.part_lines.Given as goal

abbrev pub invariant-loop-k : goal.invariant-loop-k
invariant-loop-k g l =
    (length l.page.items ≤ length l.initial.page.items + 37 * l.k) × (l.page.items ≡ l.initial.page.items ++ join_to (part_line (listed l.fn.parts)) l.k)
