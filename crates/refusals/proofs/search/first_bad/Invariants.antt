use mathlib.Core.Path.{◌≡◌}
use Rattle.ranges.specs.Parts.{word_ok}
use Rattle.refusals.specs.Found.{bad_in}
use Rattle.refusals.proofs.search.first_bad.Given as goal

abbrev pub invariant-loop-i : goal.invariant-loop-i
invariant-loop-i l = bad_in (word_ok l.part l.board) l.i l.end ≡ bad_in (word_ok l.part l.board) l.from l.end
