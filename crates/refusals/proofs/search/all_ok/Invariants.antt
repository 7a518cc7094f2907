use mathlib.Core.Bool.{true}
use mathlib.Core.Path.{◌≡◌}
use Rattle.ranges.specs.Parts.{word_ok}
use Rattle.refusals.specs.Found.{bad_in}
use Rattle.refusals.proofs.search.all_ok.Given as goal

-- while all words were in their range, what is to be found is what is found from here on
abbrev pub invariant-loop-i : goal.invariant-loop-i
invariant-loop-i l = l.ok ≡ true → bad_in (word_ok l.part l.board) l.i l.end ≡ bad_in (word_ok l.part l.board) l.from l.end
