-- The first i words are those of both sets.
use Rattle.std.proofs.Common.{◌≡◌, get_or, bit_or}
use Rattle.folds.specs.Folds.{fill_to}
use Rattle.bitset.proofs.union.Given as goal

abbrev pub invariant-loop-i : goal.invariant-loop-i
invariant-loop-i l = l.both ≡ fill_to (λ k. bit_or (get_or l.fn.a k 0) (get_or l.fn.b k 0)) l.i l.fn.a
