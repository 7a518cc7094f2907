use Prim.Native.Nat.{◌+◌, ◌*◌, ◌≤◌}
use mathlib.Core.Path.{◌≡◌}
use Rattle.folds.specs.Folds.{sum_to}
use Rattle.board.specs.Layout.{word}
use Rattle.refusals.proofs.search.sum_words.Given as goal

abbrev pub invariant-loop-k : goal.invariant-loop-k
invariant-loop-k l = (l.sum ≤ 4294967296 * l.k) × (l.sum ≡ sum_to (λ j. word l.board (l.from + l.stride * j)) l.k)
