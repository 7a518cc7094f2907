use Prim.Native.Nat.{◌*◌}
use mathlib.Core.Path.{◌≡◌}
use lib.ListN.{take}
use Rattle.folds.specs.Folds.{tabulate}
use Rattle.input.specs.Input.{word_at_byte}
use Rattle.input.proofs.decode.Given as goal

abbrev pub invariant-loop-k : goal.invariant-loop-k
invariant-loop-k l = take l.k l.words ≡ tabulate (λ j. word_at_byte l.bytes (4 * j)) l.k
