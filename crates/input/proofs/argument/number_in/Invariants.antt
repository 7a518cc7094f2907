use Prim.Native.Nat.{min}
use mathlib.Core.Bool.{false}
use mathlib.Core.Path.{◌≡◌}
use Rattle.folds.specs.Folds.{any_to}
use Rattle.input.specs.Argument.{value_to}
use Rattle.input.proofs.Digits.{largest, other}
use Rattle.input.proofs.argument.number_in.Given as goal

abbrev pub invariant-loop-byte : goal.invariant-loop-byte
invariant-loop-byte l = (any_to (other l.bytes) l.byte-index ≡ false) × (l.value ≡ min (value_to l.bytes l.byte-index) largest)
