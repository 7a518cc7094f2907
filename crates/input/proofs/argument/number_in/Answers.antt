-- `input::argument::number_in` meets its contract. The loop's invariant: the first bytes are digits, and `value` is theirs, at most the largest.

use native.Mathlib.Omega.{arith}
use Rattle.input.proofs.Digits.{other_none, value_none, digit-next, number-all}
use Rattle.input.proofs.argument.number_in.Goals as goal

pub loop-byte-init : goal.loop-byte-init
loop-byte-init c = let bytes = c.args.bytes.now in (other_none bytes, value_none bytes)

pub loop-byte-preserved : goal.loop-byte-preserved
loop-byte-preserved c =
    let l = c.loop-byte in
    digit-next c.args.bytes.now l.byte-index l.value c.from.result (omega arith) (omega arith) l.invariant.0 l.invariant.1 (omega arith) (omega arith)

pub returns : goal.returns
returns c = number-all c.args.bytes.now (omega arith) c.loop-byte.invariant.0 c.loop-byte.invariant.1
