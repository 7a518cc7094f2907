-- `input::decode` meets its contract. The loop's invariant: the first k words are those of the input.
use Prim.Native.Nat.{◌/◌}
use mathlib.Core.Path.{◌≡◌, refl}
use native.Mathlib.Omega.{arith}
use lib.ListN.{length}
use Rattle.folds.specs.Folds.{tabulate}
use Rattle.input.specs.Input.{words_in}
use Rattle.input.proofs.Words.{words-next}
use Rattle.input.proofs.decode.Goals as goal

pub loop-k-init : goal.loop-k-init
unfolding tabulate
loop-k-init c = refl

pub loop-k-preserved : goal.loop-k-preserved
loop-k-preserved c =
    let l = c.loop-k in
    let chunks = c.as_chunks.ensures in
    words-next _ _ _ _ chunks.front (omega arith) (omega arith) l.invariant (omega arith)

pub returns-clause-words_after : goal.returns-clause-words_after
unfolding words_in
returns-clause-words_after c =
    let l = c.loop-k in
    let done : l.k ≡ length c.args.bytes.now / 4 = omega arith in
    let all : length c.as_chunks.result.0.now ≡ l.k = omega arith in
    rw (all, ← done) l.invariant
