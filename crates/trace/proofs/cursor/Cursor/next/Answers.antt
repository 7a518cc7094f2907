-- `Cursor::next` meets its contract.
use mathlib.Core.Path.{refl}
use native.Mathlib.Omega.{arith}
use Rattle.trace.proofs.Starts.{start_of-next, start_of-fits}
use Rattle.trace.proofs.cursor.Cursor.next.Goals as goal

pub overflow_add-result-2 : goal.overflow_add-result-2
overflow_add-result-2 c =
    let start = c in
    omega (arith, start_of-fits c.args.board.now c.requires.sound c.args.self.trace c.requires.trace, c.requires.place, c.requires.sound.small)

pub returns : goal.returns
returns c =
    let start = c in
    (refl, omega (arith, start_of-next c.args.board.now c.args.self.trace, c.requires.place))
