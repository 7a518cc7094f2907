-- `interference::bus::fifo` meets its contract.
use native.Mathlib.Omega.{arith}
use mathlib.Core.Path.{sym}
use Prim.Native.Nat.{◌+◌}
use Rattle.folds.proofs.Reaches.{reaches_whole}
use Rattle.board.specs.Layout.{cores}
use Rattle.carried.proofs.Bounds.{cores_from-bound}
use Rattle.interference.proofs.Buses.{fifo-is, interference-alone}
use Rattle.interference.proofs.bus.fifo.Goals as goal

pub returns-then-cores-eq1 : goal.returns-then-cores-eq1
returns-then-cores-eq1 c = let p = c.requires in
    sym (interference-alone _ _ _ p.0.sound p.1 (omega arith) 2)

pub returns : goal.returns
returns c =
    let h = c.requires.0 in
    let others = c.sides-others.ensures in
    let same = c.cores_within-cores.ensures in
    let w = c.cores_within-cores.result.window in
    let few = cores_from-bound _ _ _ _ _ w.rows w.early (c.core.result + 1) (cores w.board.now) w.rows.sound.cores.1 in
    let after = reaches_whole others.reaches.0 (omega (arith, few)) in
    fifo-is _ _ _ h.sound c.requires.1 same.2 c.core.ensures.0 same.3 (rw (same.0, same.1) at others.before_value.0) (rw (same.0, same.1) at after)
