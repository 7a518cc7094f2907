-- `interference::bus::processor_priority` meets its contract.
use native.Mathlib.Omega.{arith}
use Rattle.interference.proofs.Buses.{processor-priority-is}
use Rattle.interference.proofs.bus.processor_priority.Goals as goal

pub returns : goal.returns
returns c =
    let h = c.requires.row_input in
    let others = c.sides-others.ensures in
    let same = c.cores_within-cores.ensures in
    processor-priority-is _ _ _ h.0.sound h.1 same.2 c.core.ensures.0 same.3
    (rw (same.0, same.1) at others.before_value.0) (rw (same.0, same.1) at others.reaches.0) c.requires.s_value (omega (arith, c.min.ensures))
