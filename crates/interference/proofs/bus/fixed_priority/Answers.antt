-- `interference::bus::fixed_priority` meets its contract.
use native.Mathlib.Omega.{arith}
use Rattle.folds.proofs.Reaches.{reaches-lower}
use Rattle.sums.proofs.Bounds.{own_accesses-bound}
use Rattle.interference.proofs.Buses.{fixed-priority-is}
use Rattle.interference.proofs.bus.fixed_priority.Goals as goal

pub returns : goal.returns
returns c =
    let h = c.requires.row_input.0 in
    let few = own_accesses-bound _ _ h.sound h.times _ h.task in
    fixed-priority-is _ _ _ h.sound h.task c.time-t.ensures.0 c.core-x.ensures.0 c.lowest.ensures
    c.others-above.ensures.0 (reaches-lower (omega (arith, few, c.requires.s_value)) c.others_from-below.ensures.0) c.requires.s_value (omega (arith, c.min.ensures))
