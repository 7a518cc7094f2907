-- `interference::bus::interference` meets its contract.
use native.Mathlib.Omega.{arith}
use Rattle.sums.proofs.Bounds.{own_accesses-bound}
use Rattle.interference.proofs.bus.interference.Goals as goal

pub tdma-requires-clause-slots : goal.tdma-requires-clause-slots
tdma-requires-clause-slots c =
    let h = c.requires.row_input.0 in
    (omega (arith, c.in-Tdma.ensures), omega (arith, c.requires.s_value, own_accesses-bound _ _ h.sound h.times _ h.task))
