-- `interference::bus::round_robin` meets its contract.
use native.Mathlib.Omega.{arith}
use Rattle.sums.proofs.Bounds.{own_accesses-bound}
use Rattle.interference.proofs.Buses.{round-robin-is}
use Rattle.interference.proofs.bus.round_robin.Goals as goal

pub sum_capped-requires : goal.sum_capped-requires
sum_capped-requires c =
    let h = c.requires.row_input.0 in
    (rw c.cores_within-cores.ensures.0 c.requires.row_input.3, omega (arith, c.requires.s_value, own_accesses-bound _ _ h.sound h.times _ c.requires.row_input.1))

pub returns : goal.returns
returns c =
    let h = c.requires.row_input in
    let same = c.cores_within-cores.ensures in
    round-robin-is _ _ _ h.0.sound h.1 same.2 c.core.ensures.0 same.3 (rw (same.0, same.1) at c.sum_capped.ensures) c.requires.s_value
