-- `interference::bus::tdma` meets its contract.
use native.Mathlib.Omega.{arith}
use Rattle.interference.proofs.Buses.{tdma-is}
use Rattle.interference.proofs.bus.tdma.Goals as goal

pub returns : goal.returns
returns c = tdma-is _ _ _ (omega arith) (omega arith) c.requires.s_value
