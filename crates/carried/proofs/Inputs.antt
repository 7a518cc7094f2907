-- What a struct over the links and a window of task n is known to have.
-- Assumes nothing.
use Rattle.sums.specs.Inputs.{CoresInput}
use Rattle.carried.specs.declared.cores.Cores.{Cores}

pub input : (c : Cores) → let w = c.window in CoresInput w.board.now c.links.now w.row.now w.times.now w.t w.j
input c = record { rows = c.window.rows; last = c.last; early = c.window.early; linked = c.linked }
