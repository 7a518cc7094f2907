-- `scratch::add_md` meets its contract, row by row.
use native.Mathlib.Omega.{arith}
use Rattle.scratch.proofs.Added.{added_next}
use Rattle.scratch.proofs.add_md.Goals as goal

pub loop-i-preserved : goal.loop-i-preserved
loop-i-preserved c = added_next c.requires c.loop-i.invariant (omega arith) c.place.ensures.0 c.add_row.ensures
