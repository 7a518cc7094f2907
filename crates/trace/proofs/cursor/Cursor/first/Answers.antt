-- `Cursor::first` meets its contract.
use native.Mathlib.Omega.{arith}
use Rattle.trace.proofs.Starts.{at-begin}
use Rattle.trace.proofs.cursor.Cursor.first.Goals as goal

pub returns : goal.returns
returns c = at-begin _ _ (omega arith)
