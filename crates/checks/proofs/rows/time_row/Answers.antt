-- `checks::rows::time_row` meets its contract.
use native.Mathlib.Omega.{arith}
use Rattle.refusals.proofs.Sound.{sound}
use Rattle.checks.proofs.rows.time_row.Goals as goal

pub of-requires : goal.of-requires
of-requires c = sound _ (c.requires (omega arith)).0
