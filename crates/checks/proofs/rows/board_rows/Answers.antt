-- `checks::rows::board_rows` meets its contract.
use mathlib.Core.Path.{sym}
use Rattle.refusals.proofs.Sound.{sound}
use Rattle.checks.proofs.rows.board_rows.Goals as goal

pub of-requires : goal.of-requires
of-requires c = sound _ (sym c.in_ok-check.ensures)
