use mathlib.Core.Path.{◌≡◌}
use Rattle.refusals.specs.Found.{bad_in}
use Rattle.checks.specs.CallRefusals.{time_ok}
use Rattle.checks.proofs.rows.first_over.Given as goal

abbrev pub invariant-loop-k : goal.invariant-loop-k
invariant-loop-k l = bad_in (time_ok l.board l.times) l.k l.n ≡ bad_in (time_ok l.board l.times) 0 l.n
