-- `terms::rows::work` meets its contract.
use native.Mathlib.Omega.{arith}
use Rattle.sums.proofs.Bounds.{work-bound}
use Rattle.terms.proofs.rows.work.Goals as goal

pub returns : goal.returns
returns c =
    let e = c.requires.0.at c.args.k c.requires.1 in
    (omega arith, omega (arith, work-bound _ c.sound.ensures c.args.k c.requires.1))
