-- `terms::rows::demand` meets its contract.
use native.Mathlib.Omega.{arith}
use Rattle.sums.proofs.Bounds.{demand-bound}
use Rattle.terms.proofs.rows.demand.Goals as goal

pub returns : goal.returns
returns c =
    let e = c.requires.0.at c.args.k c.requires.1 in
    (omega arith, omega (arith, demand-bound _ c.sound.ensures c.args.j c.args.k c.requires.1))
