-- `folds::ceil_div_tested` meets its contract.
use native.Mathlib.Omega.{arith}
use mathlib.Core.Path.{sym, ◌∙◌}
use Rattle.folds.proofs.Numbers.{ceil_div-once}
use Rattle.folds.proofs.ceil_div_tested.Goals as goal

pub returns-then-x-y : goal.returns-then-x-y
returns-then-x-y c = let a = c.args in
    let e = c.min.ensures ∙ sym (ceil_div-once a.x a.y c.requires.0 c.if-x-y.true) in
    (e, omega (arith, c.min.ensures))
