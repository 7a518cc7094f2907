-- `terms::carry::Window::carry_in` meets its contract.
use native.Mathlib.Omega.{arith}
use mathlib.Core.Path.{◌∙◌}
use Rattle.sums.specs.Sums.{carry_in}
use Rattle.sums.proofs.Numbers.{product-cong}
use Rattle.terms.proofs.Windows.{carry-cong}
use Rattle.terms.proofs.carry.Window.carry_in.Goals as goal

pub returns : goal.returns
unfolding carry_in
returns c =
    let d = c.from-d.ensures ∙ c.access_cycles.ensures.0 in
    c.in_window.ensures
    ∙ carry-cong c.demand-accesses.ensures.0 d (c.from-period.ensures ∙ c.period.ensures.0)
    (omega (arith, c.saturating_sub.ensures, product-cong c.demand-accesses.ensures.0 d))
