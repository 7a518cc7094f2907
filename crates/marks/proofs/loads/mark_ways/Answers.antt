-- `marks::loads::mark_ways` meets its contract.
use Rattle.std.proofs.Common.{ℕ, suc, ◌≡◌, ◌+◌, ◌-◌, ◌*◌, ◌/◌, refl, sym, ap, ◌∙◌, arith, get_or}
use Rattle.std.proofs.Math.ListN.{set}
use Rattle.entries.specs.Entries.{found}
use Rattle.entries.proofs.Entries.{position_of-none, position_of-some}
use Rattle.marks.proofs.Steps.{load-held, load-missed, load-hit, or-one}
use Rattle.marks.proofs.loads.mark_ways.Goals as goal

pub returns-in_default : goal.returns-in_default
returns-in_default c =
    let a = c.args in
    let space = c.args.space.now in
    let last = found a.base (a.base + (a.block + 1)) space.held (a.s * a.ways) a.ways in
    let none : last ≡ 0 = position_of-none last (sym c.touch.ensures.0 ∙ c.in_default.is) in
    let so = load-missed a.base a.ways a.s (a.block + 1) a.e space.held space.marks (λ z. omega arith) last refl none in (
      so.0,
      c.touch.ensures.1 ∙ load-held a.base a.ways a.s (a.block + 1) a.e space.held space.marks (λ z. omega arith),
      so.1,
      omega arith,
    )

pub returns : goal.returns
returns c =
    let a = c.args in
    let space = c.args.space.now in
    let last = found a.base (a.base + (a.block + 1)) space.held (a.s * a.ways) a.ways in
    let position = c.in-Some.last in
    let hit : last ≡ suc position = position_of-some last position (sym c.touch.ensures.0 ∙ c.in-Some.is) in
    let at : position ≡ last - 1 = omega (arith, hit) in
    let first = set space.marks a.e (4 * a.s + 2) in
    let so = load-hit a.base a.ways a.s (a.block + 1) a.e space.held space.marks (λ z. omega arith) last refl (λ z. omega (arith, z, hit)) in (
      so.0,
      c.touch.ensures.1 ∙ load-held a.base a.ways a.s (a.block + 1) a.e space.held space.marks (λ z. omega arith),
      ap (set first position) (or-one (get_or first position 0)) ∙ ap (λ (i : ℕ). set first i (get_or first i 0 / 2 * 2 + 1)) at ∙ so.1,
      omega arith,
    )
