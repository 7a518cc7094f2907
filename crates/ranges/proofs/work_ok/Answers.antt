-- `ranges::work_ok` meets its contract: its two tests, of which one holds at most, are the two cases of `work_ok`.
use mathlib.Core.Bool.{Bool, true, false, cond, not, ◌&&◌, ◌||◌}
use mathlib.Core.Path.{◌≡◌, refl, ◌∙◌}
use lib.Dec.{eqb, leb}
use Rattle.board.specs.Layout.{first_data_block}
use Rattle.ranges.specs.Ranges.{work_ok}
use Rattle.ranges.proofs.work_ok.Goals as goal

either-is-cond : (x y z w : Bool) → ((x && y) || ((not x && z) && w)) ≡ cond x y (z && w)
either-is-cond true true z w = refl
either-is-cond true false z w = refl
either-is-cond false y z w = refl

pub returns : goal.returns
unfolding work_ok
returns c = either-is-cond (eqb c.kind-kind.result 0) (eqb c.block-block.result 0) (leb c.kind-kind.result 2) (leb first_data_block c.block-block.result)
    ∙ simp (c.block-block.ensures.0, c.kind-kind.ensures)
