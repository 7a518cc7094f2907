-- A turn fills one record more.
use Rattle.std.proofs.Common.{List, ℕ, ap, sym, ◌∙◌}
use Rattle.folds.proofs.Lists.{fill_to-none}
use Rattle.folds.proofs.Loops.{fill_to-turn}
use Rattle.figures.specs.Figures.{figure_of}
use Rattle.table.proofs.fill.Goals as goal

pub loop-k-init : goal.loop-k-init
loop-k-init c = sym (fill_to-none (figure_of c.args.board.now) c.args.table.now)

pub of-requires : goal.of-requires
of-requires c = (c.requires.0.ready c.loop-k.k c.loop-k-test.true).sound

pub loop-k-preserved : goal.loop-k-preserved
loop-k-preserved c =
    fill_to-turn (figure_of c.args.board.now) c.args.table.now c.loop-k.k c.loop-k.invariant
    (c.figure_at.ensures ∙ ap (λ (b : List ℕ). figure_of b c.loop-k.k) c.of.ensures)
