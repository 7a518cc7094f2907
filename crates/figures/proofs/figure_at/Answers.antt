-- `figures::figure_at` meets its contract, field by field.
use mathlib.Core.Path.{◌∙◌}
use Rattle.bitset.proofs.Buffers.{first-half, second-half}
use Rattle.figures.specs.Figures.{evicting, figure_of}
use Rattle.figures.proofs.figure_at.Goals as goal

pub returns : goal.returns
unfolding figure_of
returns c =
    let a = c.args in
    let held = c.requires.0.surveyed in
    let here = held.ecb a.k c.requires.1 in
    λ i. record {
      core = c.core.ensures.0 i;
      period = c.period.ensures.0 i;
      deadline = c.deadline.ensures.0 i;
      pd = held.pd a.k c.requires.1 i;
      md = held.md a.k c.requires.1 i;
      ecb = (c.read.ensures ∙ first-half a.sets.now a.k (evicting a.board.now a.k) here) i;
      data_ecb = (c.read-2.ensures ∙ second-half a.sets.now a.k (evicting a.board.now a.k) here) i;
    }
