-- `demand::demands_past` meets its contract.
use Rattle.std.proofs.Common.{sym, ap, ◌∙◌, arith}
use Rattle.folds.specs.Folds.{sum_to}
use Rattle.folds.proofs.Folds.{sum_to-none}
use Rattle.folds.proofs.Loops.{at-end, sum_to-turn}
use Rattle.board.specs.Layout.{cycles_of}
use Rattle.trace.specs.Traces.{trace_pd}
use Rattle.trace.proofs.demand.demands_past.Goals as goal

pub loop-p-init : goal.loop-p-init
loop-p-init c = (omega arith, sym (sum_to-none _), omega arith, sym (sum_to-none _))

pub loop-p-preserved : goal.loop-p-preserved
loop-p-preserved c =
    let l = c.loop-p in (
      omega arith,
      sum_to-turn _ l.p l.invariant.1 (c.cycles-pd.ensures.0 ∙ ap cycles_of c.work.ensures),
      omega arith,
      sum_to-turn _ l.p l.invariant.3 c.accesses_by-md.ensures.0,
    )

pub returns : goal.returns
unfolding trace_pd
returns c =
    let l = c.loop-p in
    (at-end (sum_to _) l.invariant.3 (omega arith) (omega arith), at-end (sum_to _) l.invariant.1 (omega arith) (omega arith))
