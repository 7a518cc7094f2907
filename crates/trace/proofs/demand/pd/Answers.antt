-- `demand::pd` meets its contract.
use Rattle.std.proofs.Common.{sym, ap, ◌∙◌, arith}
use Rattle.folds.specs.Folds.{sum_to}
use Rattle.folds.proofs.Folds.{sum_to-none}
use Rattle.folds.proofs.Loops.{at-end, sum_to-turn}
use Rattle.board.specs.Layout.{cycles_of}
use Rattle.trace.specs.Traces.{trace_pd}
use Rattle.trace.proofs.demand.pd.Goals as goal

pub loop-p-init : goal.loop-p-init
loop-p-init c = (omega arith, sym (sum_to-none _))

pub loop-p-preserved : goal.loop-p-preserved
loop-p-preserved c = (omega arith, sum_to-turn _ c.loop-p.p c.loop-p.invariant.1 (c.cycles-sum.ensures.0 ∙ ap cycles_of c.work.ensures))

pub returns : goal.returns
unfolding trace_pd
returns c = at-end (sum_to _) c.loop-p.invariant.1 (omega arith) (omega arith)
