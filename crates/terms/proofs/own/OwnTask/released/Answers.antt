-- `terms::own::OwnTask::released` meets its contract.
use native.Mathlib.Omega.{arith}
use Rattle.sums.specs.Sums.{own_accesses, higher_work}
use Rattle.sums.specs.Limits.{most_demand, most_releases}
use Rattle.sums.proofs.Numbers.{product-bound}
use Rattle.linked_tasks.proofs.Along.{along-start, along-less, along-turn, along-end}
use Rattle.terms.proofs.Releases.{own_costs-last, accesses-few, work-little}
use Rattle.terms.proofs.own.OwnTask.released.Goals as goal

pub loop-next-init : goal.loop-next-init
loop-next-init c = record { accesses = along-start _ _ _ _ c.above-next.ensures; work = along-start _ _ _ _ c.above-next.ensures }

pub with_task-sums-requires-clause-accesses_le_most_own_accesses : goal.with_task-sums-requires-clause-accesses_le_most_own_accesses
with_task-sums-requires-clause-accesses_le_most_own_accesses c =
    (accesses-few _ _ _ _ c.args.self.now.rows c.loop-next.invariant.accesses, work-little _ _ _ _ c.args.self.now.rows c.loop-next.invariant.work)

pub loop-next-smaller : goal.loop-next-smaller
loop-next-smaller c = along-less _ _ _ _ c.loop-next.invariant.accesses c.in-Some.is c.above-next-in-Some.ensures

pub loop-next-preserved : goal.loop-next-preserved
loop-next-preserved c =
    let l = c.loop-next.invariant in
    let added = c.with_task-sums.ensures in
    record {
      accesses = along-turn _ _ _ _ l.accesses c.in-Some.is c.above-next-in-Some.ensures added.accesses_value;
      work = along-turn _ _ _ _ l.work c.in-Some.is c.above-next-in-Some.ensures added.work_value;
    }

pub overflow_add-result : goal.overflow_add-result
overflow_add-result c =
    omega (
      arith,
      accesses-few _ _ _ _ c.args.self.now.rows c.loop-next.invariant.accesses,
      product-bound {x = c.own_releases.result} {y = c.demand.result} most_releases most_demand (omega arith) (omega arith),
    )

pub returns-clause-accesses_value : goal.returns-clause-accesses_value
unfolding own_accesses
returns-clause-accesses_value c =
    own_costs-last _ _ _ _ (along-end _ _ _ _ c.loop-next.invariant.accesses c.in_default.is) c.own_releases.ensures.0 c.demand.ensures.0

pub returns-clause-work_value : goal.returns-clause-work_value
unfolding higher_work
returns-clause-work_value c = along-end _ _ _ _ c.loop-next.invariant.work c.in_default.is
