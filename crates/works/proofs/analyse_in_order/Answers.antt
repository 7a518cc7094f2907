-- What no refusal means, and what is promised of a settled board.
use Rattle.std.proofs.Common.{sym, ◌∙◌}
use Rattle.checks.proofs.Accepted.{in-order-taken}
use Rattle.works.proofs.Promised.{by-refusal, counted, analysed-in-order}
use Rattle.works.proofs.analyse_in_order.Goals as goal

pub settle-requires : goal.settle-requires
settle-requires c passed = let t = in-order-taken _ _ _ _ _ (sym c.check_in_order-verdict.ensures ∙ passed) in (t.analyse.analysable, t.permuted)

pub returns : goal.returns
returns c =
    let s = by-refusal c.check_in_order-verdict.ensures c.settle.ensures in
    (counted s (λ passed. (in-order-taken _ _ _ _ _ passed).analyse.table), analysed-in-order s)
