-- What no refusal means, and what is promised of a settled board.
use Rattle.std.proofs.Common.{sym, ◌∙◌}
use Rattle.checks.proofs.Accepted.{analyse-taken}
use Rattle.works.proofs.Promised.{by-refusal, counted, analysed}
use Rattle.works.proofs.analyse.Goals as goal

pub settle-requires : goal.settle-requires
settle-requires c passed = ((analyse-taken _ _ _ _ (sym c.check_analyse-verdict.ensures ∙ passed)).analysable, tt)

pub returns : goal.returns
returns c =
    let s = by-refusal c.check_analyse-verdict.ensures c.settle.ensures in
    (counted s (λ passed. (analyse-taken _ _ _ _ passed).table), analysed s)
