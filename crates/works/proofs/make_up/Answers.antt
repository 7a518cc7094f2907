-- What no refusal means, and what is promised of a settled board.
use Rattle.std.proofs.Common.{sym, ◌∙◌}
use Rattle.checks.proofs.Accepted.{make-up-taken}
use Rattle.settle.proofs.Settled.{ready_with}
use Rattle.works.proofs.Promised.{by-refusal, counted, made-up-all}
use Rattle.works.proofs.make_up.Goals as goal

pub settle-answer-requires : goal.settle-answer-requires
settle-answer-requires c passed = ((make-up-taken _ _ _ _ _ (sym c.check_make_up-verdict.ensures ∙ passed)).analyse.analysable, tt)

pub made_up-requires : goal.made_up-requires
made_up-requires c = ready_with _ c.settle-answer.ensures (λ passed. (make-up-taken _ _ _ _ _ (sym c.check_make_up-verdict.ensures ∙ passed)).task)

pub returns : goal.returns
returns c =
    let s = by-refusal c.check_make_up-verdict.ensures c.settle-answer.ensures in
    (counted s (λ passed. (make-up-taken _ _ _ _ _ passed).analyse.table), made-up-all s c.made_up.ensures)
