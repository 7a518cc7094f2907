-- `settling::late::first_late` meets its contract.
use Rattle.std.proofs.Common.{◌≡◌, arith, rules, tests, true, false}
use Rattle.std.proofs.lemmas.Iterator.{first_from_Range}
use Rattle.std.proofs.lemmas.List.{get_or_read}
use Rattle.passes.specs.Passes.{is_late}
use Rattle.one_pass.specs.System.{system}
use Rattle.settling.proofs.Delivered.{late_task-is}
use Rattle.settling.proofs.late.first_late.Goals as goal

pub returns : goal.returns
returns c =
    let S = system c.args.board.now in
    let R = c.args.times.now in
    late_task-is S R c.requires.0 c.find.result (first_from_Range _ _ _ _ (λ i. is_late S R i ≡ true) (λ i. is_late S R i ≡ false) c.find.ensures.ran
    (λ x q k. grind (arith, tests, get_or_read)) (λ x q k. (search rules, grind (arith, tests, get_or_read))))
