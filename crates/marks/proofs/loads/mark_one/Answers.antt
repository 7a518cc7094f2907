-- `marks::loads::mark_one` meets its contract.
use Rattle.std.proofs.Common.{◌+◌, ◌∙◌, arith}
use Rattle.folds.proofs.Numbers.{only_if-byte}
use Rattle.marks.proofs.Single.{one-held, one-load}
use Rattle.marks.proofs.loads.mark_one.Goals as goal

pub returns : goal.returns
returns c =
    let a = c.args in
    let space = c.args.space.now in
    let hit = c.from-hit.ensures ∙ only_if-byte _ in
    let so = one-load a.base a.s (a.block + 1) a.e space.held space.marks (λ z. omega arith) c.from-hit.result hit in
    (so.0, one-held a.base a.s (a.block + 1) a.e space.held space.marks (λ z. omega arith), so.1, omega arith)
