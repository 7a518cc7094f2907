-- `demand::accesses_by` meets its contract.
use Rattle.std.proofs.Common.{ℕ, ◌&&◌, leb, eqb, ap, ap₂, ◌∙◌, arith}
use Rattle.folds.specs.Folds.{only_if}
use Rattle.folds.proofs.Numbers.{only_if-bound, only_if-byte}
use Rattle.board.specs.Layout.{kind_of, block_of}
use Rattle.trace.specs.Positions.{accesses}
use Rattle.trace.proofs.demand.accesses_by.Goals as goal

pub returns : goal.returns
unfolding accesses
returns c =
    let a = c.args in
    let kind = c.kind-kind.ensures ∙ ap kind_of c.work-w.ensures in
    let block = c.block.ensures.0 ∙ ap block_of c.work-w.ensures in (
      omega (
        arith,
        c.from-fetched.ensures ∙ only_if-byte (leb a.low c.fetch.result) ∙ ap (λ (m : ℕ). only_if (leb a.low m) 1) c.fetch.ensures,
        c.read_by-read.ensures.0 ∙ ap₂ (λ (k m : ℕ). only_if (eqb k 1 && leb a.high m) 1) kind block,
        c.written_by.ensures.0 ∙ ap (λ (k : ℕ). only_if (eqb k 2) 1) kind,
      ),
      omega (arith, c.from-fetched.ensures ∙ only_if-byte (leb a.low c.fetch.result), only_if-bound (leb a.low c.fetch.result) {a = 1} {m = 1} (omega arith)),
    )
