-- `records::read` meets its contract: the words of a part of the buffer are those of the record.
use Rattle.std.proofs.Common.{ℕ, ◌+◌, ◌-◌, ◌*◌, ◌≡◌, take, drop, arith, ap, ◌∙◌}
use Rattle.bitset.proofs.Buffers.{record-part}
use Rattle.bitset.proofs.records.read.Goals as goal

pub returns : goal.returns
returns g c =
    let n = g.row.N in
    let at = n * c.args.q in
    let size : at + n - at ≡ n = omega arith in
    c.copy_from_slice.ensures.after ∙ ap (λ (m : ℕ). take m (drop at c.args.buffer.now)) size ∙ record-part n c.args.buffer.now c.args.q c.requires
