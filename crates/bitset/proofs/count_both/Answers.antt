-- `bitset::count_both` meets its contract.
use Rattle.std.proofs.Common.{ℕ, ◌≡◌, ◌*◌, ◌&&◌, sym, ap, ◌∙◌, arith, rules}
use Rattle.folds.specs.Folds.{count_to}
use Rattle.folds.proofs.Folds.{count_to-none}
use Rattle.bitset.specs.Bits.{member}
use Rattle.bitset.specs.Records.{record_at}
use Rattle.bitset.proofs.Buffers.{both-more}
use Rattle.bitset.proofs.count_both.Goals as goal

pub loop-k-init : goal.loop-k-init
loop-k-init c = (sym (count_to-none _), omega arith)

pub loop-k-preserved : goal.loop-k-preserved
loop-k-preserved c =
    let a = c.args in
    let k = c.loop-k.k in (
      omega (arith, c.loop-k.invariant.0, c.ones_of_both-sum.ensures.0, both-more a.a.now a.b.now a.i a.j k (λ k. search rules) (omega arith)),
      omega arith,
    )

pub returns : goal.returns
returns c =
    let a = c.args in
    let end : 64 * c.loop-k.k ≡ 256 = omega arith in (
      c.loop-k.invariant.0 ∙ ap (count_to (λ (s : ℕ). member (record_at 4 a.a.now a.i) s && member (record_at 4 a.b.now a.j) s)) end,
      omega arith,
    )
