-- `sum` is the count over the first k words.
use Rattle.std.proofs.Common.{ℕ, ◌≡◌, ◌≤◌, ◌*◌, ◌&&◌}
use Rattle.folds.specs.Folds.{count_to}
use Rattle.bitset.specs.Bits.{member}
use Rattle.bitset.specs.Records.{record_at}
use Rattle.bitset.proofs.count_both.Given as goal

abbrev pub invariant-loop-k : goal.invariant-loop-k
invariant-loop-k l =
    (l.sum ≡ count_to (λ (s : ℕ). member (record_at 4 l.a l.i) s && member (record_at 4 l.b l.j) s) (64 * l.k)) × (l.sum ≤ 64 * l.k)
