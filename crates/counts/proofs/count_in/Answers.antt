-- A turn adds a plane below the others, and after the lowest the sum is the count.
use Rattle.std.proofs.Common.{List, ℕ, Bool, ◌≡◌, ◌+◌, ◌-◌, ◌≤◌, sym, ap, ap₂, ◌∙◌, arith}
use Rattle.folds.specs.Folds.{sum_where}
use Rattle.bitset.specs.Bits.{member}
use Rattle.bitset.specs.Records.{record_at}
use Rattle.counts.specs.Planes.{sets_of, count_of}
use Rattle.counts.specs.Counted.{most_counted}
use Rattle.counts.proofs.Planes.{sum-none, count-bound, plane-on, counted}
use Rattle.counts.proofs.count_in.Goals as goal

-- what is summed so far is small
few : (c : ℕ) (live : List ℕ) (planes i sum : ℕ) (test : ℕ → Bool) → c ≤ 2 → planes ≤ 4
    → sum ≡ sum_where test (count_of c live i (planes - i)) (sets_of c) → sum ≤ most_counted
few c live planes i sum test caches most is = omega (arith, is, count-bound c live test i (planes - i) caches (omega (arith, most)))

pub loop-i-init : goal.loop-i-init
loop-i-init c =
    let a = c.args in
    let ecb = member (record_at 8 a.ecbs.now a.j) in
    let none : a.planes - a.planes ≡ 0 = omega arith in
    sym (ap (λ (n : ℕ). sum_where ecb (count_of a.caches a.live.now a.planes n) (sets_of a.caches)) none ∙ sum-none a.caches a.live.now ecb a.planes)

pub overflow_mul-sum : goal.overflow_mul-sum
overflow_mul-sum c =
    let a = c.args in
    record { fits = omega (arith, few a.caches a.live.now a.planes c.loop-i.i c.loop-i.sum _ c.requires.1 c.requires.3 c.loop-i.invariant) }

pub overflow_add-sum : goal.overflow_add-sum
overflow_add-sum c =
    let a = c.args in
    record { fits = omega (arith, few a.caches a.live.now a.planes c.loop-i.i c.loop-i.sum _ c.requires.1 c.requires.3 c.loop-i.invariant, c.common.ensures.1) }

pub loop-i-preserved : goal.loop-i-preserved
loop-i-preserved c =
    let a = c.args in
    let i = c.loop-i.i in
    let ecb = member (record_at 8 a.ecbs.now a.j) in
    let next : i ≡ i - 1 + 1 = omega arith in
    plane-on a.caches a.live.now ecb a.planes (i - 1) (omega arith) c.loop-i.sum c.common.result
    (c.loop-i.invariant ∙ ap (λ (i : ℕ). sum_where ecb (count_of a.caches a.live.now i (a.planes - i)) (sets_of a.caches)) next) c.common.ensures.0

pub returns : goal.returns
returns c =
    let a = c.args in
    let ecb = record_at 8 a.ecbs.now a.j in
    let end : c.loop-i.i ≡ 0 = omega arith in
    let all : a.planes - c.loop-i.i ≡ a.planes = omega arith in
    let is = c.loop-i.invariant ∙ ap₂ (λ (i n : ℕ). sum_where (member ecb) (count_of a.caches a.live.now i n) (sets_of a.caches)) end all in (
      counted a.caches a.live.now a.planes ecb c.loop-i.sum is,
      few a.caches a.live.now a.planes c.loop-i.i c.loop-i.sum _ c.requires.1 c.requires.3 c.loop-i.invariant,
    )
