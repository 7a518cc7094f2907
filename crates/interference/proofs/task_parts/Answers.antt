-- `interference::task_parts` meets its contract: the parts add up to the sum, so that the refreshes are what the other five leave of it.
use Prim.Native.Nat.{ℕ, ◌+◌, ◌*◌, ◌^◌, ◌≤◌, ◌<◌}
use mathlib.Core.List.{List}
use mathlib.Core.Path.{◌≡◌, ap}
use native.Mathlib.Omega.{arith}
use Rattle.board.specs.Layout.{access_cycles}
use Rattle.figures.specs.Figures.{task_pd}
use Rattle.sums.specs.Sums.{task_sum}
use Rattle.sums.specs.SixParts.{refresh_part, total}
use Rattle.sums.proofs.Numbers.{product-cong}
use Rattle.sums.proofs.Bounds.{task_sum-bound}
use Rattle.interference.specs.declared.Counted.{Counted}
use Rattle.interference.specs.declared.SumParts.{SumParts}
use Rattle.interference.specs.Parts.{counts_of, listed, sum_parts}
use Rattle.interference.proofs.Parts.{total-listed, sum_parts-is, counted-parts}
use Rattle.interference.proofs.task_parts.Goals.{After-from-d}
use Rattle.interference.proofs.task_parts.Goals as goal

-- the five parts that are computed, with no refreshes
abbrev five : ℕ → ℕ → Counted → SumParts
five pd d counts =
    record {
      own_work = pd;
      higher_work = counts.higher_work;
      core_accesses = counts.core_accesses * d;
      other_accesses = counts.other_accesses * d;
      blocking_access = d;
      refreshes = 0;
    }

module _ (b R : List ℕ) (i pd d : ℕ) (counts : Counted) (work : pd ≡ task_pd b i) (counted : counts ≡ counts_of b R i) (cycles : d ≡ access_cycles b) where
  higher : counts.higher_work ≡ (counts_of b R i).higher_work
  higher = ap (λ (c : Counted). c.higher_work) counted

  core : counts.core_accesses * d ≡ (counts_of b R i).core_accesses * access_cycles b
  core = product-cong (ap (λ (c : Counted). c.core_accesses) counted) cycles

  others : counts.other_accesses * d ≡ (counts_of b R i).other_accesses * access_cycles b
  others = product-cong (ap (λ (c : Counted). c.other_accesses) counted) cycles

  left : total (listed (five pd d counts)) + refresh_part b R i ≡ task_sum b R i
  left = omega (arith, total-listed (five pd d counts), work, higher, core, others, cycles, counted-parts b R i)

  whole : {rest : ℕ} → rest ≡ refresh_part b R i → record (five pd d counts) { refreshes = rest } ≡ sum_parts b R i
  whole rest = sum_parts-is b R i work higher core others cycles rest

-- they and the refreshes are the sum, which fits
record Known (pd d sum refreshes : ℕ) (counts : Counted) : Type 0 where
  core : counts.core_accesses * d ≤ sum
  others : counts.other_accesses * d ≤ sum
  left : total (listed (five pd d counts)) + refreshes ≡ sum
  fits : sum < 2 ^ 64

known : (c : After-from-d) → let a = c.args in Known a.pd c.from-d.result a.sum (refresh_part a.board.now a.times.now a.i) a.counts
known c =
    let h = c.requires in
    let a = c.args in
    let all = left a.board.now a.times.now a.i a.pd c.from-d.result a.counts h.2 h.4 (omega arith) in
    let parts = total-listed (five a.pd c.from-d.result a.counts) in
    record {
      core = omega (arith, all, parts, h.3);
      others = omega (arith, all, parts, h.3);
      left = omega (arith, all, h.3);
      fits = omega (arith, h.3, task_sum-bound a.board.now a.times.now c.sound.ensures h.0 a.i h.1);
    }

pub overflow_mul-five : goal.overflow_mul-five
overflow_mul-five c = omega (arith, known (goal.at.overflow_mul-five c).After-from-d)

pub overflow_mul-five-2 : goal.overflow_mul-five-2
overflow_mul-five-2 c = omega (arith, known (goal.at.overflow_mul-five-2 c).After-from-d)

pub add_parts-requires : goal.add_parts-requires
add_parts-requires c = omega (arith, known (goal.at.add_parts-requires c).After-from-d)

pub overflow_sub-result : goal.overflow_sub-result
overflow_sub-result c = omega (arith, c.add_parts.ensures, known (goal.at.overflow_sub-result c).After-from-d)

pub returns : goal.returns
returns c = whole _ _ _ _ _ _ c.requires.2 c.requires.4 (omega arith) (omega (arith, c.add_parts.ensures, known (goal.at.returns c).After-from-d))
