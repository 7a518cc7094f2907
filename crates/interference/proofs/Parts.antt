-- A sum by its parts.
-- Assumes nothing.
use Prim.Native.Nat.{ℕ, ◌+◌, ◌*◌}
use mathlib.Core.List.{List}
use mathlib.Core.Path.{◌≡◌, refl, ap, ◌∙◌}
use native.Mathlib.Omega.{arith}
use Rattle.std.specs.Prelude.{sum}
use Rattle.folds.specs.Folds.{sum_to}
use Rattle.board.specs.Layout.{bus, access_cycles}
use Rattle.figures.specs.Figures.{task_pd}
use Rattle.sums.specs.Sums.{own_accesses, interference, higher_work, task_sum}
use Rattle.sums.specs.SixParts.{own_work, own_access_part, blocking_part, refresh_part, six_parts, total}
use Rattle.sums.proofs.SixParts.{interference_part-is, task_sum-parts}
use Rattle.interference.specs.declared.SumParts.{SumParts}
use Rattle.interference.specs.Parts.{sum_parts, listed}

-- the numbers of a struct added up
pub total-listed : (p : SumParts) → p.own_work + p.higher_work + p.core_accesses + p.other_accesses + p.blocking_access + p.refreshes ≡ total (listed p)
unfolding total sum_to
total-listed p = omega arith

pub sum-listed : (p : SumParts) → sum (listed p) ≡ total (listed p)
unfolding total sum_to
sum-listed p = omega arith

-- part by part
pub parts_are : {p q : SumParts} → p.own_work ≡ q.own_work → p.higher_work ≡ q.higher_work → p.core_accesses ≡ q.core_accesses → p.other_accesses ≡ q.other_accesses → p.blocking_access ≡ q.blocking_access
    → p.refreshes ≡ q.refreshes → p ≡ q
parts_are work higher own others blocking refresh =
    λ k. record { own_work = work k; higher_work = higher k; core_accesses = own k; other_accesses = others k; blocking_access = blocking k; refreshes = refresh k }

module _ (b R : List ℕ) (i : ℕ) where
  pub sum_parts-is : {p : SumParts} → p.own_work ≡ own_work b R i → p.higher_work ≡ higher_work b R i → p.core_accesses ≡ own_access_part b R i
      → p.other_accesses ≡ interference b R i (bus b) * access_cycles b → p.blocking_access ≡ blocking_part b R i → p.refreshes ≡ refresh_part b R i → p ≡ sum_parts b R i
  unfolding sum_parts
  sum_parts-is work higher own others blocking refresh = parts_are work higher own (others ∙ interference_part-is b R i) blocking refresh

  -- as a list
  pub listed-parts : listed (sum_parts b R i) ≡ six_parts b R i
  unfolding sum_parts six_parts
  listed-parts = refl

  -- and added up
  pub sum_parts-add : {p : SumParts} → p ≡ sum_parts b R i → total (listed p) ≡ task_sum b R i
  sum_parts-add e = ap (λ (p : SumParts). total (listed p)) e ∙ ap total listed-parts ∙ task_sum-parts b R i

  -- as the counts of a sum give them
  pub counted-parts : task_pd b i + higher_work b R i + own_accesses b R i * access_cycles b + interference b R i (bus b) * access_cycles b + access_cycles b + refresh_part b R i
      ≡ task_sum b R i
  unfolding sum_parts
  counted-parts = omega (arith, total-listed (sum_parts b R i), sum_parts-add {p = sum_parts b R i} refl, interference_part-is b R i)
