-- `counts::common` meets its contract: four words for each cache.
use Prim.Native.Nat.{ℕ, ◌+◌, ◌*◌}
use mathlib.Core.Bool.{◌&&◌}
use mathlib.Core.List.{List}
use mathlib.Core.Path.{◌≡◌, sym, ap, ap₂, ◌∙◌}
use native.Mathlib.Omega.{arith}
use Rattle.folds.specs.Folds.{count_to}
use Rattle.bitset.specs.Bits.{member}
use Rattle.bitset.specs.Records.{record_at}
use Rattle.counts.proofs.Planes.{plane_common, common-one, common-two}
use Rattle.counts.proofs.common.Goals as goal

-- what the four words from 4q on have in common with those from 4k on
abbrev both : List ℕ → ℕ → List ℕ → ℕ → ℕ
both a q b k = count_to (λ s. member (record_at 4 a q) s && member (record_at 4 b k) s) 256

-- the caches are as many as n
back : (c n r : ℕ) (live : List ℕ) (i : ℕ) (ecbs : List ℕ) (j : ℕ) → c ≡ n → r ≡ plane_common n live i ecbs j → r ≡ plane_common c live i ecbs j
back c n r live i ecbs j e is = is ∙ ap (λ (k : ℕ). plane_common k live i ecbs j) (sym e)

pub overflow_mul-at : goal.overflow_mul-at
overflow_mul-at c = omega (arith, c.requires.2)

pub returns-then-caches-eq1 : goal.returns-then-caches-eq1
returns-then-caches-eq1 c =
    let a = c.args in
    let single : a.caches ≡ 1 = omega (arith, c.requires.0, c.if-caches-eq1.true) in (
      back a.caches 1 _ a.live.now a.i a.ecbs.now a.j single
          (c.count_both-first.ensures.0 ∙ ap₂ (λ (q k : ℕ). both a.live.now q a.ecbs.now k) (ap (λ (k : ℕ). a.i * k) single) (omega arith)
          ∙ common-one a.live.now a.i a.ecbs.now a.j),
      omega (arith, c.count_both-first.ensures.1),
    )

pub returns : goal.returns
returns c =
    let a = c.args in
    let pair : a.caches ≡ 2 = omega (arith, c.requires.0, c.requires.1, c.if-caches-eq1.false) in (
      back a.caches 2 _ a.live.now a.i a.ecbs.now a.j pair
          (common-two a.live.now a.i a.ecbs.now a.j _ _
          (c.count_both-first.ensures.0 ∙ ap₂ (λ (q k : ℕ). both a.live.now q a.ecbs.now k) (ap (λ (k : ℕ). a.i * k) pair) (omega arith))
          (c.count_both.ensures.0 ∙ ap₂ (λ (q k : ℕ). both a.live.now q a.ecbs.now k) (ap (λ (k : ℕ). a.i * k + 1) pair) (omega arith))),
      omega (arith, c.count_both-first.ensures.1, c.count_both.ensures.1),
    )
