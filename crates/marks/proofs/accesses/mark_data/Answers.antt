-- `marks::accesses::mark_data` meets its contract.
use Rattle.std.proofs.Common.{ℕ, Bool, ◌+◌, ◌≡◌, eqb, ap, ap₂, ◌∙◌, arith, rules}
use borrow.Author.Tests.{eq-eqb, ne_eqb}
use Rattle.folds.specs.Folds.{only_if}
use Rattle.board.specs.Layout.{kind_of, block_of}
use Rattle.entries.specs.Marks.{position_held, position_marks, position_missed}
use Rattle.trace.specs.Caches.{place_in}
use Rattle.marks.specs.Accesses.{load_of, data_touches}
use Rattle.marks.proofs.Steps.{idle-held, idle-marks, idle-missed, read_none, read-load}
use Rattle.marks.proofs.Touched.{join-none, touch-words, touch-data}
use Rattle.marks.proofs.accesses.mark_data.Goals as goal

-- whether a work word writes, by its kind
not_written : (w : ℕ) → (kind_of w ≡ 2 → ⊥) → only_if (eqb (kind_of w) 2) 1 ≡ 0
not_written w n = ap (λ (b : Bool). only_if b 1) (ne_eqb (kind_of w) 2 n)

pub returns-in-0 : goal.returns-in-0
returns-in-0 c =
    let a = c.args in
    let space = c.args.space.now in
    let ways = a.cache.ways in
    let s = place_in a.cache (block_of a.w) in
    let kind : kind_of a.w ≡ 0 = omega arith in
    let idle : load_of a.w ≡ 0 = read_none a.w (λ k. omega (arith, k, kind)) in (
      omega (arith, not_written a.w (λ k. omega (arith, k, kind)), idle-missed a.base ways s (load_of a.w) a.e space.held space.marks idle),
      idle-held a.base ways s (load_of a.w) a.e space.held space.marks idle,
      idle-marks a.base ways s (load_of a.w) a.e space.held space.marks idle,
      join-none a.ecb.now (data_touches a.cache a.w) (search rules) (search rules) (λ s. rw (eq-eqb (kind_of a.w) 0 kind)),
      omega arith,
    )

pub returns-in-1 : goal.returns-in-1
returns-in-1 c =
    let a = c.args in
    let space = c.args.space.now in
    let ways = a.cache.ways in
    let block = c.block in
    let kind : kind_of a.w ≡ 1 = omega arith in
    let own : place_in a.cache block.result ≡ place_in a.cache (block_of a.w) = ap (place_in a.cache) block.ensures.0 in
    let load : block.result + 1 ≡ load_of a.w = ap (λ (m : ℕ). m + 1) block.ensures.0 ∙ read-load a.w kind in
    let is = c.mark_load.ensures in (
      omega (arith, not_written a.w (λ k. omega (arith, k, kind)), is.0, ap₂ (λ (k x : ℕ). position_missed a.base ways k x space.held) own load),
      is.1 ∙ ap₂ (λ (k x : ℕ). position_held a.base ways k x a.e space.held) own load,
      is.2 ∙ ap₂ (λ (k x : ℕ). position_marks a.base ways k x a.e space.held space.marks) own load,
      is.3 ∙ touch-data a.ecb.now a.cache a.w own (λ k. omega (arith, k, kind)),
      is.4,
    )

pub returns-in_default : goal.returns-in_default
returns-in_default c =
    let s = c.place_of in
    let a = c.args in
    let space = c.args.space.now in
    let ways = a.cache.ways in
    let set = place_in a.cache (block_of a.w) in
    let kind : kind_of a.w ≡ 2 = omega arith in
    let idle : load_of a.w ≡ 0 = read_none a.w (λ k. omega (arith, k, kind)) in
    let written : only_if (eqb (kind_of a.w) 2) 1 ≡ 1 = ap (λ (b : Bool). only_if b 1) (eq-eqb (kind_of a.w) 2 kind) in (
      omega (arith, written, idle-missed a.base ways set (load_of a.w) a.e space.held space.marks idle),
      idle-held a.base ways set (load_of a.w) a.e space.held space.marks idle,
      idle-marks a.base ways set (load_of a.w) a.e space.held space.marks idle,
      c.add_to.ensures ∙ touch-words a.ecb.now s.result
          ∙ touch-data a.ecb.now a.cache a.w (s.ensures.0 ∙ ap (place_in a.cache) c.block-in_default.ensures.0) (λ k. omega (arith, k, kind)),
      omega arith,
    )
