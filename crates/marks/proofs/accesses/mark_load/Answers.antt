-- `marks::accesses::mark_load` meets its contract.
use Rattle.std.proofs.Common.{ℕ, ◌+◌, ◌||◌, ◌≡◌, eqb, sym, ap, ap₂, ◌∙◌}
use Rattle.bitset.specs.Bits.{member, words_of}
use Rattle.entries.specs.Marks.{position_held, position_marks, position_missed}
use Rattle.trace.specs.Caches.{place_in}
use Rattle.marks.proofs.Touched.{touch-words}
use Rattle.marks.proofs.accesses.mark_load.Goals as goal

pub returns-then-cache-eq1 : goal.returns-then-cache-eq1
returns-then-cache-eq1 c =
    let a = c.args in
    let space = c.args.space.now in
    let way : 1 ≡ a.cache.ways = sym c.if-cache-eq1.true in
    let s : c.place_of-s.result ≡ place_in a.cache a.block = c.place_of-s.ensures.0 in
    let is = c.mark_one.ensures in (
      is.0 ∙ ap₂ (λ (w k : ℕ). position_missed a.base w k (a.block + 1) space.held) way s,
      is.1 ∙ ap₂ (λ (w k : ℕ). position_held a.base w k (a.block + 1) a.e space.held) way s,
      is.2 ∙ ap₂ (λ (w k : ℕ). position_marks a.base w k (a.block + 1) a.e space.held space.marks) way s,
      c.add_to.ensures ∙ touch-words a.ecb.now _ ∙ ap (λ (k : ℕ). words_of 8 (λ t. member a.ecb.now t || eqb k t)) s,
      is.3,
    )

pub returns-else-cache-eq1 : goal.returns-else-cache-eq1
returns-else-cache-eq1 c =
    let a = c.args in
    let space = c.args.space.now in
    let s : c.place_of-s.result ≡ place_in a.cache a.block = c.place_of-s.ensures.0 in
    let is = c.mark_ways.ensures in (
      is.0 ∙ ap (λ (k : ℕ). position_missed a.base a.cache.ways k (a.block + 1) space.held) s,
      is.1 ∙ ap (λ (k : ℕ). position_held a.base a.cache.ways k (a.block + 1) a.e space.held) s,
      is.2 ∙ ap (λ (k : ℕ). position_marks a.base a.cache.ways k (a.block + 1) a.e space.held space.marks) s,
      c.add_to.ensures ∙ touch-words a.ecb.now _ ∙ ap (λ (k : ℕ). words_of 8 (λ t. member a.ecb.now t || eqb k t)) s,
      is.3,
    )
