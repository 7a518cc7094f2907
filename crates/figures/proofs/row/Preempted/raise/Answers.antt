-- A turn counts the useful blocks in the sets that the next task of the list evicts: they are no more than the last count.
use Rattle.std.proofs.Common.{List, ℕ, ◌≡◌, ◌<◌, max, get_or, set, refl, sym, ap, subst, ◌∙◌, arith}
use borrow.Author.Tests.{eqb-true}
use Rattle.board.specs.Layout.{core}
use Rattle.bitset.specs.Bits.{member}
use Rattle.bitset.specs.Records.{record_at}
use Rattle.bitset.proofs.Sets.{member-words_of}
use Rattle.counts.specs.Counted.{count_by}
use Rattle.counts.specs.declared.Counts.{Counts}
use Rattle.counts.proofs.Planes.{count_by-cong, count_by-bound}
use Rattle.figures.specs.Overhead.{evicted_by}
use Rattle.figures.specs.Rows.{Evicted}
use Rattle.figures.specs.Higher.{Higher}
use Rattle.figures.proofs.Rows.{count-rise}
use Rattle.figures.proofs.Listed.{walk_start, walk-above, walk-bound, walk_turn, walk_end}
use Rattle.figures.proofs.row.Preempted.raise.Invariants.{reloads_by}
use Rattle.figures.proofs.row.Preempted.raise.Goals as goal

-- the sets that are counted are those that the task evicts
same : (b evicted : List ℕ) (live : Counts) (i j : ℕ) → Evicted b i evicted → j < i
    → count_by live.caches live.words live.planes (member (record_at 8 evicted j)) ≡ reloads_by b live j
same b evicted live i j held h =
    count_by-cong live.caches live.words live.planes _ (evicted_by b j)
    (λ s h'. ap (λ (w : List ℕ). member w s) (held j h) ∙ member-words_of 8 (evicted_by b j) s (omega (arith, h', live.pair)))

pub loop-j-init : goal.loop-j-init
loop-j-init c =
    let p = c.args.self.now in
    let live = c.args.live.now in
    walk_start p.board.now p.index (reloads_by p.board.now live) c.args.row.now _
    (λ j. count_by-bound live.caches live.words live.planes (evicted_by p.board.now j) live.pair live.few)

pub raise_word-most-requires : goal.raise_word-most-requires
raise_word-most-requires c =
    let p = c.args.self.now in
    let live = c.args.live.now in
    let j = get_or c.tasks-j-items.result.now c.loop-j.j-index 0 in
    let list = subst (Higher p.board.now p.index) (sym c.tasks-j-items.ensures) c.requires in
    let above : j < p.index = walk-above p.board.now p.index _ _ _ list c.loop-j.invariant j refl c.loop-j-test.true in (
      omega (arith, above, p.ready.task, p.ready.sound.tasks),
      omega (
        arith,
        same p.board.now p.evicted.now live p.index j p.held above,
        walk-bound p.board.now p.index _ _ _ list c.loop-j.invariant j refl c.loop-j-test.true,
      ),
    )

pub loop-j-preserved : goal.loop-j-preserved
loop-j-preserved c =
    let p = c.args.self.now in
    let b = p.board.now in
    let live = c.args.live.now in
    let j = get_or c.tasks-j-items.result.now c.loop-j.j-index 0 in
    let list = subst (Higher b p.index) (sym c.tasks-j-items.ensures) c.requires in
    let above : j < p.index = walk-above b p.index _ _ _ list c.loop-j.invariant j refl c.loop-j-test.true in
    let counted = same b p.evicted.now live p.index j p.held above in
    let done = c.raise_word-most.ensures in
    walk_turn b p.index (reloads_by b live) c.args.row.now _ list c.loop-j.invariant j refl c.loop-j-test.true
    (λ j k h on on'.
    count-rise b live.caches live.words live.planes j k h (sym (eqb-true (core b p.index) (core b j) on) ∙ eqb-true (core b p.index) (core b k) on'))
    (done.0 ∙ ap (λ (x : ℕ). set c.loop-j.row j (max (get_or c.loop-j.row j 0) x)) counted) (omega (arith, done.1, counted))

pub returns : goal.returns
returns c =
    let p = c.args.self.now in
    walk_end p.board.now p.index _ c.args.row.now _ (subst (Higher p.board.now p.index) (sym c.tasks-j-items.ensures) c.requires) c.loop-j.invariant (omega arith)
