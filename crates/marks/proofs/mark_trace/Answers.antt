-- `marks::mark_trace` meets its contract.
use Rattle.std.proofs.Common.{List, ℕ, ◌+◌, ◌*◌, ◌≤◌, ◌<◌, ◌≡◌, arith, rules, sym, ap, subst, ◌∙◌}
use Rattle.folds.specs.Folds.{count_to}
use Rattle.folds.proofs.Folds.{count_to-none, count_to-bound}
use Rattle.board.specs.Layout.{memory, ways, kind_of, block_of, first_data_block}
use Rattle.board.specs.Sound.{Sound}
use Rattle.entries.specs.Marks.{Marked}
use Rattle.trace.specs.Cache.{place_of}
use Rattle.trace.specs.Caches.{CachesOf}
use Rattle.trace.specs.Positions.{load_at, touches}
use Rattle.trace.specs.Traces.{Trace, writes}
use Rattle.trace.proofs.Counts.{trace_md-cached}
use Rattle.trace.proofs.Places.{fetch-bound, kind-bound, data_block_placed}
use Rattle.marks.proofs.Evicting.{added, added_none, added-turn}
use Rattle.marks.proofs.Turns.{misses, scan-start, touches-parts, turn-scan, turn-count, evict-words}
use Rattle.marks.proofs.mark_trace.Goals as goal

-- the number of accesses is small
small : (t : Trace) (w p : ℕ) → count_to (misses t w) (2 * p) + count_to (writes t) p ≤ 3 * p
small t w p = omega (arith, count_to-bound (misses t w) (2 * p), count_to-bound (writes t) p)

pub loop-p-init : goal.loop-p-init
loop-p-init c =
    let t : Trace = c.args.trace.now in
    let space = c.args.space.now in
    let caches = subst (λ (b : List ℕ). CachesOf b c.of-caches.result.of_code c.of-caches.result.of_data) (sym c.requires.0) c.of-caches.ensures in
    let narrow : ways t.words ≤ 8 = omega (arith, caches.code_ways, c.of-caches.result.of_code.narrow) in (
      omega (arith, count_to-none (misses t (ways t.words)), count_to-none (writes t)),
      added_none (touches t (place_of t.words)) c.args.ecb.now (search rules) (search rules),
      scan-start t c.args.base _ _ caches space.held space.marks (omega (arith, space.room)) narrow (omega (arith, space.positions)) c.requires.2,
    )

pub mark_load-n-requires : goal.mark_load-n-requires
mark_load-n-requires c =
    let t : Trace = c.args.trace.now in
    let sound : Sound t.words = subst Sound (sym c.requires.0) c.sound.ensures in (
      omega arith,
      omega (arith, c.fetch-block.ensures, fetch-bound _ _ _ sound c.lies.ensures c.loop-p.p (omega arith)),
    )

pub overflow_add-n : goal.overflow_add-n
overflow_add-n c =
    let t : Trace = c.args.trace.now in
    record { fits = omega (arith, c.loop-p.invariant.0, small t (ways t.words) c.loop-p.p, c.mark_load-n.ensures.4) }

pub mark_data-n-requires : goal.mark_data-n-requires
mark_data-n-requires c =
    let t : Trace = c.args.trace.now in
    let sound : Sound t.words = subst Sound (sym c.requires.0) c.sound.ensures in
    (omega arith, omega (arith, ap kind_of c.work-w.ensures, kind-bound _ _ _ sound c.lies.ensures c.loop-p.p (omega arith)))

pub overflow_add-n-in-loop-p : goal.overflow_add-n-in-loop-p
overflow_add-n-in-loop-p c =
    let t : Trace = c.args.trace.now in
    record { fits = omega (arith, c.loop-p.invariant.0, small t (ways t.words) c.loop-p.p, c.mark_load-n.ensures.4, c.mark_data-n.ensures.4) }

pub loop-p-preserved : goal.loop-p-preserved
loop-p-preserved c =
    let l = c.loop-p in
    let p = c.loop-p.p in
    let t : Trace = c.args.trace.now in
    let sound : Sound t.words = subst Sound (sym c.requires.0) c.sound.ensures in
    let code = c.of-caches.result.of_code in
    let datum = c.of-caches.result.of_data in
    let caches = subst (λ (b : List ℕ). CachesOf b code datum) (sym c.requires.0) c.of-caches.ensures in
    let block = c.fetch-block in
    let word = c.work-w in
    let less : p < t.len = omega arith in
    let low : block.result < first_data_block = omega (arith, block.ensures, fetch-bound _ _ _ sound c.lies.ensures p less) in
    let high : 1 ≤ kind_of word.result → first_data_block ≤ block_of word.result =
    subst (λ (w : ℕ). 1 ≤ kind_of w → first_data_block ≤ block_of w) (sym word.ensures) (data_block_placed _ _ _ sound c.lies.ensures p less) in
    let short : 2 * p + 1 < 2048 = omega arith in
    let is = c.mark_load-n.ensures in
    let is' = c.mark_data-n.ensures in (
      turn-count t c.args.base code datum caches p block.result word.result low high short block.ensures word.ensures l.space.held _ _ l.space.marks _ _ _ _
          is.1 is.2 is.0 is'.1 is'.2 is'.0 l.invariant.2 l.n l.invariant.0,
      added-turn (touches t (place_of t.words)) c.args.ecb.now l.ecb _ _ p _ _ l.invariant.1 is.3 is'.3
          (touches-parts t c.args.base code datum caches p block.result word.result low high short block.ensures word.ensures),
      turn-scan t c.args.base code datum caches p block.result word.result low high short block.ensures word.ensures l.space.held _ _ l.space.marks _ _ _ _
          is.1 is.2 is.0 is'.1 is'.2 is'.0 l.invariant.2,
    )

pub returns : goal.returns
returns c =
    let l = c.loop-p in
    let t : Trace = c.args.trace.now in
    let sound : Sound t.words = subst Sound (sym c.requires.0) c.sound.ensures in
    let cached : 2 ≤ memory t.words = subst (λ (b : List ℕ). 2 ≤ memory b) (sym c.requires.0) (omega (arith, c.requires.1)) in
    let end : l.p ≡ t.len = omega arith in (
      l.invariant.0 ∙ ap (λ (p : ℕ). count_to (misses t (ways t.words)) (2 * p) + count_to (writes t) p) end ∙ trace_md-cached t cached,
      subst (λ (b : List ℕ). Marked (place_of b) (ways b) (load_at t) l.space.marks (2 * t.len)) c.requires.0
          (subst (λ (p : ℕ). Marked (place_of t.words) (ways t.words) (load_at t) l.space.marks (2 * p)) end l.invariant.2.3),
      l.invariant.1 ∙ ap (added (touches t (place_of t.words)) c.args.ecb.now) end
          ∙ evict-words t c.args.ecb.now cached (kind-bound _ _ _ sound c.lies.ensures),
      l.invariant.2.4,
    )
