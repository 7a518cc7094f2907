-- `scan::scan_trace` meets its contract.
use Rattle.std.proofs.Common.{Some, option_map, refl, ℕ, ◌+◌, ◌*◌, ◌<◌, ◌≤◌, ◌≡◌, List, max, ◌||◌, get_or, arith, sym, ap, subst, ◌∙◌}
use lib.Dec.{eqb}
use Rattle.folds.specs.Folds.{only_if}
use Rattle.folds.proofs.Numbers.{only_if-zero}
use Rattle.folds.proofs.Lists.{fill_to-cong}
use Rattle.bitset.specs.Bits.{member, words_of}
use Rattle.board.specs.Layout.{memory, core, cache_count, ways}
use Rattle.lru_cache.proofs.Positions.{useful-start}
use Rattle.counts.specs.Planes.{sets_of}
use Rattle.entries.specs.Marks.{Marked, AllEarlier, base_of}
use Rattle.trace.specs.Positions.{load_at}
use Rattle.trace.specs.Cache.{place_of}
use Rattle.trace.specs.Traces.{Trace, trace_of, trace_pd, trace_md, evicts, most_useful}
use Rattle.trace.specs.Places.{Lies, trace_at}
use Rattle.trace.proofs.Sets.{evicts-plain, most_useful-plain}
use Rattle.trace.proofs.Starts.{starts-lies, starts-trace}
use Rattle.marks.proofs.Touched.{join-none}
use Rattle.figures.specs.Overhead.{evicted_by}
use Rattle.figures.proofs.Rows.{raised-none, row-stays, row-absent}
use Rattle.scan.proofs.Marked.{marked-turning, marked-levels, before, place-few, most-useful}
use Rattle.scan.proofs.scan_trace.Goals as goal
use Rattle.scan.proofs.scan_trace.Goals.{in-Some, in_default}

pub at-trace-requires : goal.at-trace-requires
at-trace-requires c =
    subst (λ (w : List ℕ). Lies w c.args.at.start c.trace_length-len.result) (sym c.words.ensures)
    (starts-lies _ _ _ c.requires.0 _ c.trace_length-len.ensures.0)

-- the trace at hand is the one that the cursor stands at
at_hand : (b w : List ℕ) (start len : ℕ) (t : Trace) → w ≡ b → t ≡ trace_at w start len → t ≡ trace_at b start len
at_hand b w start len t whole is = is ∙ ap (λ (w : List ℕ). trace_at w start len) whole

-- and the marks are those of that trace
marks-at_hand : (b : List ℕ) (start len : ℕ) (t : Trace) (marks : List ℕ) → t ≡ trace_at b start len → Marked (place_of b) (ways b) (load_at t) marks (2 * t.len)
    → Marked (place_of b) (ways b) (load_at (trace_at b start len)) marks (2 * len)
marks-at_hand b start len t marks is = subst (λ (u : Trace). Marked (place_of b) (ways b) (load_at u) marks (2 * u.len)) is

pub returns-then-cache_count-eq0 : goal.returns-then-cache_count-eq0
unfolding trace_of
returns-then-cache_count-eq0 c =
    let b = c.args.task.now.board.now in
    let i = c.args.task.now.index in
    let t : Trace = trace_of b c.args.at.trace in
    let here = at_hand _ _ _ _ _ c.words.ensures c.at-trace.ensures ∙ starts-trace _ _ _ c.requires.0 _ c.trace_length-len.ensures.0 in
    let uncached : memory b < 2 = omega (arith, c.if-cache_count-eq0.true, c.cache_count.ensures.0) in
    record {
      pd = c.uncached.ensures.1 ∙ ap trace_pd here;
      md = c.uncached.ensures.0 ∙ ap trace_md here;
      joined = join-none c.args.ecb.now (evicts t) c.told-ecb (λ k. record { fits = c.fits-ecb k }) (evicts-plain t uncached);
      higher = row-stays _ c.args.row.now (λ l. raised-none _ i l (λ j h. only_if-zero (eqb (core b i) (core b j)) _ (most_useful-plain t uncached (evicted_by b j))));
      later = λ j. omega (arith, c.requires.1 j);
    }

pub raise_points-requires : goal.raise_points-requires
raise_points-requires c =
    let b = c.args.task.now.board.now in
    let sound = c.args.task.now.ready.sound in
    let t : Trace = trace_at b c.args.at.start c.trace_length-len.result in
    let found = c.mark_trace-md in
    let some : 1 ≤ cache_count b = omega (arith, c.if-cache_count-eq0.false, c.cache_count.ensures.0) in
    let low : (m : ℕ) → place_of b m < sets_of (cache_count b) = place-few t sound (cache_count b) refl some in
    let marked = marks-at_hand b _ _ _ _ (at_hand _ _ _ _ _ c.words.ensures c.at-trace.ensures) found.ensures.1 in
    let lies = starts-lies _ _ _ c.requires.0 _ c.trace_length-len.ensures.0 in (
      marked-levels _ _ _ _ low found.new.space.marks _ marked,
      some,
      lies.short,
      omega (arith, lies.short, found.new.space.positions),
      c.requires.2 _ c.in-Some.is some,
    )

pub returns : goal.returns
returns c =
    let b = c.args.task.now.board.now in
    let i = c.args.task.now.index in
    let sound = c.args.task.now.ready.sound in
    let r = c.args.at.trace in
    let t : Trace = trace_at b c.args.at.start c.trace_length-len.result in
    let found = c.mark_trace-md in
    let some : 1 ≤ cache_count b = omega (arith, c.if-cache_count-eq0.false, c.cache_count.ensures.0) in
    let low : (m : ℕ) → place_of b m < sets_of (cache_count b) = place-few t sound (cache_count b) refl some in
    let known = at_hand b _ _ _ _ c.words.ensures c.at-trace.ensures in
    let marked = marks-at_hand b _ _ _ _ known found.ensures.1 in
    let same = starts-trace b _ _ c.requires.0 _ c.trace_length-len.ensures.0 in
    let here = known ∙ same in
    let next : 65536 * r + 65536 ≡ base_of (r + 1) = omega arith in
    record {
      pd = c.pd-pd.ensures ∙ ap trace_pd here;
      md = found.ensures.0 ∙ ap trace_md here;
      joined = found.ensures.2 ∙ ap (λ (u : Trace). words_of 8 (λ s. member c.args.ecb.now s || evicts u s)) here;
      higher = elim c.match-row.branch [
        | in-Some w ↦ w.row-is
            ∙ ap Some
            (w.raise_points.ensures (before t sound (cache_count b) refl some) (marked-turning _ _ _ _ low found.new.space.marks _ marked) (λ s h. useful-start _ _ _ _ s)
            ∙ fill_to-cong _ _ w.in-Some.row i
            (λ j h. ap (λ (x : ℕ). max (get_or w.in-Some.row j 0) (only_if (eqb (core b i) (core b j)) x))
            (most-useful t sound (cache_count b) refl some (evicted_by b j) ∙ ap (λ (u : Trace). most_useful u (evicted_by b j)) same)))
            ∙ ap (option_map _) (sym w.in-Some.is)
        | in_default w ↦ w.row-is ∙ row-absent _ c.args.row.now w.in_default.not-Some
      ];
      later = subst (λ (base : ℕ). AllEarlier base found.new.space.held) next found.ensures.3;
    }
