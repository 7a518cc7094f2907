-- `scan::points::raise_points` meets its contract.
use Rattle.std.proofs.Common.{ℕ, ◌+◌, ◌*◌, ◌/◌, ◌%◌, ◌<◌, ◌≤◌, ◌≡◌, List, max, Bool, ◌&&◌, ◌||◌, get_or, length, arith, refl, sym, ap, ap₂, subst, ◌∙◌}
use Rattle.folds.specs.Folds.{only_if, max_to}
use Rattle.folds.proofs.Numbers.{only_if-zero}
use Rattle.folds.proofs.Lists.{fill_to-cong}
use Rattle.board.specs.Layout.{cache_count}
use Rattle.counts.specs.Planes.{sets_of, count_of, largest}
use Rattle.counts.specs.Counted.{count_by}
use Rattle.counts.specs.Turns.{MarkApplied}
use Rattle.figures.specs.Overhead.{evicted_by}
use Rattle.figures.specs.Rows.{same_core, on_core_of, raised}
use Rattle.figures.proofs.Rows.{raised-none}
use Rattle.figures.proofs.Listed.{higher-none}
use Rattle.scan.specs.Levels.{Shown, at_point}
use Rattle.scan.proofs.Positions.{position-grows, position-falls, position-next, point-next}
use Rattle.scan.proofs.Raising.{scan-start, scan-turn, neither, or-last}
use Rattle.scan.proofs.points.raise_points.Goals as goal
use Rattle.scan.proofs.points.raise_points.Goals.{then-fresh-lost, else-fresh-lost}

pub returns-then-above-eq0 : goal.returns-then-above-eq0
returns-then-above-eq0 c f turning first =
    let t = c.args.task.now in
    let empty : length t.higher.now ≡ 0 = omega (arith, ap length c.tasks-higher.ensures, c.if-above-eq0.true) in
    raised-none _ t.index c.args.row.now
    (λ j h. ap (λ (same : Bool). only_if same (max_to (at_point (cache_count t.board.now) f (evicted_by t.board.now j)) c.args.len))
    (higher-none t.board.now t.index t.higher.now c.requires.4 empty j h))

-- the numbers at the start are 0
none : (c C p P : ℕ) (words : List ℕ) → c ≡ C → p ≡ P → ((s : ℕ) → s < sets_of c → count_of c words 0 p s ≡ 0) → (s : ℕ) → s < sets_of C → count_of C words 0 P s ≡ 0
none c C p P words e q all s h = ap₂ (λ (c p : ℕ). count_of c words 0 p s) (sym e) (sym q) ∙ all s (subst (λ (c : ℕ). s < sets_of c) (sym e) h)

pub loop-p-init : goal.loop-p-init
loop-p-init c =
    let t = c.args.task.now in
    let made = c.none-live.ensures in (
      made.0 ∙ c.cache_count.ensures.0,
      refl,
      λ f turning first. (
        (λ s h. none _ _ _ _ c.none-live.result.words c.cache_count.ensures.0 (sym made.1) made.2 s h ∙ sym (first s h)),
        scan-start t.board.now t.index (cache_count t.board.now) f c.args.len c.args.row.now first,
      ),
    )

-- what is asked of a mark, of as many caches and planes as the loop began with
asked : (c C p P mark : ℕ) (words : List ℕ) → c ≡ C → p ≡ P → mark < 1024 * C → (mark % 4 ≡ 1 → count_of C words 0 P (mark / 4) < largest P)
    → (mark % 4 ≡ 2 → 1 ≤ count_of C words 0 P (mark / 4))
    → (mark < 1024 * c) × (mark % 4 ≡ 1 → count_of c words 0 p (mark / 4) < largest p) × (mark % 4 ≡ 2 → 1 ≤ count_of c words 0 p (mark / 4))
asked c C p P mark words e q small grows falls = rw (e, q) (small, grows, falls)

applied : (c C p P mark : ℕ) (words next : List ℕ) → c ≡ C → p ≡ P → MarkApplied c words p mark next → MarkApplied C words P mark next
applied c C p P mark words next e q done = rw (← e, ← q) done

pub apply_mark-requires : goal.apply_mark-requires
apply_mark-requires c =
    let b = c.args.task.now.board.now in
    let marks = c.args.marks.now in
    let p = c.loop-p.p in
    let n = 2 * c.args.len in
    let live = c.loop-p.live in
    let planes = c.none-live.result.planes in
    let levels = c.requires.0 in
    let l : 2 * p < n = omega (arith, c.loop-p-test.true) in
    let small = levels.small (2 * p) l in
    let big : c.ways.result ≤ largest planes = rw c.none-live.ensures.1 c.planes_for.ensures.0 in
    let here : Shown (cache_count b) levels.f (2 * p) planes live.words = (c.loop-p.invariant.2 levels.f levels.turning levels.first).0 in
    asked _ _ _ _ _ _ c.loop-p.invariant.0 c.loop-p.invariant.1 small
    (position-grows (cache_count b) levels.f marks n planes levels.turning (2 * p) l small live.words here
    (λ s h. omega (arith, levels.few (2 * p + 1) s, big, c.ways.ensures.0)))
    (position-falls (cache_count b) levels.f marks n planes levels.turning (2 * p) l small live.words here)

pub apply_mark-requires-in-loop-p : goal.apply_mark-requires-in-loop-p
apply_mark-requires-in-loop-p c =
    let b = c.args.task.now.board.now in
    let marks = c.args.marks.now in
    let p = c.loop-p.p in
    let n = 2 * c.args.len in
    let live = c.loop-p.live in
    let mid = c.apply_mark.new.self in
    let planes = c.none-live.result.planes in
    let levels = c.requires.0 in
    let l : 2 * p + 1 < n = omega (arith, c.loop-p-test.true) in
    let small = levels.small (2 * p + 1) l in
    let big : c.ways.result ≤ largest planes = rw c.none-live.ensures.1 c.planes_for.ensures.0 in
    let here : Shown (cache_count b) levels.f (2 * p) planes live.words = (c.loop-p.invariant.2 levels.f levels.turning levels.first).0 in
    let between =
    position-next (cache_count b) levels.f marks n planes levels.turning (2 * p) (omega (arith, l)) live.words mid.words here
    (applied _ _ _ _ _ _ _ c.loop-p.invariant.0 c.loop-p.invariant.1 c.apply_mark.ensures.0) in
    asked _ _ _ _ _ _ (c.apply_mark.ensures.1 ∙ c.loop-p.invariant.0) (c.apply_mark.ensures.2 ∙ c.loop-p.invariant.1) small
    (position-grows (cache_count b) levels.f marks n planes levels.turning (2 * p + 1) l small mid.words between
    (λ s h. omega (arith, levels.few (2 * p + 1 + 1) s, big, c.ways.ensures.0)))
    (position-falls (cache_count b) levels.f marks n planes levels.turning (2 * p + 1) l small mid.words between)

pub loop-p-preserved : goal.loop-p-preserved
loop-p-preserved c =
    let t = c.args.task.now in
    let b = t.board.now in
    let marks = c.args.marks.now in
    let len = c.args.len in
    let loop = c.loop-p in
    let p = loop.p in
    let live = loop.live in
    let mid = c.apply_mark.new.self in
    let next = c.apply_mark-in-loop-p.new.self in
    let caches = cache_count b in
    let planes = c.none-live.result.planes in
    let l : 2 * p + 1 < 2 * len = omega (arith, c.loop-p-test.true) in
    let lost = c.either.result || c.is_last.result in
    let first = applied _ _ _ _ _ _ _ loop.invariant.0 loop.invariant.1 c.apply_mark.ensures.0 in
    let more = c.apply_mark.ensures.1 ∙ loop.invariant.0 in
    let more' = c.apply_mark.ensures.2 ∙ loop.invariant.1 in
    let second = applied _ _ _ _ _ _ _ more more' c.apply_mark-in-loop-p.ensures.0 in
    let count : ℕ → ℕ = λ j. count_by caches live.words planes (evicted_by b j) in
    -- the row is raised where the point is to be counted, and stays where not
    let row_is : c.if-fresh-lost.row ≡ raised (on_core_of b t.index (λ j. only_if (loop.fresh && lost) (count j))) t.index loop.row =
    elim c.if-fresh-lost.branch [
      | then-fresh-lost w ↦ w.row-is ∙ w.raise.ensures
          ∙ ap₂ (λ (c p : ℕ). raised (on_core_of b t.index (λ j. count_by c live.words p (evicted_by b j))) t.index loop.row) loop.invariant.0 loop.invariant.1
          ∙ ap (λ (u : Bool). raised (on_core_of b t.index (λ j. only_if u (count j))) t.index loop.row) (sym w.if-fresh-lost.true)
      | else-fresh-lost w ↦ w.row-is
          ∙ raised-none _ t.index loop.row (λ j h. only_if-zero (same_core b t.index j) _ (ap (λ (u : Bool). only_if u (count j)) w.if-fresh-lost.false))
    ] in (
      c.apply_mark-in-loop-p.ensures.1 ∙ more,
      c.apply_mark-in-loop-p.ensures.2 ∙ more',
      λ f turning none.
          let so_far = loop.invariant.2 f turning none in (
            point-next caches f marks (2 * len) planes turning p l live.words mid.words next.words so_far.0 first second,
            scan-turn b t.index caches f len c.args.row.now planes marks turning live.words loop.row _ p loop.fresh lost c.either-in-loop-p.result c.loop-p-test.true so_far.0 row_is
                (λ q. c.either.ensures (neither c.either.result c.is_last.result q).0) (λ q. or-last c.either.result (c.is_last.ensures q)) c.either-in-loop-p.ensures
                so_far.1,
          ),
    )

pub returns : goal.returns
returns c f turning first =
    let loop = c.loop-p in
    let t = c.args.task.now in
    let b = t.board.now in
    let len = c.args.len in
    let end : loop.p ≡ len = omega arith in
    let all = (loop.invariant.2 f turning first).1 in
    all.raises
    ∙ fill_to-cong _ _ c.args.row.now t.index
    (λ j h. ap (λ (x : ℕ). max (get_or c.args.row.now j 0) (only_if (same_core b t.index j) x))
    (all.all end (evicted_by b j) ∙ ap (max_to (at_point (cache_count b) f (evicted_by b j))) end))
