-- The invariant: for any numbers that the marks move, `live` has those of point p, and the row stands for the points up to it.
use Rattle.std.proofs.Common.{ℕ, ◌*◌, ◌<◌, ◌≡◌}
use Rattle.board.specs.Layout.{cache_count}
use Rattle.counts.specs.Planes.{sets_of}
use Rattle.scan.specs.Levels.{Turning, Shown}
use Rattle.scan.proofs.Raising.{Scanned}
use Rattle.scan.proofs.points.raise_points.Given as goal

abbrev pub invariant-loop-p : goal.invariant-loop-p
invariant-loop-p l =
    let b = l.task.board.now in
    let c = cache_count b in
    (l.live.caches ≡ c) × (l.live.planes ≡ l.initial.live.planes)
    × ((f : ℕ → ℕ → ℕ) → Turning c f l.marks (2 * l.len) → ((s : ℕ) → s < sets_of c → f 0 s ≡ 0)
    → Shown c f (2 * l.p) l.initial.live.planes l.live.words × Scanned b l.task.index c f l.len l.initial.row l.row l.fresh l.p)
