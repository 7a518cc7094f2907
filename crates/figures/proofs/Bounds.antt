-- How large the figures of a board that passes its checks can be.
-- Assumes nothing.
use Prim.Native.Nat.{ℕ, ◌+◌, ◌≤◌, ◌<◌}
use mathlib.Core.List.{List}
use native.Mathlib.Omega.{arith}
use Rattle.folds.proofs.Folds.{max_to-bound}
use Rattle.board.specs.Layout.{trace_count, tasks, first_trace}
use Rattle.board.specs.Sound.{Sound}
use Rattle.board.proofs.Extents.{traces-fit}
use Rattle.trace.specs.Traces.{trace_of, trace_pd, trace_md}
use Rattle.trace.proofs.Bounds.{trace_pd-bound, trace_md-bound}
use Rattle.figures.specs.Figures.{task_trace, task_pd, task_md}
-- the overhead's: 512 sets of eight ways
pub use Rattle.figures.proofs.Overhead.{γ-bound}

module _ (b : List ℕ) (s : Sound b) (k : ℕ) (task : k < tasks b) where
  trace-short : (r : ℕ) → r < trace_count b k → (task_trace b k r).len ≤ 1024
  unfolding trace_of
  trace-short r h = (s.trace_length (first_trace b k + r) (omega (arith, traces-fit b s k task))).1

  -- 1,024 instructions of 4,095 cycles
  pub task_pd-bound : task_pd b k ≤ 4193280
  unfolding task_pd
  task_pd-bound =
      max_to-bound (λ r. trace_pd (task_trace b k r)) (trace_count b k) 4193280
      (λ r h. omega (arith, trace_pd-bound (task_trace b k r), trace-short r h))

  -- 1,024 instructions of a fetch and at most one data access
  pub task_md-bound : task_md b k ≤ 2048
  unfolding task_md
  task_md-bound =
      max_to-bound (λ r. trace_md (task_trace b k r)) (trace_count b k) 2048
      (λ r h. omega (arith, trace_md-bound (task_trace b k r), trace-short r h))
