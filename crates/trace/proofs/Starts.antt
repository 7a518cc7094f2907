-- Laws of the places where a board's traces start, and of a walk over the traces.
-- Assumes nothing.
use Prim.Native.Nat.{ℕ, ◌+◌, ◌≤◌, ◌<◌}
use mathlib.Core.List.{List}
use mathlib.Core.Path.{◌≡◌, sym, ap, ap₂, subst₂, ◌∙◌}
use native.Mathlib.Omega.{arith}
use lib.ListN.{length}
use Rattle.folds.proofs.Folds.{sum_to-none, sum_to-next}
use Rattle.board.specs.Layout.{tasks, traces, fetches_at, trace_count, first_trace, first_instruction, trace_length}
use Rattle.board.specs.Sound.{Sound}
use Rattle.board.proofs.Extents.{traces-fit, trace-fits}
use Rattle.trace.specs.Traces.{trace_of}
use Rattle.trace.specs.Places.{trace_at, Lies}
use Rattle.trace.proofs.Places.{trace-lies, trace_of-is}
use Rattle.trace.specs.Starts.{start_of, Starts, At}

-- ---- the place of a trace

-- the next trace starts where this one ends
pub start_of-next : (b : List ℕ) (r : ℕ) → start_of b (r + 1) ≡ start_of b r + trace_length b r
unfolding first_instruction
start_of-next b r = omega (arith, sum_to-next (trace_length b) r)

pub start_of-fits : (b : List ℕ) → Sound b → (r : ℕ) → r < traces b → start_of b r + trace_length b r ≤ length b
start_of-fits b s r h = omega (arith, s.words, trace-fits b s r h)

module _ (b : List ℕ) (r start : ℕ) (s : Starts b r start) (len : ℕ) (e : len ≡ trace_length b r) where
  pub starts-lies : Lies b start len
  starts-lies = subst₂ (Lies b) (sym s.place) (sym e) (trace-lies b s.sound r s.trace)

  pub starts-trace : trace_at b start len ≡ trace_of b r
  starts-trace = ap₂ (trace_at b) s.place e ∙ sym (trace_of-is b r)

-- ---- a walk over the traces

pub at-begin : (b : List ℕ) (start : ℕ) → start ≡ fetches_at b → At b 0 0 0 start
unfolding first_trace first_instruction
at-begin b start e = record { known = omega (arith, sum_to-none (trace_count b)); place = omega (arith, sum_to-none (trace_length b)) }

-- past all traces of task k it stands at the first of the next task
pub at-task : (b : List ℕ) (k r trace start : ℕ) → At b k r trace start → r ≡ trace_count b k → At b (k + 1) 0 trace start
unfolding first_trace
at-task b k r trace start at all = record { known = omega (arith, at.known, sum_to-next (trace_count b) k); place = at.place }

pub at_next : (b : List ℕ) (k r trace start trace' start' : ℕ) → At b k r trace start → trace' ≡ trace + 1 → start' ≡ start_of b (trace + 1)
    → At b k (r + 1) trace' start'
at_next b k r trace start trace' start' at e p = record { known = omega arith; place = p ∙ ap (start_of b) (sym e) }

pub at-starts : (b : List ℕ) (k r trace start : ℕ) → Sound b → k < tasks b → At b k r trace start → r < trace_count b k → Starts b trace start
at-starts b k r trace start sound task at h = record {
  sound = sound;
  trace = omega (arith, traces-fit b sound k task);
  place = at.place;
}
