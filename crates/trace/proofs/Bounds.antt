-- How large the demands of a trace can be.
-- Assumes nothing.
use Prim.Native.Nat.{ℕ, zero, suc, ◌+◌, ◌*◌, ◌≤◌}
use mathlib.Core.Bool.{true, ◌&&◌}
use native.Mathlib.Decide.{ℕ_discrete}
use native.Mathlib.Omega.{arith}
use mathlib.Core.Path.{◌≡◌}
use borrow.Author.Tests.{ne_eqb}
use lib.Dec.{leb, eqb}
use lib.ListN.{length}
use mathlib.Core.List.{[]}
use Rattle.folds.specs.Folds.{only_if, sum_to, count_to}
use Rattle.folds.proofs.Folds.{sum_to-bound, sum_to-mono, count_to-bound}
use Rattle.folds.proofs.Numbers.{only_if-mono, only_if-bound, only_if-and}
use Rattle.board.specs.Layout.{memory, cycles_of, held_code, held_data, ways, kind_of, first_data_block}
use Rattle.lru_cache.proofs.Useful.{misses-bound}
use Rattle.trace.specs.Cache.{place_of}
use Rattle.trace.specs.Traces.{Trace, fetch, work, reads, writes, data_block, all_loads, trace_pd, bus_loads, trace_md}
use Rattle.trace.proofs.Counts.{loads-count}

module _ (t : Trace) where
  pub trace_pd-bound : trace_pd t ≤ t.len * 4095
  unfolding trace_pd
  trace_pd-bound = sum_to-bound (λ p. cycles_of (work t p)) t.len 4095 (λ p h. omega arith)

  -- an instruction either reads or writes
  one-kind : (k : ℕ) → only_if (eqb k 1) 1 + only_if (eqb k 2) 1 ≤ 1
  one-kind k = go (ℕ_discrete k 1)
    where
      go : Dec (k ≡ 1) → only_if (eqb k 1) 1 + only_if (eqb k 2) 1 ≤ 1
      go (yes e) = rw e (omega arith)
      go (no n) = rw (ne_eqb k 1 n) (omega (arith, only_if-bound (eqb k 2) {a = 1} {m = 1} (omega arith)))

  data-bound : (n : ℕ) → count_to (reads t) n + count_to (writes t) n ≤ n
  unfolding count_to sum_to
  data-bound zero = omega arith
  data-bound (suc n) = omega (arith, data-bound n, one-kind (kind_of (work t n)))

  loads-bound : length (all_loads t) ≤ t.len + count_to (reads t) t.len
  loads-bound = omega (arith, loads-count t t.len, count_to-bound (λ p. true) t.len)

  held-bound : (high : ℕ) → count_to (λ p. reads t p && leb high (data_block t p)) t.len ≤ count_to (reads t) t.len
  unfolding count_to
  held-bound high =
      sum_to-mono _ _ t.len (λ p h. rw (only_if-and (reads t p) (leb high (data_block t p)) 1) (only_if-mono (reads t p) (λ e. only_if-bound (leb high (data_block t p)) (omega arith))))

  bus_loads-bound : (m : ℕ) → bus_loads t m ≤ t.len + count_to (reads t) t.len
  unfolding bus_loads
  bus_loads-bound zero = loads-bound
  bus_loads-bound (suc zero) =
      omega (arith, count_to-bound (λ p. leb (held_code t.words) (fetch t p)) t.len, held-bound (first_data_block + held_data t.words))
  bus_loads-bound (suc (suc m)) =
      omega (arith, misses-bound (place_of t.words) (ways t.words) [] (all_loads t), loads-bound)

  -- a fetch and at most one data access an instruction
  pub trace_md-bound : trace_md t ≤ 2 * t.len
  unfolding trace_md
  trace_md-bound = omega (arith, bus_loads-bound (memory t.words), data-bound t.len)
