-- The bus accesses of a trace, instruction by instruction, are its memory demand.
-- Assumes nothing.
use Prim.Native.Nat.{ℕ, zero, suc, ◌+◌, ◌-◌, ◌*◌, ◌≤◌, ◌<◌, zero-le}
use mathlib.Core.Bool.{Bool, true, false, cond, ◌&&◌}
use mathlib.Core.List.{[], ◌∷◌}
use mathlib.Core.Path.{◌≡◌, refl, sym, ap, ap₂, ◌∙◌}
use native.Mathlib.Decide.{ℕ_discrete}
use native.Mathlib.Numerals.{add-one}
use native.Mathlib.Omega.{arith}
use borrow.Author.Tests.{eq-eqb, ne_eqb, le-leb}
use lib.Dec.{leb}
use lib.ListN.{length, length-append}
use Rattle.folds.specs.Folds.{only_if, sum_to, count_to}
use Rattle.folds.proofs.Folds.{sum_to-add, count_to-none, count_to-next, count_to-cong}
use Rattle.board.specs.Layout.{memory, held_code, held_data, ways, kind_of, first_data_block}
use Rattle.trace.specs.Traces.{Trace, fetch, work, reads, writes, data_block, loads_by, loads, all_loads, bus_loads, trace_md}
use Rattle.lru_cache.specs.Recency.{miss_count}
use Rattle.lru_cache.specs.Positions.{position_misses}
use Rattle.lru_cache.proofs.Positions.{misses-positions}
use Rattle.trace.specs.Cache.{place_of}
use Rattle.trace.specs.Positions.{load_at, accesses}
use Rattle.trace.proofs.Loads.{loads_before-next}
use Rattle.trace.proofs.Positions.{next_loads-loads}

module _ (t : Trace) where
  -- each instruction loads its block, and its data block where it reads
  pub loads-count : (n : ℕ) → length (loads t 0 n) ≡ count_to (λ p. true) n + count_to (reads t) n
  unfolding loads
  loads-count zero = omega (arith, count_to-none (λ p. true), count_to-none (reads t))
  loads-count (suc n) =
      let next = ap length (sym (ap (loads t 0) (add-one n)) ∙ loads_before-next t n) in
      let by : length (loads_by t n) ≡ 1 + only_if (reads t n) 1 = go (reads t n) in
      let more : suc n ≡ n + 1 = omega arith in
      omega (
        arith,
        next,
        length-append (loads t 0 n) (loads_by t n),
        by,
        loads-count n,
        count_to-next (λ p. true) n,
        count_to-next (reads t) n,
        ap (count_to (λ p. true)) more,
        ap (count_to (reads t)) more,
      )
    where
      go : (r : Bool) → length (fetch t n ∷ cond r (data_block t n ∷ []) []) ≡ 1 + only_if r 1
      go true = refl
      go false = refl

  -- ---- their sum

  sum_is : (low high : ℕ) → sum_to (accesses t low high) t.len
      ≡ count_to (λ p. leb low (fetch t p)) t.len + count_to (λ p. reads t p && leb (high) (data_block t p)) t.len + count_to (writes t) t.len
  unfolding accesses count_to
  sum_is low high =
      sum_to-add (λ p. only_if (leb low (fetch t p)) 1 + only_if (reads t p && leb (high) (data_block t p)) 1) (λ p. only_if (writes t p) 1) t.len
      ∙ ap (λ (k : ℕ). k + sum_to (λ p. only_if (writes t p) 1) t.len)
      (sum_to-add (λ p. only_if (leb low (fetch t p)) 1) (λ p. only_if (reads t p && leb (high) (data_block t p)) 1) t.len)

  md-is : (m : ℕ) → memory t.words ≡ m → bus_loads t m + count_to (writes t) t.len ≡ trace_md t
  unfolding trace_md
  md-is m e = ap (λ (k : ℕ). bus_loads t k + count_to (writes t) t.len) (sym e)

  -- memory 1
  pub trace_md-held : memory t.words ≡ 1 → sum_to (accesses t (held_code t.words) (first_data_block + held_data t.words)) t.len ≡ trace_md t
  unfolding bus_loads
  trace_md-held e = sum_is (held_code t.words) (first_data_block + held_data t.words) ∙ md-is 1 e

  -- memory 0: nothing is held, and what is read is a data block
  pub trace_md-none : memory t.words ≡ 0 → ((p : ℕ) → p < t.len → 1 ≤ kind_of (work t p) → first_data_block ≤ data_block t p)
      → sum_to (accesses t 0 first_data_block) t.len ≡ trace_md t
  unfolding bus_loads
  trace_md-none e known =
      sum_is 0 first_data_block
      ∙ ap (λ (k : ℕ). k + count_to (writes t) t.len)
      (ap₂ ◌+◌ (count_to-cong (λ p. leb 0 (fetch t p)) (λ p. true) t.len (λ p h. le-leb 0 (fetch t p) zero-le))
      (count_to-cong (λ p. reads t p && leb first_data_block (data_block t p)) (reads t) t.len (λ p h. go p h (ℕ_discrete (kind_of (work t p)) 1)))
      ∙ sym (loads-count t.len))
      ∙ md-is 0 e
    where
      go : (p : ℕ) → p < t.len → Dec (kind_of (work t p) ≡ 1) → (reads t p && leb first_data_block (data_block t p)) ≡ reads t p
      go p h (yes k) = rw (eq-eqb (kind_of (work t p)) 1 k) (le-leb first_data_block (data_block t p) (known p h (omega arith)))
      go p h (no k) = rw (ne_eqb (kind_of (work t p)) 1 k)

  -- memory 2 and 3
  pub trace_md-cached : 2 ≤ memory t.words
      → count_to (position_misses (place_of t.words) (ways t.words) (load_at t)) (2 * t.len) + count_to (writes t) t.len ≡ trace_md t
  unfolding bus_loads
  trace_md-cached h =
      let count : bus_loads t (suc (suc (memory t.words - 2))) ≡ miss_count (place_of t.words) (ways t.words) [] (all_loads t) = loads-cached (memory t.words - 2) in
      let kind : memory t.words ≡ suc (suc (memory t.words - 2)) = omega arith in
      ap (λ (k : ℕ). k + count_to (writes t) t.len)
      (misses-positions (place_of t.words) (ways t.words) (load_at t) (2 * t.len)
      ∙ ap (miss_count (place_of t.words) (ways t.words) []) (next_loads-loads t 0 t.len) ∙ sym count)
      ∙ md-is (suc (suc (memory t.words - 2))) kind
    where
      loads-cached : (m : ℕ) → bus_loads t (suc (suc m)) ≡ miss_count (place_of t.words) (ways t.words) [] (all_loads t)
      loads-cached m = refl
