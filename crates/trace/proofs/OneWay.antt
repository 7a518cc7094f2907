-- One cache for code and data with one way: MD, ECB and the number of useful blocks inside any sets are those of a direct-mapped cache.
-- Assumes nothing.
use Prim.Native.Nat.{ℕ, ◌+◌}
use mathlib.Core.Bool.{Bool, ◌&&◌}
use mathlib.Core.List.{[], reverse}
use mathlib.Core.Path.{◌≡◌, sym, ap, ap₂, ◌∙◌}
use native.Mathlib.Omega.{arith}
use Rattle.folds.specs.Folds.{sum_where, max_to, count_to, any_to}
use Rattle.folds.proofs.Folds.{max_to-cong}
use Rattle.board.specs.Layout.{memory, cache_sets, ways, most_sets}
use Rattle.board.specs.Sound.{Sound}
use Rattle.lru_cache.specs.Recency.{some_in, miss_count, useful_in}
use Rattle.lru_cache.specs.Direct.{direct_misses, direct_useful}
use Rattle.lru_cache.proofs.OneWay.{misses-one, useful-sets-one}
use Rattle.trace.specs.Cache.{set_of, place_of}
use Rattle.trace.specs.Traces.{Trace, writes, touched_by, all_loads, loads_before, loads_from, bus_loads, trace_md, evicts, useful, useful_at, most_useful}
use Rattle.trace.proofs.Caches.{place-one}
use Rattle.trace.proofs.Sets.{useful_code, useful_data, useful_at-caches, most_useful-caches, useful_at-one-cache}

module _ (t : Trace) (kind : memory t.words ≡ 2) (one : ways t.words ≡ 1) where
  abbrev c : ℕ
  c = cache_sets t.words

  places : place_of t.words ≡ set_of c
  places = λ i m. place-one t.words m (λ e. omega (arith, e, kind)) i

  -- MD: the misses of a direct-mapped cache, and every write
  pub trace_md-one : trace_md t ≡ direct_misses (set_of c) (all_loads t) + count_to (writes t) t.len
  unfolding trace_md bus_loads
  trace_md-one =
      ap (λ (k : ℕ). bus_loads t k + count_to (writes t) t.len) kind
      ∙ ap (λ (k : ℕ). k + count_to (writes t) t.len)
      (ap₂ (λ (place : ℕ → ℕ) (w : ℕ). miss_count place w [] (all_loads t)) places one ∙ misses-one (set_of c) (all_loads t))

  -- ECB: the sets of a direct-mapped cache in which the touched blocks lie
  pub evicts-one : (s : ℕ) → evicts t s ≡ any_to (λ p. some_in (set_of c) s (touched_by t p)) t.len
  unfolding evicts
  evicts-one s = rw kind (ap (λ (place : ℕ → ℕ). any_to (λ p. some_in place s (touched_by t p)) t.len) places)

  useful-is : (p s : ℕ) → useful t p s ≡ useful_in (set_of c) 1 (reverse (loads_before t p)) (loads_from t p) s
  unfolding useful
  useful-is p s =
      rw kind (ap₂ (λ (place : ℕ → ℕ) (w : ℕ). useful_in place w (reverse (loads_before t p)) (loads_from t p) s) places one)

  -- the sets useful at point p that pass the test, in a direct-mapped cache
  abbrev pub useful_sets : (ℕ → Bool) → ℕ → ℕ
  useful_sets test p = count_to (λ s. direct_useful (set_of c) (loads_before t p) (loads_from t p) s && test s) most_sets

  -- the useful blocks inside any sets are as many as the useful sets among them, at a point and at most
  pub useful_at-one : Sound t.words → (test : ℕ → Bool) (p : ℕ) → useful_at t test p ≡ useful_sets test p
  useful_at-one sound test p =
      useful_at-one-cache t sound kind test p
      ∙ ap (λ (f : ℕ → ℕ). sum_where test f most_sets) (λ i s. useful-is p s i) ∙ useful-sets-one (set_of c) test (loads_before t p) (loads_from t p) most_sets

  pub most_useful-one : Sound t.words → (test : ℕ → Bool) → most_useful t test ≡ max_to (useful_sets test) t.len
  most_useful-one sound test =
      most_useful-caches t test
      ∙ max_to-cong (λ p. useful_code t test p + useful_data t test p) (useful_sets test) t.len (λ p h. sym (useful_at-caches t test p) ∙ useful_at-one sound test p)
