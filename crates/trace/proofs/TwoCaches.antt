-- A code cache and a data cache: each works as if the blocks of the other were never loaded. MD is the misses of both and every write, the places of each in the
-- ECB are those of its own blocks, and the useful blocks are those of the one and those of the other.
-- Assumes nothing.
use Prim.Native.Nat.{ℕ, ◌+◌, ◌<◌}
use mathlib.Core.Bool.{Bool, true, not}
use mathlib.Core.List.{[], reverse}
use mathlib.Core.Path.{◌≡◌, sym, ap, ap₂, ◌∙◌}
use native.Mathlib.Nat.{mod-lt, zero-add}
use native.Mathlib.Omega.{arith}
use borrow.Author.Tests.{leb-true, leb-false, not-true, not-false}
use lib.Dec.{leb}
use Rattle.folds.specs.Folds.{only_if, sum_where, count_to, any_to}
use Rattle.folds.proofs.Folds.{sum_to-cong, any_to-cong}
use Rattle.board.specs.Layout.{memory, cache_sets, data_sets, ways, most_sets, first_data_block}
use Rattle.board.specs.Sound.{Sound}
use Rattle.lru_cache.specs.Recency.{some_in, miss_count, useful_in}
use Rattle.lru_cache.specs.Parts.{passing}
use Rattle.lru_cache.proofs.Parts.{Apart, some_in-part, useful-part, misses-parts}
use Rattle.trace.specs.Cache.{set_of, place_of}
use Rattle.trace.specs.Traces.{Trace, writes, touched_by, all_loads, loads_before, loads_from, bus_loads, trace_md, evicts, useful, useful_at}
use Rattle.trace.proofs.Caches.{place-code, place-data}
use Rattle.trace.proofs.Sets.{useful_at-caches}

-- data blocks and code blocks
abbrev pub is_data : ℕ → Bool
is_data m = leb first_data_block m

abbrev pub is_code : ℕ → Bool
is_code m = not (is_data m)

module _ (t : Trace) (sound : Sound t.words) (two : memory t.words ≡ 3) where
  abbrev place : ℕ → ℕ
  place = place_of t.words

  abbrev w : ℕ
  w = ways t.words

  -- the set of a block in the code cache, and in the data cache
  abbrev code_set : ℕ → ℕ
  code_set = set_of (cache_sets t.words)

  abbrev data_set : ℕ → ℕ
  data_set = set_of (data_sets t.words)

  code-low : (m : ℕ) → code_set m < most_sets
  code-low m = let sets = sound.sets (omega (arith, two)) in omega (arith, sets.1, mod-lt m sets.0)

  in-data : (m : ℕ) → is_data m ≡ true → place m ≡ most_sets + data_set m
  in-data m e = place-data t.words m two (leb-true first_data_block m e)

  in-code : (m : ℕ) → is_code m ≡ true → place m ≡ 0 + code_set m
  in-code m e = place-code t.words m (leb-false first_data_block m (not-true (is_data m) e)) ∙ sym (zero-add (code_set m))

  -- no code block lies in a set of the data cache, and no data block in one of the code cache
  data-apart : (s : ℕ) → Apart place data_set is_data most_sets w in-data s
  data-apart s m e q = omega (arith, q, place-code t.words m (leb-false first_data_block m e), code-low m)

  code_apart : (s : ℕ) → s < most_sets → Apart place code_set is_code 0 w in-code s
  code_apart s h m e q = omega (arith, q, h, in-data m (not-false (is_data m) e))

  -- MD: the misses of both caches, and every write
  abbrev code_misses : ℕ
  code_misses = miss_count code_set w [] (passing is_code (all_loads t))

  abbrev data_misses : ℕ
  data_misses = miss_count data_set w [] (passing is_data (all_loads t))

  pub trace_md-two : trace_md t ≡ code_misses + data_misses + count_to (writes t) t.len
  unfolding trace_md bus_loads passing
  trace_md-two =
      let all : bus_loads t (memory t.words) ≡ miss_count place w [] (all_loads t) = ap (bus_loads t) two in
      omega (
        arith,
        all,
        misses-parts place data_set code_set is_data most_sets 0 w in-data in-code (λ m e. data-apart (data_set m)) (λ m e. code_apart (code_set m) (code-low m)) [] (all_loads t),
      )

  -- ECB: the sets of each cache in which its own touched blocks lie
  evicts-is : (s : ℕ) → evicts t s ≡ any_to (λ p. some_in place s (touched_by t p)) t.len
  unfolding evicts
  evicts-is s = rw two

  pub evicts-code : (s : ℕ) → s < most_sets → evicts t s ≡ any_to (λ p. some_in code_set s (passing is_code (touched_by t p))) t.len
  evicts-code s h =
      ap (evicts t) (sym (zero-add s)) ∙ evicts-is (0 + s)
      ∙ any_to-cong _ _ t.len (λ p k. some_in-part place code_set is_code 0 w in-code s (code_apart s h) (touched_by t p))

  pub evicts-data : (s : ℕ) → evicts t (most_sets + s) ≡ any_to (λ p. some_in data_set s (passing is_data (touched_by t p))) t.len
  evicts-data s =
      evicts-is (most_sets + s) ∙ any_to-cong _ _ t.len (λ p k. some_in-part place data_set is_data most_sets w in-data s (data-apart s) (touched_by t p))

  -- useful blocks: those of each cache, had its own blocks alone been loaded
  module _ (p : ℕ) where
    abbrev pub in_code : ℕ → ℕ
    in_code = useful_in code_set w (passing is_code (reverse (loads_before t p))) (passing is_code (loads_from t p))

    abbrev pub in_data : ℕ → ℕ
    in_data = useful_in data_set w (passing is_data (reverse (loads_before t p))) (passing is_data (loads_from t p))

    useful-is : (s : ℕ) → useful t p s ≡ useful_in place w (reverse (loads_before t p)) (loads_from t p) s
    unfolding useful
    useful-is s = rw two

    pub useful-code : (s : ℕ) → s < most_sets → useful t p s ≡ in_code s
    useful-code s h =
        ap (useful t p) (sym (zero-add s)) ∙ useful-is (0 + s)
        ∙ useful-part place code_set is_code 0 w in-code (λ m e. code_apart (code_set m) (code-low m)) s (code_apart s h) (reverse (loads_before t p)) (loads_from t p)

    pub useful-data : (s : ℕ) → useful t p (most_sets + s) ≡ in_data s
    useful-data s =
        useful-is (most_sets + s)
        ∙ useful-part place data_set is_data most_sets w in-data (λ m e. data-apart (data_set m)) s (data-apart s) (reverse (loads_before t p)) (loads_from t p)

    -- inside a test the two counts are added
    pub useful_at-two : (test : ℕ → Bool) → useful_at t test p ≡ sum_where test in_code most_sets + sum_where (λ s. test (most_sets + s)) in_data most_sets
    useful_at-two test =
        useful_at-caches t test p
        ∙ ap₂ ◌+◌ (sum_to-cong _ _ most_sets (λ s h. ap (only_if (test s)) (useful-code s h))) (sum_to-cong _ _ most_sets (λ s h. ap (only_if (test (most_sets + s))) (useful-data s)))
