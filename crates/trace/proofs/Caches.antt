-- The place of a block by the kind of memory: how far the places go, and the caches that the code finds.
-- Assumes nothing.
use Prim.Native.Nat.{ℕ, ◌+◌, ◌≤◌, ◌<◌}
use mathlib.Core.List.{List}
use mathlib.Core.Logic.{inl, inr}
use mathlib.Core.Path.{◌≡◌, sym, ap₂, ◌∙◌}
use native.Mathlib.Decide.{ℕ_discrete}
use native.Mathlib.Nat.{mod-lt, zero-add}
use native.Mathlib.Omega.{arith}
use borrow.Author.Tests.{eq-eqb, ne_eqb, le-leb, lt-leb}
use Rattle.folds.proofs.Numbers.{le-or-lt}
use Rattle.board.specs.Layout.{memory, cache_sets, data_sets, ways, most_sets, first_data_block}
use Rattle.board.specs.Sound.{Sound}
use Rattle.trace.specs.Cache.{set_of, place_of, all_sets}
use Rattle.trace.specs.Caches.{place_in, CachesOf}
use Rattle.trace.specs.Reciprocal.{SetDivisor}
use Rattle.trace.specs.declared.cache.Cache.{Cache}

-- ---- where a block lies

module _ (b : List ℕ) (m : ℕ) where
  -- with one cache every block, and with two a code block
  pub place-one : (memory b ≡ 3 → ⊥) → place_of b m ≡ set_of (cache_sets b) m
  unfolding place_of
  place-one n = elim (le-or-lt first_data_block m) [
    | inl h ↦ simp (ne_eqb (memory b) 3 n, le-leb first_data_block m h) (omega arith)
    | inr h ↦ simp (ne_eqb (memory b) 3 n, lt-leb first_data_block m h) (omega arith)
  ]

  pub place-code : m < first_data_block → place_of b m ≡ set_of (cache_sets b) m
  unfolding place_of
  place-code h = elim (ℕ_discrete (memory b) 3) [
    | yes k ↦ simp (eq-eqb (memory b) 3 k, lt-leb first_data_block m h) (omega arith)
    | no n ↦ place-one n
  ]

  -- with two a data block
  pub place-data : memory b ≡ 3 → first_data_block ≤ m → place_of b m ≡ most_sets + set_of (data_sets b) m
  unfolding place_of
  place-data k h = simp (eq-eqb (memory b) 3 k, le-leb first_data_block m h) (omega arith)

-- ---- how far the places go

module _ (b : List ℕ) (sound : Sound b) where
  -- one cache has no place from 256 on
  pub place-low-one : memory b ≡ 2 → (m : ℕ) → place_of b m < most_sets
  place-low-one k m =
      let sets = sound.sets (omega (arith, k)) in
      omega (arith, place-one b m (λ e. omega (arith, e, k)), mod-lt m sets.0, sets.1)

  pub place-low : 2 ≤ memory b → (m : ℕ) → place_of b m < all_sets
  place-low k m = elim (le-or-lt first_data_block m) [ inl h ↦ datum h (ℕ_discrete (memory b) 3) | inr h ↦ below (place-code b m h) ]
    where
      below : place_of b m ≡ set_of (cache_sets b) m → place_of b m < all_sets
      below e = let sets = sound.sets k in omega (arith, e, mod-lt m sets.0, sets.1)

      datum : first_data_block ≤ m → Dec (memory b ≡ 3) → place_of b m < all_sets
      datum h (yes two) = let sets = sound.data_sets two in omega (arith, place-data b m two h, mod-lt m sets.0, sets.1)
      datum h (no one) = below (place-one b m one)

pub place_in-low : (cache : Cache) (m : ℕ) → place_in cache m < all_sets
place_in-low cache m = omega (arith, cache.near, cache.few, mod-lt m cache.some)

-- a cache has the reciprocal of its sets
pub divides : (cache : Cache) → SetDivisor cache.sets cache.inverse
divides cache = record { some = cache.some; few = cache.few; reciprocal = cache.reciprocal }

-- ---- the caches that the code finds

module _ (b : List ℕ) (code : Cache) (start : code.first ≡ 0) (sets : code.sets ≡ cache_sets b) (width : code.ways ≡ ways b) where
  in-code : (m : ℕ) → set_of (cache_sets b) m ≡ place_in code m
  in-code m = sym (zero-add (set_of (cache_sets b) m)) ∙ ap₂ (λ (first c : ℕ). first + set_of c m) (sym start) (sym sets)

  pub caches-one : (memory b ≡ 3 → ⊥) → CachesOf b code code
  caches-one k = record {
    code_ways = width;
    data_ways = width;
    code_place = λ m h. place-one b m k ∙ in-code m;
    data_place = λ m h. place-one b m k ∙ in-code m;
  }

  pub caches-two : (datum : Cache) → memory b ≡ 3 → datum.first ≡ most_sets → datum.sets ≡ data_sets b → datum.ways ≡ ways b → CachesOf b code datum
  caches-two datum k start' sets' width' = record {
    code_ways = width;
    data_ways = width';
    code_place = λ m h. place-code b m h ∙ in-code m;
    data_place = λ m h. place-data b m k h ∙ ap₂ (λ (first c : ℕ). first + set_of c m) (sym start') (sym sets');
  }
