-- One turn of the scan: the fetch of an instruction, then its data access.
-- Assumes nothing.
use Prim.Native.Nat.{ℕ, suc, ◌+◌, ◌*◌, ◌≤◌, ◌<◌}
use mathlib.Core.Bool.{Bool, cond, not, ◌&&◌, ◌||◌}
use mathlib.Core.List.{List, map}
use mathlib.Core.Path.{◌≡◌, sym, ap, ap₂, subst, ◌∙◌}
use native.Mathlib.Decide.{ℕ_discrete}
use native.Mathlib.Numerals.{add-one}
use native.Mathlib.Omega.{arith}
use borrow.Author.Tests.{eq-eqb}
use lib.Dec.{eqb}
use lib.ListN.{length}
use Rattle.folds.specs.Folds.{only_if, count_to, any_to}
use Rattle.folds.proofs.Folds.{count_to-next}
use Rattle.bitset.specs.Bits.{member, words_of}
use Rattle.bitset.proofs.Sets.{words_of-cong}
use Rattle.board.specs.Layout.{memory, ways, kind_of, block_of, first_data_block}
use Rattle.lru_cache.specs.Recency.{recent}
use Rattle.lru_cache.specs.Positions.{position_misses}
use Rattle.lru_cache.proofs.Positions.{before-none}
use Rattle.lru_cache.proofs.Recent.{recent-none}
use Rattle.entries.specs.Marks.{position_held, position_marks, position_missed, Are, entry_of, AllEarlier}
use Rattle.entries.proofs.Lines.{are-empty}
use Rattle.entries.proofs.Marking.{Scanned, scan-position}
use Rattle.trace.specs.Cache.{place_of, all_sets}
use Rattle.trace.specs.Caches.{place_in, CachesOf}
use Rattle.trace.specs.declared.cache.Cache.{Cache}
use Rattle.trace.specs.Traces.{Trace, fetch, work, reads, writes, data_block, evicts}
use Rattle.trace.specs.Positions.{load_at, touches}
use Rattle.trace.proofs.Caches.{place_in-low}
use Rattle.trace.proofs.Positions.{fetch-position, read-position}
use Rattle.trace.proofs.Touched.{evicts-is}
use Rattle.marks.specs.Accesses.{load_of, data_touches}
use Rattle.marks.proofs.Steps.{read_none, read-load, read_small}

-- with w ways: the positions of the instructions before p are scanned, and the loads that miss
abbrev pub ScannedTo : Trace → ℕ → ℕ → List ℕ → List ℕ → ℕ → Type 0
ScannedTo t w base array marks p = Scanned (place_of t.words) w (load_at t) base all_sets array marks (2 * p)

abbrev pub misses : Trace → ℕ → ℕ → Bool
misses t w = position_misses (place_of t.words) w (load_at t)

module _ (t : Trace) (base : ℕ) (code datum : Cache) (caches : CachesOf t.words code datum) where
  abbrev place : ℕ → ℕ
  place = place_of t.words

  abbrev w : ℕ
  w = ways t.words

  -- before the first position nothing is held
  pub scan-start : (array marks : List ℕ) → 4096 ≤ length array → w ≤ 8 → 2048 ≤ length marks → AllEarlier base array → ScannedTo t (ways t.words) base array marks 0
  scan-start array marks room small long all = (
    omega arith,
    long,
    (λ s h. subst (λ (ms : List ℕ). Are base array (s * w) w (map (entry_of base (load_at t) 0) ms))
        (sym (ap (recent place s) (before-none (load_at t)) ∙ recent-none place s)) (are-empty base array (s * w) w all)),
    (λ i h. absurd (omega arith)),
    (λ j. omega (arith, all j)),
  )

  module _ (p block word : ℕ) (small : block < first_data_block) (large : 1 ≤ kind_of word → first_data_block ≤ block_of word) (short : 2 * p + 1 < 2048)
      (eb : block ≡ fetch t p) (ew : word ≡ work t p) where
    -- the places of both blocks
    abbrev s : ℕ
    s = place_in code block

    abbrev s' : ℕ
    s' = place_in datum (block_of word)

    data_place : 1 ≤ kind_of word → s' ≡ place (block_of word)
    data_place k = sym (caches.data_place (block_of word) (large k))

    fetch-is : block + 1 ≡ load_at t (2 * p)
    fetch-is = ap (λ (m : ℕ). m + 1) eb ∙ add-one (fetch t p) ∙ sym (fetch-position t p)

    read_is : load_of word ≡ load_at t (suc (2 * p))
    unfolding load_of
    read_is = ap load_of ew ∙ ap (λ (m : ℕ). cond (reads t p) m 0) (add-one (data_block t p)) ∙ sym (read-position t p)

    fetch-own : (m : ℕ) → block + 1 ≡ suc m → s ≡ place m
    fetch-own m q = sym (caches.code_place block small) ∙ ap place (omega (arith, q))

    read-own : (m : ℕ) → load_of word ≡ suc m → s' ≡ place m
    read-own m q = go (ℕ_discrete (kind_of word) 1)
      where
        go : Dec (kind_of word ≡ 1) → s' ≡ place m
        go (yes k) = data_place (omega (arith, k)) ∙ ap place (let z : block_of word + 1 ≡ suc m = read-load word k ∙ q in omega (arith, z))
        go (no n) = absurd (let z : 0 ≡ suc m = sym (read_none word n) ∙ q in omega (arith, z))

    -- the places that the instruction touches, in two parts
    pub touches-parts : (i : ℕ) → (eqb s i || data_touches datum word i) ≡ touches t place p i
    unfolding touches
    touches-parts i =
        ap₂ (λ (x : ℕ) (u : Bool). eqb x i || u) (sym (caches.code_place block small)) (go (ℕ_discrete (kind_of word) 0))
        ∙ ap₂ (λ (x y : ℕ). eqb (place x) i || (not (eqb (kind_of y) 0) && eqb (place (block_of y)) i)) eb ew
      where
        go : Dec (kind_of word ≡ 0) → data_touches datum word i ≡ (not (eqb (kind_of word) 0) && eqb (place (block_of word)) i)
        go (yes k) = rw (eq-eqb (kind_of word) 0 k)
        go (no n) = ap (λ (x : ℕ). not (eqb (kind_of word) 0) && eqb x i) (data_place (omega (arith, n)))

    module _ (array array' array'' marks marks' marks'' : List ℕ) (r r' : ℕ)
        (f : array' ≡ position_held base code.ways s (block + 1) (2 * p) array)
        (g : marks' ≡ position_marks base code.ways s (block + 1) (2 * p) array marks)
        (n : r ≡ position_missed base code.ways s (block + 1) array)
        (f' : array'' ≡ position_held base datum.ways s' (load_of word) (2 * p + 1) array')
        (g' : marks'' ≡ position_marks base datum.ways s' (load_of word) (2 * p + 1) array' marks')
        (n' : r' ≡ position_missed base datum.ways s' (load_of word) array' + only_if (eqb (kind_of word) 2) 1)
        (so_far : ScannedTo t (ways t.words) base array marks p) where
      abbrev At : List ℕ → List ℕ → ℕ → Type 0
      At = Scanned place w (load_at t) base all_sets

      fetched : At array' marks' (suc (2 * p)) × (r ≡ only_if (misses t w (2 * p)) 1)
      fetched =
          let so = scan-position place w (load_at t) base all_sets (2 * p) s array marks (omega arith) (place_in-low code block) so_far (block + 1) fetch-is (omega arith) fetch-own in
          let held = f ∙ ap (λ (k : ℕ). position_held base k s (block + 1) (2 * p) array) caches.code_ways in
          let marked = g ∙ ap (λ (k : ℕ). position_marks base k s (block + 1) (2 * p) array marks) caches.code_ways in
          (rw (held, marked) so.0, n ∙ ap (λ (k : ℕ). position_missed base k s (block + 1) array) caches.code_ways ∙ so.1)

      accessed : At array'' marks'' (suc (suc (2 * p))) × (r' ≡ only_if (misses t w (suc (2 * p))) 1 + only_if (eqb (kind_of word) 2) 1)
      accessed =
          let next : 2 * p + 1 ≡ suc (2 * p) = add-one (2 * p) in
          let so = scan-position place w (load_at t) base all_sets (suc (2 * p)) s' array' marks' (omega arith) (place_in-low datum (block_of word)) fetched.0 (load_of word) read_is (read_small word) read-own in (
            rw (
              f' ∙ ap₂ (λ (k e : ℕ). position_held base k s' (load_of word) e array') caches.data_ways next,
              g' ∙ ap₂ (λ (k e : ℕ). position_marks base k s' (load_of word) e array' marks') caches.data_ways next,
            ) so.0,
            n' ∙ ap (λ (k : ℕ). position_missed base k s' (load_of word) array' + only_if (eqb (kind_of word) 2) 1) caches.data_ways
                ∙ ap (λ (k : ℕ). k + only_if (eqb (kind_of word) 2) 1) so.1,
          )

      twice : suc (suc (2 * p)) ≡ 2 * (p + 1)
      twice = omega arith

      pub turn-scan : ScannedTo t (ways t.words) base array'' marks'' (p + 1)
      turn-scan = subst (At array'' marks'') twice accessed.0

      pub turn-count : (k : ℕ) → k ≡ count_to (misses t (ways t.words)) (2 * p) + count_to (writes t) p
          → k + r + r' ≡ count_to (misses t (ways t.words)) (2 * (p + 1)) + count_to (writes t) (p + 1)
      turn-count k e =
          omega (
            arith,
            e,
            fetched.1,
            accessed.1,
            ap (λ (x : ℕ). only_if (eqb (kind_of x) 2) 1) ew,
            count_to-next (misses t w) (2 * p),
            ap (count_to (misses t w)) (add-one (2 * p)),
            count_to-next (misses t w) (suc (2 * p)),
            count_to-next (writes t) p,
            ap (count_to (misses t w)) (add-one (suc (2 * p)) ∙ twice),
          )

-- the whole trace
pub evict-words : (t : Trace) (out : List ℕ) → 2 ≤ memory t.words → ((p : ℕ) → p < t.len → kind_of (work t p) ≤ 2)
    → words_of 8 (λ s. member out s || any_to (λ p. touches t (place_of t.words) p s) t.len) ≡ words_of 8 (λ s. member out s || evicts t s)
evict-words t out cached kinds = words_of-cong 8 _ _ (λ s h. ap (λ (u : Bool). member out s || u) (evicts-is t s cached kinds))
