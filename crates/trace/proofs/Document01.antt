-- A trace of a board whose memory is one of document 01's, the cache of one way: PD, MD, ECB and the number of useful blocks inside any sets are document 01's.
-- Assumes nothing.
use Prim.Native.Nat.{ℕ, zero, suc, ◌+◌, ◌-◌, ◌≤◌}
use mathlib.Core.Bool.{Bool, true, false, cond, ◌&&◌, ◌||◌, or-false}
use mathlib.Core.List.{List, [], ◌∷◌, ◌++◌, reverse}
use mathlib.Core.Path.{◌≡◌, refl, sym, ap, ap₂, ◌∙◌, fun_ext}
use native.Mathlib.Decide.{ℕ_discrete}
use native.Mathlib.Omega.{arith}
use borrow.Author.Tests.{eq-eqb, ne_eqb, le-leb, lt-leb}
use lib.Dec.{leb, eqb}
use lib.ListN.{length, get_or}
use Rattle.folds.specs.Folds.{sum_where, max_to, count_to, any_to}
use Rattle.folds.proofs.Folds.{sum_to-cong, max_to-cong, max_to-bound, count_to-cong, count_to-zero, any_to-cong}
use Rattle.board.specs.Layout.{memory, ways, most_sets, held_code, held_data, first_data_block, trace_length, kind_of, cycles_of, block_of}
use Rattle.board.specs.Sound.{Sound}
use Rattle.document01.specs.Document01 as old
use Rattle.lru_cache.specs.Recency.{some_in, miss_count, useful_in}
use Rattle.lru_cache.proofs.OneWay01.{misses-one, useful-sets-one}
use Rattle.trace.specs.Cache.{place_of, cached}
use Rattle.trace.specs.Traces.{trace_of, work, loads, loads_before, loads_from, trace_pd, bus_loads, trace_md, evicts, useful, useful_at, most_useful}
use Rattle.trace.proofs.Caches.{place-one}
use Rattle.trace.proofs.Sets.{most_useful-plain, useful_at-one-cache}

-- trace r of board b
module _ (b : List ℕ) (r : ℕ) where
  work-01 : (p : ℕ) → work (trace_of b r) p ≡ old.work b r p
  unfolding trace_of
  work-01 p = ap (λ (i : ℕ). get_or b i 0) (omega arith)

  pub trace_pd-01 : trace_pd (trace_of b r) ≡ old.trace_pd b r
  unfolding trace_pd old.trace_pd trace_of
  trace_pd-01 = sum_to-cong _ _ (trace_length b r) (λ p h. ap cycles_of (work-01 p))

  loads-01 : (p k : ℕ) → loads (trace_of b r) p k ≡ old.loads b r p k
  unfolding loads old.loads trace_of
  loads-01 p zero = refl
  loads-01 p (suc k) =
      ap₂ (λ (w : ℕ) (l : List ℕ). old.fetch b r p ∷ (cond (eqb (kind_of w) 1) (block_of w ∷ []) [] ++ l)) (work-01 p) (loads-01 (suc p) k)

  -- ---- memory 0, 1 or 2, the cache of one way

  module _ (few : memory b ≤ 2) (one : ways b ≡ 1) where
    places : place_of b ≡ old.set_of b
    places = λ i m. place-one b m (λ e. omega (arith, e)) i

    cached-01 : cached b ≡ eqb (memory b) 2
    cached-01 = go (ℕ_discrete (memory b) 2)
      where
        go : Dec (memory b ≡ 2) → cached b ≡ eqb (memory b) 2
        go (yes e) = le-leb 2 (memory b) (omega arith) ∙ sym (eq-eqb (memory b) 2 e)
        go (no n) = lt-leb 2 (memory b) (omega arith) ∙ sym (ne_eqb (memory b) 2 n)

    bus_loads-01 : (c : ℕ) → bus_loads (trace_of b r) c ≡ old.bus_loads b r c
    unfolding bus_loads old.bus_loads trace_of
    bus_loads-01 zero = ap length (loads-01 0 (trace_length b r))
    bus_loads-01 (suc zero) =
        ap (λ (n : ℕ). count_to (λ p. leb (held_code b) (old.fetch b r p)) (trace_length b r) + n)
        (count_to-cong _ _ (trace_length b r) (λ p h. ap (λ (w : ℕ). eqb (kind_of w) 1 && leb (first_data_block + held_data b) (block_of w)) (work-01 p)))
    bus_loads-01 (suc (suc m)) =
        ap₂ (λ (place : ℕ → ℕ) (w : ℕ). miss_count place w [] (loads (trace_of b r) 0 (trace_length b r))) places one
        ∙ misses-one (old.set_of b) [] _
        ∙ ap (old.miss_count (old.set_of b) []) (loads-01 0 (trace_length b r))

    pub trace_md-01 : trace_md (trace_of b r) ≡ old.trace_md b r
    unfolding trace_md old.trace_md trace_of
    trace_md-01 = ap₂ ◌+◌ (bus_loads-01 (memory b)) (count_to-cong _ _ (trace_length b r) (λ p h. ap (λ (w : ℕ). eqb (kind_of w) 2) (work-01 p)))

    -- ---- ECB

    some_in-01 : (s f m : ℕ) (reads writes : Bool)
        → some_in (old.set_of b) s (f ∷ (cond reads (m ∷ []) [] ++ cond writes (m ∷ []) [])) ≡ (eqb (old.set_of b f) s || ((reads || writes) && eqb (old.set_of b m) s))
    unfolding some_in
    some_in-01 s f m true true = ap (λ (t : Bool). eqb (old.set_of b f) s || t) (twice (eqb (old.set_of b m) s))
      where
        twice : (t : Bool) → (t || (t || false)) ≡ t
        twice true = refl
        twice false = refl
    some_in-01 s f m true false = ap (λ (t : Bool). eqb (old.set_of b f) s || t) (or-false (eqb (old.set_of b m) s))
    some_in-01 s f m false true = ap (λ (t : Bool). eqb (old.set_of b f) s || t) (or-false (eqb (old.set_of b m) s))
    some_in-01 s f m false false = refl

    pub evicts-01 : (s : ℕ) → evicts (trace_of b r) s ≡ (eqb (memory b) 2 && any_to (λ p. old.touches b r p s) (trace_length b r))
    unfolding evicts trace_of
    evicts-01 s =
        ap₂ ◌&&◌ cached-01
        (any_to-cong _ _ (trace_length b r)
        (λ p h. ap₂ (λ (place : ℕ → ℕ) (w : ℕ). some_in place s (old.fetch b r p ∷ (cond (eqb (kind_of w) 1) (block_of w ∷ []) [] ++ cond (eqb (kind_of w) 2) (block_of w ∷ []) []))) places (work-01 p)
        ∙ some_in-01 s (old.fetch b r p) (block_of (old.work b r p)) (old.reads b r p) (old.writes b r p)))

    -- ---- useful blocks

    abbrev pub useful_sets : (ℕ → Bool) → ℕ → ℕ
    useful_sets test p = count_to (λ s. old.useful b r p s && test s) 256

    useful-is : memory b ≡ 2 → (p s : ℕ)
        → useful (trace_of b r) p s ≡ useful_in (old.set_of b) 1 (reverse (loads_before (trace_of b r) p)) (loads_from (trace_of b r) p) s
    unfolding useful trace_of
    useful-is kind p s =
        rw kind (ap₂ (λ (place : ℕ → ℕ) (w : ℕ). useful_in place w (reverse (loads_before (trace_of b r) p)) (loads_from (trace_of b r) p) s) places one)

    useful_at-01 : Sound b → memory b ≡ 2 → (test : ℕ → Bool) (p : ℕ) → useful_at (trace_of b r) test p ≡ useful_sets test p
    unfolding old.useful trace_of
    useful_at-01 sound kind test p =
        useful_at-one-cache (trace_of b r) sound kind test p
        ∙ ap (λ (f : ℕ → ℕ). sum_where test f most_sets) (fun_ext (useful-is kind p))
        ∙ useful-sets-one (old.set_of b) test (reverse (loads_before (trace_of b r) p)) (loads_from (trace_of b r) p) most_sets
        ∙ count_to-cong _ _ 256 (λ s h. ap₂ (λ (cached : Bool) (before : List ℕ). (cached && old.useful_set (old.set_of b) (reverse before) (loads_from (trace_of b r) p) s) && test s) (sym (eq-eqb (memory b) 2 kind)) (loads-01 0 p)
        ∙ ap (λ (later : List ℕ). (eqb (memory b) 2 && old.useful_set (old.set_of b) (reverse (old.loads b r 0 p)) later s) && test s) (loads-01 p (trace_length b r - p)))

    nothing : (memory b ≡ 2 → ⊥) → (test : ℕ → Bool) (p : ℕ) → useful_sets test p ≡ 0
    unfolding old.useful
    nothing n test p = count_to-zero _ 256 (λ s h. rw (ne_eqb (memory b) 2 n))

    pub most_useful-01 : Sound b → (test : ℕ → Bool) → most_useful (trace_of b r) test ≡ max_to (useful_sets test) (trace_length b r)
    unfolding most_useful trace_of
    most_useful-01 sound test = go (ℕ_discrete (memory b) 2)
      where
        go : Dec (memory b ≡ 2) → most_useful (trace_of b r) test ≡ max_to (useful_sets test) (trace_length b r)
        go (yes kind) = max_to-cong _ _ (trace_length b r) (λ p h. useful_at-01 sound kind test p)
        go (no n) =
            omega (
              arith,
              most_useful-plain (trace_of b r) (omega arith) test,
              max_to-bound (useful_sets test) (trace_length b r) 0 (λ p h. omega (arith, nothing n test p)),
            )
