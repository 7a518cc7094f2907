-- For the code: loads as the code scans them, position by position: l e is the block + 1 that position e loads, and 0 where it loads nothing.
-- Assumes nothing.
use Rattle.std.specs.Prelude.{ℕ, zero, suc, ◌-◌, Bool, not, ◌&&◌, List, [], ◌∷◌, eqb}
use Rattle.lru_cache.specs.Recency.{hits, next_hits, useful_in}

-- the list with what a position loads in front
abbrev pub with_load : ℕ → List ℕ → List ℕ
with_load zero ms = ms
with_load (suc m) ms = m ∷ ms

-- the loads in the positions below e, the last first, and those in the k positions from e on, in order
unfoldable pub before : (ℕ → ℕ) → ℕ → List ℕ
before l zero = []
before l (suc e) = with_load (l e) (before l e)

unfoldable pub next_loads : (ℕ → ℕ) → ℕ → ℕ → List ℕ
next_loads l e zero = []
next_loads l e (suc k) = with_load (l e) (next_loads l (suc e) k)

-- the set of what a position loads, and whether it loads into set s
abbrev pub load_set : (ℕ → ℕ) → ℕ → ℕ
load_set place x = place (x - 1)

abbrev pub loads_into : (ℕ → ℕ) → ℕ → ℕ → Bool
loads_into place s x = not (eqb x 0) && eqb (load_set place x) s

module _ (place : ℕ → ℕ) (ways : ℕ) (l : ℕ → ℕ) where
  -- whether position e loads, and its load hits
  unfoldable pub position_hits : ℕ → Bool
  position_hits e = not (eqb (l e) 0) && hits place ways (before l e) (l e - 1)

  -- whether it loads and misses
  unfoldable pub position_misses : ℕ → Bool
  position_misses e = not (eqb (l e) 0) && not (hits place ways (before l e) (l e - 1))

  -- whether position e loads, and the next load of its block in the k positions after it exists and hits
  unfoldable pub position_kept : ℕ → ℕ → Bool
  position_kept e k = not (eqb (l e) 0) && next_hits place ways (before l (suc e)) (next_loads l (suc e) k) (l e - 1)

  -- of a run of n positions: the useful blocks of set s before position e
  unfoldable pub useful_before : ℕ → ℕ → ℕ → ℕ
  useful_before n e s = useful_in place ways (before l e) (next_loads l e (n - e)) s
