-- A cache with several ways and least-recently-used replacement, seen from the blocks that were loaded (fetched or read).
-- `place m` is the set of block m; `past` has the loads before a moment, the last one first, `later` those from it on, in order.
-- Assumes nothing.
use Rattle.std.specs.Prelude.{ℕ, ◌+◌, Bool, false, not, ◌||◌, ◌&&◌, cond, List, [], ◌∷◌, eqb, take}
use Rattle.folds.specs.Folds.{only_if}

-- ---- lists of blocks

-- whether m is in the list
unfoldable pub among : ℕ → List ℕ → Bool
among m [] = false
among m (x ∷ xs) = eqb x m || among m xs

-- the list without m, where it stands first
unfoldable pub without : ℕ → List ℕ → List ℕ
without m [] = []
without m (x ∷ xs) = cond (eqb x m) xs (x ∷ without m xs)

-- how many of the list pass the test
unfoldable pub count_in : (ℕ → Bool) → List ℕ → ℕ
count_in test [] = 0
count_in test (x ∷ xs) = only_if (test x) 1 + count_in test xs

-- whether some of the blocks lies in set s
unfoldable pub some_in : (ℕ → ℕ) → ℕ → List ℕ → Bool
some_in place s [] = false
some_in place s (m ∷ ms) = eqb (place m) s || some_in place s ms

module _ (place : ℕ → ℕ) where
  -- the different blocks loaded in set s, the last loaded first: a load moves its block to the front
  unfoldable pub recent : ℕ → List ℕ → List ℕ
  recent s [] = []
  recent s (m ∷ past) = cond (eqb (place m) s) (m ∷ without m (recent s past)) (recent s past)

  module _ (ways : ℕ) where
    -- the blocks held in set s: the last so many different blocks loaded in it
    abbrev pub held : ℕ → List ℕ → List ℕ
    held s past = take ways (recent s past)

    -- a load of m hits if m is among them; the cache is empty at first
    unfoldable pub hits : List ℕ → ℕ → Bool
    hits past m = among m (held (place m) past)

    -- how many of the later loads miss
    unfoldable pub miss_count : List ℕ → List ℕ → ℕ
    miss_count past [] = 0
    miss_count past (m ∷ later) = only_if (not (hits past m)) 1 + miss_count (m ∷ past) later

    -- the next load of m exists, and hits in the undisturbed run
    unfoldable pub next_hits : List ℕ → List ℕ → ℕ → Bool
    next_hits past [] m = false
    next_hits past (x ∷ later) m = cond (eqb x m) (hits past m) (next_hits (x ∷ past) later m)

    -- a block is useful if it is held and its next load hits
    abbrev pub useful_block : List ℕ → List ℕ → ℕ → Bool
    useful_block past later m = among m (held (place m) past) && next_hits past later m

    -- how many blocks of set s are useful: of those held in it, the ones whose next load hits
    unfoldable pub useful_in : List ℕ → List ℕ → ℕ → ℕ
    useful_in past later s = count_in (next_hits past later) (held s past)
