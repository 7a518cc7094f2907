-- For the code: the mark of a position, by which the scan that finds hits tells the scan that counts useful blocks what the position does, and the entries
-- that the first scan keeps.
-- Assumes nothing.
use Rattle.std.specs.Prelude.{ℕ, zero, suc, ◌+◌, ◌-◌, ◌*◌, ◌/◌, ◌<◌, not, cond, List, [], ◌∷◌, map, ◌≡◌, eqb, get_or, set}
use Rattle.folds.specs.Folds.{only_if}
use Rattle.lru_cache.specs.Recency.{recent}
use Rattle.entries.specs.Entries.{found, shifted}
use Rattle.lru_cache.specs.Positions.{before, load_set, position_hits, position_kept}

-- the last position below e that loads block m, and 0 where none does
unfoldable pub last_of : (ℕ → ℕ) → ℕ → ℕ → ℕ
last_of l zero m = 0
last_of l (suc e) m = cond (eqb (l e) (suc m)) e (last_of l e m)

-- the entry of block m before position e
abbrev pub entry_of : ℕ → (ℕ → ℕ) → ℕ → ℕ → ℕ
entry_of base l e m = (base + suc m) * 2048 + last_of l e m

-- a word that has no key of a trace with this base
abbrev pub Earlier : ℕ → ℕ → Type 0
Earlier base entry = entry < (base + 1) * 2048

-- no word of an array has one
abbrev pub AllEarlier : ℕ → List ℕ → Type 0
AllEarlier base held = (j : ℕ) → Earlier base (get_or held j 0)

-- the base of trace r of a board, and that of the next trace: a block is below 65,536
abbrev pub base_of : ℕ → ℕ
base_of r = 65536 * r

abbrev pub next_base : ℕ → ℕ
next_base base = base + 65536

-- the n words of an array from i on are those of the list, and past its end they are of earlier traces
abbrev pub Are : ℕ → List ℕ → ℕ → ℕ → List ℕ → Type 0
Are base held i zero vs = Unit {0}
Are base held i (suc n) [] = Earlier base (get_or held i 0) × Are base held (suc i) n []
Are base held i (suc n) (v ∷ vs) = (get_or held i 0 ≡ v) × Are base held (suc i) n vs

module _ (place : ℕ → ℕ) (ways : ℕ) (l : ℕ → ℕ) where
  -- the entries of every set before position e
  abbrev pub Held : ℕ → List ℕ → ℕ → ℕ → Type 0
  Held base held sets e = (s : ℕ) → s < sets → Are base held (s * ways) ways (map (entry_of base l e) (recent place s (before l e)))

  -- the mark of position i, as known before position e: 4 × its set, 2 more where its load hits, and 1 more where the next load of its block, below e, hits
  unfoldable pub mark_of : ℕ → ℕ → ℕ
  mark_of e i = only_if (not (eqb (l i) 0)) (4 * load_set place (l i)) + 2 * only_if (position_hits place ways l i) 1
      + only_if (position_kept place ways l i (e - (i + 1))) 1

  -- the marks of the positions below e
  abbrev pub Marked : List ℕ → ℕ → Type 0
  Marked marks e = (i : ℕ) → i < e → get_or marks i 0 ≡ mark_of e i

-- what the code makes of the marks where position e loads into set s: `last` is the position + 1 of the block's last load where it is held, and 0 where not
abbrev pub mark_miss : List ℕ → ℕ → ℕ → List ℕ
mark_miss marks e s = set marks e (4 * s)

abbrev pub mark_hit : List ℕ → ℕ → ℕ → ℕ → List ℕ
mark_hit marks e s last = set (set marks e (4 * s + 2)) (last - 1) (get_or (set marks e (4 * s + 2)) (last - 1) 0 / 2 * 2 + 1)

unfoldable pub mark_load : List ℕ → ℕ → ℕ → ℕ → List ℕ
mark_load marks e s last = cond (eqb last 0) (mark_miss marks e s) (mark_hit marks e s last)

-- a position that loads x (a block + 1, or 0 for nothing) into set s: the entries and the marks after it, and 1 where its load misses
unfoldable pub position_held : ℕ → ℕ → ℕ → ℕ → ℕ → List ℕ → List ℕ
position_held base ways s x e array = cond (eqb x 0) array (shifted base (base + x) ((base + x) * 2048 + e) array (s * ways) ways)

unfoldable pub position_marks : ℕ → ℕ → ℕ → ℕ → ℕ → List ℕ → List ℕ → List ℕ
position_marks base ways s x e array marks = cond (eqb x 0) (set marks e 0) (mark_load marks e s (found base (base + x) array (s * ways) ways))

unfoldable pub position_missed : ℕ → ℕ → ℕ → ℕ → List ℕ → ℕ
position_missed base ways s x array = cond (eqb x 0) 0 (only_if (eqb (found base (base + x) array (s * ways) ways) 0) 1)
