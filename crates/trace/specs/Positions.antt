-- For the code: the loads of a trace as the code scans them: position 2p is the fetch of instruction p, position 2p + 1 its read; a position holds the block + 1,
-- and 0 where it loads nothing. Only the code's loops and proofs/Positions.antt speak of positions: a reader of the definitions can pass this file by.
-- Assumes nothing.
use Rattle.std.specs.Prelude.{ℕ, ◌+◌, ◌/◌, ◌%◌, Bool, not, cond, ◌&&◌, ◌||◌, leb, eqb}
use Rattle.folds.specs.Folds.{only_if}
use Rattle.board.specs.Layout.{kind_of}
use Rattle.trace.specs.Traces.{Trace, fetch, work, reads, writes, data_block}

-- position e of a trace
unfoldable pub load_at : Trace → ℕ → ℕ
load_at t e = cond (eqb (e % 2) 0) (fetch t (e / 2) + 1) (cond (reads t (e / 2)) (data_block t (e / 2) + 1) 0)

-- without a cache: the bus accesses of instruction p, where fetches of blocks from `low` on and reads of blocks from `high` on use the bus
unfoldable pub accesses : Trace → ℕ → ℕ → ℕ → ℕ
accesses t low high p = only_if (leb low (fetch t p)) 1 + only_if (reads t p && leb high (data_block t p)) 1 + only_if (writes t p) 1

-- whether instruction p touches set s
unfoldable pub touches : Trace → (ℕ → ℕ) → ℕ → ℕ → Bool
touches t place p s = eqb (place (fetch t p)) s || (not (eqb (kind_of (work t p)) 0) && eqb (place (data_block t p)) s)
