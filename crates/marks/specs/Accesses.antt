-- For the code: the data access of a work word.
-- Assumes nothing.
use Rattle.std.specs.Prelude.{ℕ, ◌+◌, Bool, not, cond, ◌&&◌, eqb}
use Rattle.board.specs.Layout.{kind_of, block_of}
use Rattle.trace.specs.Caches.{place_in}
use Rattle.trace.specs.declared.cache.Cache.{Cache}

-- what it loads, a block + 1 or 0 for nothing, and whether it touches place s of the cache that its block lies in
unfoldable pub load_of : ℕ → ℕ
load_of w = cond (eqb (kind_of w) 1) (block_of w + 1) 0

abbrev pub data_touches : Cache → ℕ → ℕ → Bool
data_touches cache w s = not (eqb (kind_of w) 0) && eqb (place_in cache (block_of w)) s
