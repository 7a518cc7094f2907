-- For the code: the caches of a board as the code has them. Each is a part of the board's places: `sets` of them, from `first` on.
-- Assumes nothing.
use Rattle.std.specs.Prelude.{ℕ, ◌+◌, ◌≤◌, ◌<◌, List, ◌≡◌}
use Rattle.board.specs.Layout.{first_data_block, ways}
use Rattle.trace.specs.Cache.{set_of, place_of}
use Rattle.trace.specs.declared.cache.Cache.{Cache}

-- the place of block m in a cache
abbrev pub place_in : Cache → ℕ → ℕ
place_in cache m = cache.first + set_of cache.sets m

-- of the ways of board b: in the first lie its code blocks, in the second its data blocks. One cache twice, or two that have no place in common
pub record CachesOf (b : List ℕ) (code datum : Cache) : Type 0 where
  pub code_ways : code.ways ≡ ways b
  pub data_ways : datum.ways ≡ ways b
  pub code_place : (m : ℕ) → m < first_data_block → place_of b m ≡ place_in code m
  pub data_place : (m : ℕ) → first_data_block ≤ m → place_of b m ≡ place_in datum m
