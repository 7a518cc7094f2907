-- For the code: a number for each set of c caches, kept as planes of 4c words, 256 sets a cache. Plane i is the words from 4(i × c) on; bit j of the number
-- of set s is whether s is in plane from + j. One plane keeps 0 or 1, so that it is a set; four keep up to 15.
-- Assumes nothing.
use Rattle.std.specs.Prelude.{ℕ, zero, suc, ◌+◌, ◌*◌, ◌/◌, ◌%◌, Bool, List, get_or}
use Rattle.folds.specs.Folds.{only_if}
use Rattle.bitset.specs.Bits.{bit}

module _ (c : ℕ) where
  -- the number of sets
  abbrev pub sets_of : ℕ
  sets_of = 256 * c

  -- whether s is in plane i
  abbrev pub in_plane : List ℕ → ℕ → ℕ → Bool
  in_plane words i s = bit (get_or words (4 * (i * c) + s / 64) 0) (s % 64)

  -- the number of set s in the n planes from `from` on
  unfoldable pub count_of : List ℕ → ℕ → ℕ → ℕ → ℕ
  count_of words from zero s = 0
  count_of words from (suc n) s = only_if (in_plane words from s) 1 + 2 * count_of words (suc from) n s

-- the largest number of n planes
abbrev pub largest : ℕ → ℕ
largest zero = 0
largest (suc n) = 1 + 2 * largest n
