-- The useful blocks of a point whose set is in an ECB, for any words of the ECB, even those no task has ("with no set in them it is 0, and a set that joins
-- adds exactly its own useful blocks").
-- Assumes nothing.
use Rattle.std.specs.Prelude.{ℕ, ◌+◌, ◌<◌, Bool, true, false, List, ◌≡◌}
use Rattle.folds.specs.Folds.{sum_where}
use Rattle.bitset.specs.Bits.{member}
use Rattle.counts.specs.Planes.{sets_of, count_of}

-- the useful blocks in the sets that pass the test, where the planes of `live` have how many each set of c caches has
unfoldable pub count_by : ℕ → List ℕ → ℕ → (ℕ → Bool) → ℕ
count_by c live planes test = sum_where test (count_of c live 0 planes) (sets_of c)

-- no count is larger: 15 blocks, the most of four planes, in each set of two caches
abbrev pub most_counted : ℕ
most_counted = 7680

-- set s joins the words `before`: `after` has it too, and the others as they were
pub record Joins (c s : ℕ) (before after : List ℕ) : Type 0 where
  pub set : s < sets_of c
  pub new : member before s ≡ false
  pub own : member after s ≡ true
  pub others : (t : ℕ) → t < sets_of c → (t ≡ s → ⊥) → member after t ≡ member before t

-- r is the count by the words `ecb`
pub record Counted (c : ℕ) (live : List ℕ) (planes : ℕ) (ecb : List ℕ) (r : ℕ) : Type 0 where
  pub is : r ≡ count_by c live planes (member ecb)
  pub none : ((s : ℕ) → s < sets_of c → member ecb s ≡ false) → r ≡ 0
  pub joined : (s : ℕ) (before : List ℕ) → Joins c s before ecb → r ≡ count_by c live planes (member before) + count_of c live 0 planes s
