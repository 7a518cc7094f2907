-- For the theorems: a direct-mapped cache, by which the figures were defined before caches had ways. No contract cites it; proofs/OneWay.antt proves
-- that with one way every figure is this one.
-- Assumes nothing.
use Rattle.std.specs.Prelude.{ℕ, Bool, false, not, cond, List, [], ◌∷◌, reverse, eqb, length, get_or, take}
use Rattle.std.proofs.Math.Option.{Option, none, some}
use Rattle.folds.specs.Folds.{count_to}

module _ (place : ℕ → ℕ) where
  -- the first, and the last, of the blocks that lies in set s, if there is one
  unfoldable pub first_in : ℕ → List ℕ → Option ℕ
  first_in s [] = none
  first_in s (m ∷ ms) = cond (eqb (place m) s) (some m) (first_in s ms)

  unfoldable pub last_in : ℕ → List ℕ → Option ℕ
  last_in s ms = first_in s (reverse ms)

-- both exist and name one block
abbrev pub same_block : Option ℕ → Option ℕ → Bool
same_block (some m) (some m') = eqb m m'
same_block (some m) none = false
same_block none (some m') = false
same_block none none = false

module _ (place : ℕ → ℕ) where
  -- a load of block m hits if m was the last loaded in its set; the cache is empty at first
  unfoldable pub direct_hits : List ℕ → ℕ → Bool
  direct_hits before m = same_block (last_in place (place m) before) (some m)

  -- load e of ms misses, and how many of them do
  abbrev pub misses : List ℕ → ℕ → Bool
  misses ms e = not (direct_hits (take e ms) (get_or ms e 0))

  unfoldable pub direct_misses : List ℕ → ℕ
  direct_misses ms = count_to (misses ms) (length ms)

  -- set s is useful if the last load in s before and the first later both exist and name one block
  unfoldable pub direct_useful : List ℕ → List ℕ → ℕ → Bool
  direct_useful before later s = same_block (last_in place s before) (first_in place s later)
