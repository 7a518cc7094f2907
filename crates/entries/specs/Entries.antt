-- For the code: the blocks held in a set as words of an array, the last loaded first, each with the position of its last load: key × 2048 + position. The key
-- is base + block + 1, with another base for each trace: an entry that an earlier trace left has a key of no block of this one, so that no word is cleared. No
-- block is held past such an entry.
-- Assumes nothing.
use Rattle.std.specs.Prelude.{ℕ, zero, suc, ◌+◌, ◌/◌, ◌%◌, Bool, cond, ◌||◌, Option, None, Some, List, leb, eqb, get_or, set}

-- whether an entry has key x
abbrev pub is_of : ℕ → ℕ → Bool
is_of x entry = eqb (entry / 2048) x

-- whether an earlier trace left it
abbrev pub is_earlier : ℕ → ℕ → Bool
is_earlier base entry = leb (entry / 2048) base

-- the position + 1 of the entry of key x among the n entries from i on, up to the first of an earlier trace, and 0 where there is none
unfoldable pub found : ℕ → ℕ → List ℕ → ℕ → ℕ → ℕ
found base x held i zero = 0
found base x held i (suc n) =
    cond (is_of x (get_or held i 0)) (1 + get_or held i 0 % 2048) (cond (is_earlier base (get_or held i 0)) 0 (found base x held (suc i) n))

-- the position alone, where there is one
abbrev pub position_of : ℕ → Option ℕ
position_of zero = None
position_of (suc p) = Some p

-- the array with v put in front of the n entries from i on: they move on by one, up to the place of x or the first of an earlier trace, and the last is
-- lost where neither is there
unfoldable pub shifted : ℕ → ℕ → ℕ → List ℕ → ℕ → ℕ → List ℕ
shifted base x v held i zero = held
shifted base x v held i (suc n) =
    cond (is_of x (get_or held i 0) || is_earlier base (get_or held i 0)) (set held i v) (shifted base x (get_or held i 0) (set held i v) (suc i) n)
