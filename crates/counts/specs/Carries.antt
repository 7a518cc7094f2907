-- For the code: a mark's carry, or borrow, on its way through the planes.
-- Assumes nothing.
use Rattle.std.specs.Prelude.{ℕ, ◌+◌, ◌/◌, ◌%◌, ◌^◌, ◌<◌, Bool, not, ◌&&◌, ◌||◌, List, ◌≡◌, eqb}
use Rattle.folds.specs.Folds.{only_if}
use Rattle.bitset.specs.Bits.{bit}
use Rattle.counts.specs.Planes.{sets_of, count_of}

-- one number, up or down: it was `old` and is `new`, with a carry in of `first` and one that still stands, of weight k, of `rest`
abbrev pub Balanced : Bool → Bool → Bool → ℕ → ℕ → ℕ → Type 0
Balanced down first rest k old new =
    new + only_if (not down && rest) k + only_if (down && first) 1 ≡ old + only_if (down && rest) k + only_if (not down && first) 1

-- whether a carry of word `at` goes into the number of set s
abbrev pub carried : ℕ → ℕ → ℕ → Bool
carried carry at s = eqb (s / 64) at && bit carry (s % 64)

-- whether a mark moves a number, and down
abbrev pub moves : ℕ → Bool
moves mark = eqb (mark % 4) 1 || eqb (mark % 4) 2

abbrev pub falls : ℕ → Bool
falls mark = eqb (mark % 4) 2

-- the set of the mark, where it moves
abbrev pub moved : ℕ → ℕ → Bool
moved mark s = eqb (mark / 4) s && moves mark

-- after i planes the numbers of live₀ have moved but for the carries
abbrev pub Rippled : ℕ → ℕ → ℕ → ℕ → List ℕ → ℕ → ℕ → List ℕ → Type 0
Rippled c planes mark at live₀ i carry live =
    (s : ℕ) → s < sets_of c → Balanced (falls mark) (moved mark s) (carried carry at s) (2 ^ i) (count_of c live₀ 0 planes s) (count_of c live 0 planes s)
