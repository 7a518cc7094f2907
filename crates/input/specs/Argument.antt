-- The number in an argument of a program: decimal digits, at most as large as a 64-bit number can be, and 0 where it has another byte or none.
-- Assumes nothing.
use Rattle.std.specs.Prelude.{ℕ, zero, suc, ◌+◌, ◌-◌, ◌*◌, ◌^◌, min, Bool, not, cond, ◌&&◌, List, leb, length, get_or}
use Rattle.folds.specs.Folds.{any_to}

-- a byte from 0 to 9, in ASCII
abbrev pub is_digit : ℕ → Bool
is_digit byte = leb 48 byte && leb byte 57

-- some byte is no digit
abbrev pub has_other : List ℕ → Bool
has_other bytes = any_to (λ k. not (is_digit (get_or bytes k 0))) (length bytes)

-- the value of the first k digits, the highest first
unfoldable pub value_to : List ℕ → ℕ → ℕ
value_to bytes zero = 0
value_to bytes (suc k) = 10 * value_to bytes k + (get_or bytes k 0 - 48)

unfoldable pub number_in : List ℕ → ℕ
number_in bytes = cond (has_other bytes) 0 (min (value_to bytes (length bytes)) (2 ^ 64 - 1))
