-- The range of each word of a board.
-- Assumes nothing.
use Rattle.std.specs.Prelude.{ℕ, ◌-◌, ◌%◌, Bool, cond, ◌&&◌, List, [], ◌∷◌, get_or, leb, ltb, eqb}
use Rattle.board.specs.Layout.{word, cores, memory, bus, refresh, kind_of, block_of, most_tasks, longest, most_refresh_rows, most_put_off, first_data_block, most_sets, is_ways}

-- low .. high
abbrev pub within : ℕ → ℕ → ℕ → Bool
within low high x = leb low x && leb x high

abbrev pub is_zero : ℕ → Bool
is_zero x = eqb x 0

-- a word that passes the test where it is in use, and is 0 where not
abbrev pub test_if : Bool → (ℕ → Bool) → ℕ → Bool
test_if used test x = cond used (test x) (is_zero x)

-- low .. high where the word is in use, and 0 where not
abbrev pub range_if : Bool → ℕ → ℕ → ℕ → Bool
range_if used low high = test_if used (within low high)

-- the sets of a cache where there is one, else the blocks that a scratchpad holds where there is one, and 0 where there is neither
abbrev pub sets_or_held : Bool → Bool → ℕ → Bool
sets_or_held cached held x = cond cached (within 1 most_sets x) (range_if held 0 first_data_block x)

-- the range of each header word; the words past these are spare
unfoldable pub header_ranges : List ℕ → List (ℕ → Bool)
header_ranges b =
    within 1 8
    ∷ within 1 most_tasks
    ∷ within 1 512
    ∷ within 1 8192
    ∷ within 0 3
    ∷ within 0 4
    ∷ range_if (leb 3 (bus b)) 1 8
    ∷ within 1 255
    ∷ within 0 2
    ∷ range_if (leb 1 (refresh b)) 1 longest
    ∷ range_if (leb 1 (refresh b)) 1 most_refresh_rows
    ∷ range_if (leb 1 (refresh b)) 0 255
    ∷ leb 1
    ∷ sets_or_held (leb 2 (memory b)) (eqb (memory b) 1)
    ∷ sets_or_held (eqb (memory b) 3) (eqb (memory b) 1)
    ∷ test_if (leb 2 (memory b)) is_ways
    ∷ range_if (eqb (refresh b) 2) 0 most_put_off
    ∷ []

unfoldable pub header_ok : List ℕ → ℕ → Bool
header_ok b i = get_or (header_ranges b) i is_zero (word b i)

-- the range of each word of a task, word i of the board: core, T, D (up to T, the word before it), trace count, J (up to D, two words before it)
unfoldable pub task_ranges : List ℕ → ℕ → List (ℕ → Bool)
task_ranges b i =
    within 1 (cores b)
    ∷ within 1 longest
    ∷ within 1 (word b (i - 1))
    ∷ within 1 8
    ∷ within 0 (word b (i - 2))
    ∷ []

-- the tasks start at word 20, so word i of the board is word i mod 5 of its task
unfoldable pub task_ok : List ℕ → ℕ → Bool
task_ok b i = get_or (task_ranges b i) (i % 5) is_zero (word b i)

abbrev pub length_ok : List ℕ → ℕ → Bool
length_ok b i = within 1 1024 (word b i)

abbrev pub fetch_ok : List ℕ → ℕ → Bool
fetch_ok b i = ltb (word b i) first_data_block

-- an execute has block 0, a read and a write have a data block
unfoldable pub work_ok : List ℕ → ℕ → Bool
work_ok b i =
    cond (eqb (kind_of (word b i)) 0) (eqb (block_of (word b i)) 0) (leb (kind_of (word b i)) 2 && leb first_data_block (block_of (word b i)))
