-- The figures table as 32-bit words: a buffer of m words has room for m / record_words records.
-- Assumes nothing.
use Rattle.std.specs.Prelude.{ℕ, ◌*◌, ◌/◌, ◌%◌, ◌^◌, List, Ok, Err, [], ◌∷◌, ◌++◌, length, get_or}
use Rattle.folds.specs.Folds.{fill_to}
use Rattle.board.specs.Layout.{tasks}
use Rattle.refusals.specs.Refusals.{Verdict}
use Rattle.figures.specs.declared.Figure.{Figure}
use Rattle.figures.specs.Figures.{figure_of}

-- the words of a record
abbrev pub record_words : ℕ
record_words = 21

-- the records that a buffer has room for
abbrev pub record_room : List ℕ → ℕ
record_room words = length words / record_words

-- the low and the high 32 bits of a 64-bit word
abbrev pub low_half : ℕ → ℕ
low_half x = x % 2 ^ 32

abbrev pub high_half : ℕ → ℕ
high_half x = x / 2 ^ 32

-- an ECB as words: each of its four as its low and its high half
abbrev pub ecb_halves : List ℕ → List ℕ
ecb_halves e =
    low_half (get_or e 0 0) ∷ high_half (get_or e 0 0)
    ∷ low_half (get_or e 1 0) ∷ high_half (get_or e 1 0)
    ∷ low_half (get_or e 2 0) ∷ high_half (get_or e 2 0)
    ∷ low_half (get_or e 3 0) ∷ high_half (get_or e 3 0)
    ∷ []

-- a record as words: core, T, D, PD, MD, then the ECB of each cache, the code's first
unfoldable pub figure_words : Figure → List ℕ
figure_words f = f.core ∷ f.period ∷ f.deadline ∷ f.pd ∷ f.md ∷ (ecb_halves f.ecb ++ ecb_halves f.data_ecb)

abbrev pub figure_word : Figure → ℕ → ℕ
figure_word f w = get_or (figure_words f) w 0

-- word w of the table of a board's figures
abbrev pub table_word : List ℕ → ℕ → ℕ
table_word b w = figure_word (figure_of b (w / record_words)) (w % record_words)

-- the words, which were `old`, after a call: its first n records are the figures, unless refused
unfoldable pub records_after : List ℕ → Verdict → List ℕ → List ℕ
records_after b (Ok passed) old = fill_to (table_word b) (record_words * tasks b) old
records_after b (Err refusal) old = old
