-- Rows 1 to 9 of the refusal table, which a board alone decides, in their order.
-- Assumes nothing.
use Rattle.std.specs.Prelude.{ℕ, ◌-◌, Bool, not, cond, List, length, leb, eqb, Result, Ok, Err}
use Rattle.folds.specs.Folds.{first_from}
use Rattle.board.specs.Layout.{tasks, traces, instructions, lengths_at, fetches_at, works_at, board_words, first_trace, first_instruction, most_words}
use Rattle.ranges.specs.Ranges.{within, header_ok, task_ok, length_ok, fetch_ok, work_ok}
use Rattle.refusals.specs.declared.Row.{Row}
use Rattle.refusals.specs.declared.Row.TheVariants.{BoardSize, HeaderWord, BoardLength, TaskWord, TraceSum, TraceLength, LengthSum, FetchedBlock, WorkWord, TaskNumber, TimesBuffer, Scratch, FiguresTable, GivenTime, InputBytes, TaskList}
use Rattle.refusals.specs.declared.Refusal.{Refusal}

-- the number of a row in the table
abbrev pub row_number : Row → ℕ
row_number BoardSize = 1
row_number HeaderWord = 2
row_number BoardLength = 3
row_number TaskWord = 4
row_number TraceSum = 5
row_number TraceLength = 6
row_number LengthSum = 7
row_number FetchedBlock = 8
row_number WorkWord = 9
row_number TaskNumber = 10
row_number TimesBuffer = 11
row_number Scratch = 12
row_number FiguresTable = 13
row_number GivenTime = 14
row_number InputBytes = 15
row_number TaskList = 16

-- what a check says: nothing where all is well, and else the row that refuses, and its place
abbrev pub Verdict : Type 0
Verdict = Result Unit Refusal

-- a row refuses, at `place`
abbrev pub refused : Row → ℕ → Verdict
refused row place = Err (record { row = row; place = place })

-- a row refuses, at `place`, unless the test holds
unfoldable pub refuse_unless : Row → Bool → ℕ → Verdict
refuse_unless row test place = cond test (Ok tt) (refused row place)

-- the first index of from .. end - 1 that fails the test, and end where none does
unfoldable pub first_bad : (ℕ → Bool) → ℕ → ℕ → ℕ
first_bad test from end = first_from (λ i. not (test i)) (end - from) from

-- a row refuses at the first index of from .. end - 1 that fails the test, ascending
unfoldable pub refuse_first : Row → (ℕ → Bool) → ℕ → ℕ → Verdict
refuse_first row test from end = refuse_unless row (leb end (first_bad test from end)) (first_bad test from end)

infixr 20 ◌or_else◌
-- the first of two rows that refuses
abbrev pub ◌or_else◌ : Verdict → Verdict → Verdict
Ok passed or_else rest = rest
Err refusal or_else rest = Err refusal

-- rows 1 to 9
unfoldable pub refusal_of : List ℕ → Verdict
refusal_of b =
    refuse_unless BoardSize (within 20 most_words (length b)) (length b)
    or_else refuse_first HeaderWord (header_ok b) 0 20
    or_else refuse_unless BoardLength (eqb (length b) (board_words b)) (board_words b)
    or_else refuse_first TaskWord (task_ok b) 20 (lengths_at b)
    or_else refuse_unless TraceSum (eqb (first_trace b (tasks b)) (traces b)) 20
    or_else refuse_first TraceLength (length_ok b) (lengths_at b) (fetches_at b)
    or_else refuse_unless LengthSum (eqb (first_instruction b (traces b)) (instructions b)) (lengths_at b)
    or_else refuse_first FetchedBlock (fetch_ok b) (fetches_at b) (works_at b)
    or_else refuse_first WorkWord (work_ok b) (works_at b) (board_words b)
