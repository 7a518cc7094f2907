-- For the code: what a search for the first bad index answers, a row that refuses there, and the rows that a board's header leaves.
-- Assumes nothing.
use Rattle.std.specs.Prelude.{ℕ, Bool, List, cond, leb, eqb, Ok, Option, Some, None}
use Rattle.board.specs.Layout.{tasks, traces, instructions, lengths_at, fetches_at, works_at, board_words, first_trace, first_instruction}
use Rattle.ranges.specs.Ranges.{task_ok, length_ok, fetch_ok, work_ok}
use Rattle.refusals.specs.Refusals.{Verdict, refused, refuse_unless, first_bad, refuse_first, ◌or_else◌}
use Rattle.refusals.specs.declared.Row.{Row}
use Rattle.refusals.specs.declared.Row.TheVariants.{TaskWord, TraceSum, TraceLength, LengthSum, FetchedBlock, WorkWord}

-- the first index of from .. end - 1 that fails the test, if there is one
unfoldable pub bad_in : (ℕ → Bool) → ℕ → ℕ → Option ℕ
bad_in test from end = cond (leb end (first_bad test from end)) None (Some (first_bad test from end))

-- a row refuses at the place found, if one is
abbrev pub refuse_at : Row → Option ℕ → Verdict
refuse_at row (Some place) = refused row place
refuse_at row None = Ok tt

-- rows 4 to 9
abbrev pub body_rows : List ℕ → Verdict
body_rows b =
    refuse_first TaskWord (task_ok b) 20 (lengths_at b)
    or_else refuse_unless TraceSum (eqb (first_trace b (tasks b)) (traces b)) 20
    or_else refuse_first TraceLength (length_ok b) (lengths_at b) (fetches_at b)
    or_else refuse_unless LengthSum (eqb (first_instruction b (traces b)) (instructions b)) (lengths_at b)
    or_else refuse_first FetchedBlock (fetch_ok b) (fetches_at b) (works_at b)
    or_else refuse_first WorkWord (work_ok b) (works_at b) (board_words b)
