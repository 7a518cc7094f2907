-- The page of how a time is made up: a line for each of the six parts with its name, then what they add up to, the deadline, the largest time
-- that is not late, and the reason.
-- Assumes nothing.
use Rattle.std.specs.Prelude.{ℕ, zero, suc, ◌-◌, List, [], ◌∷◌, ◌++◌, length, get_or, Result, Ok, Err}
use Rattle.folds.specs.Folds.{join_to}
use Rattle.board.specs.Layout.{deadline, pass_limit}
use Rattle.sums.specs.Sums.{bound}
use Rattle.sums.specs.SixParts.{total}
use Rattle.interference.specs.Parts.{listed}
use Rattle.refusals.specs.Refusals.{row_number}
use Rattle.refusals.specs.declared.Refusal.{Refusal}
use Rattle.answers.specs.declared.MadeUp.{MadeUp}
use Rattle.answers.specs.declared.MadeUp.TheVariants.{Parts, Spent}
use Rattle.answers.specs.PartNumbers.{part_number}
use Rattle.text.specs.Text.{decimal, line, spent_text, sum_text, deadline_text, largest_time_text, reason_text}
use Rattle.answer_page.specs.AnswerPage.{bad_line}

-- the name of each part, by its index: own-work, higher-work, core-accesses, other-accesses, blocking-access, refreshes
unfoldable pub part_name : ℕ → List ℕ
part_name zero = 111 ∷ 119 ∷ 110 ∷ 45 ∷ 119 ∷ 111 ∷ 114 ∷ 107 ∷ []
part_name (suc zero) = 104 ∷ 105 ∷ 103 ∷ 104 ∷ 101 ∷ 114 ∷ 45 ∷ 119 ∷ 111 ∷ 114 ∷ 107 ∷ []
part_name (suc (suc zero)) = 99 ∷ 111 ∷ 114 ∷ 101 ∷ 45 ∷ 97 ∷ 99 ∷ 99 ∷ 101 ∷ 115 ∷ 115 ∷ 101 ∷ 115 ∷ []
part_name (suc (suc (suc zero))) = 111 ∷ 116 ∷ 104 ∷ 101 ∷ 114 ∷ 45 ∷ 97 ∷ 99 ∷ 99 ∷ 101 ∷ 115 ∷ 115 ∷ 101 ∷ 115 ∷ []
part_name (suc (suc (suc (suc zero)))) = 98 ∷ 108 ∷ 111 ∷ 99 ∷ 107 ∷ 105 ∷ 110 ∷ 103 ∷ 45 ∷ 97 ∷ 99 ∷ 99 ∷ 101 ∷ 115 ∷ 115 ∷ []
part_name (suc (suc (suc (suc (suc m))))) = 114 ∷ 101 ∷ 102 ∷ 114 ∷ 101 ∷ 115 ∷ 104 ∷ 101 ∷ 115 ∷ []

-- name, cycles
abbrev pub part_line : List ℕ → ℕ → List ℕ
part_line parts k = line (part_name k ∷ decimal (get_or parts k 0) ∷ [])

-- the sum; the deadline of task i; its largest time that is not late; the number of the reason, from 1, and its name
abbrev pub last_lines : List ℕ → ℕ → List ℕ → ℕ → List ℕ
last_lines b i parts reason =
    line (sum_text ∷ decimal (total parts) ∷ [])
    ++ (line (deadline_text ∷ decimal (deadline b i) ∷ [])
    ++ (line (largest_time_text ∷ decimal (bound b i) ∷ []) ++ line (reason_text ∷ decimal reason ∷ part_name (reason - 1) ∷ [])))

-- the page of an answer r, of task i; spent and refused as the page of Analyse has them
unfoldable pub made_up_page : List ℕ → ℕ → Result MadeUp Refusal → List ℕ
made_up_page b i (Ok (Parts parts reason)) = join_to (part_line (listed parts)) (length (listed parts)) ++ last_lines b i (listed parts) (part_number reason)
made_up_page b i (Ok Spent) = line (spent_text ∷ decimal (pass_limit b) ∷ [])
made_up_page b i (Err refusal) = bad_line (row_number refusal.row) refusal.place
