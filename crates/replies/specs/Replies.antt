-- What a call gives for its answer: a code, and two numbers, which are the two words of its parameter `answer`.
-- Assumes nothing.
use Rattle.std.specs.Prelude.{ℕ, List, Result, Ok, Err, [], ◌∷◌}
use Rattle.refusals.specs.Refusals.{row_number}
use Rattle.refusals.specs.declared.Refusal.{Refusal}
use Rattle.interference.specs.Parts.{listed}
use Rattle.answers.specs.declared.Answer.{Answer}
use Rattle.answers.specs.declared.Answer.TheVariants.{Times, Late, Spent}
use Rattle.answers.specs.declared.MadeUp.{MadeUp}
use Rattle.answers.specs.declared.MadeUp.TheVariants.{Parts, Spent as MadeUp-as-Spent}
use Rattle.answers.specs.PartNumbers.{part_number}

-- ---- Figures, Overhead, Weigh: the value, or the number of the refusal and its place

abbrev pub outcome_code : Result ℕ Refusal → ℕ
outcome_code (Ok value) = 0
outcome_code (Err refusal) = 3

abbrev pub outcome_words : Result ℕ Refusal → List ℕ
outcome_words (Ok value) = value ∷ 0 ∷ []
outcome_words (Err refusal) = row_number refusal.row ∷ refusal.place ∷ []

-- ---- Analyse: the passes, or the late task and the passes, or nothing, or the number of the refusal and its place

abbrev pub answer_code : Result Answer Refusal → ℕ
answer_code (Ok (Times passes)) = 0
answer_code (Ok (Late task passes)) = 1
answer_code (Ok Spent) = 2
answer_code (Err refusal) = 3

abbrev pub answer_words : Result Answer Refusal → List ℕ
answer_words (Ok (Times passes)) = passes ∷ 0 ∷ []
answer_words (Ok (Late task passes)) = task ∷ passes ∷ []
answer_words (Ok Spent) = 0 ∷ 0 ∷ []
answer_words (Err refusal) = row_number refusal.row ∷ refusal.place ∷ []

-- ---- how a time is made up: the reason, or nothing, or the number of the refusal and its place

abbrev pub made_up_code : Result MadeUp Refusal → ℕ
made_up_code (Ok (Parts parts reason)) = 0
made_up_code (Ok MadeUp-as-Spent) = 2
made_up_code (Err refusal) = 3

abbrev pub made_up_words : Result MadeUp Refusal → List ℕ
made_up_words (Ok (Parts parts reason)) = part_number reason ∷ 0 ∷ []
made_up_words (Ok MadeUp-as-Spent) = 0 ∷ 0 ∷ []
made_up_words (Err refusal) = row_number refusal.row ∷ refusal.place ∷ []

-- the six words of its parameter `parts`, which were `old`: the six numbers, where there are any
abbrev pub parts_after : Result MadeUp Refusal → List ℕ → List ℕ
parts_after (Ok (Parts parts reason)) old = listed parts
parts_after (Ok MadeUp-as-Spent) old = old
parts_after (Err refusal) old = old
