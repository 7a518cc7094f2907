-- Demand 3, on the value that a call returns and on the times buffer afterwards, by the passes that its own step needs.
-- Assumes nothing.
use Rattle.std.specs.Prelude.{ℕ, ◌+◌, ◌≤◌, ◌<◌, List, Result, Ok, ◌↔◌, ◌≡◌, length, take}
use Rattle.board.specs.Layout.{pass_limit}
use Rattle.refusals.specs.declared.Refusal.{Refusal}
use Rattle.passes.specs.Passes.{System, pass, passes_by, Choice, NoChoice, LeastChoice, SmallestLate}
use Rattle.answers.specs.declared.Answer.{Answer}
use Rattle.answers.specs.declared.Answer.TheVariants.{Times, Late, Spent}
use Rattle.checks.specs.CallRefusals.{analyse_refusal}
use Rattle.answers.specs.Answers.{system, analyse_answer, times_after, ScratchAfter}

-- the answer is late, whatever task and passes it names
abbrev pub AnswersLate : Result Answer Refusal → Type 0
AnswersLate r = (task : ℕ) × (passes : ℕ) × (r ≡ Ok (Late task passes))

pub record Demand3By (S : System) (step : List ℕ → List ℕ) (limit : ℕ) (r : Result Answer Refusal) (times : List ℕ) : Type 0 where
  -- spent exactly when the passes needed exceed the limit
  pub spent : (r ≡ Ok Spent) ↔ (limit < passes_by S step)
  -- else late exactly when there is no choice
  pub late : passes_by S step ≤ limit → AnswersLate r ↔ NoChoice S
  -- late names the smallest number, from 1, of a task settled at its bound + 1, and the passes needed
  pub names : (task passes : ℕ) → r ≡ Ok (Late task passes)
      → ((i : ℕ) × SmallestLate S i × (task ≡ i + 1)) × (passes ≡ passes_by S step)
  -- times gives the passes needed, and the first n times are then the least choice
  pub gives : (passes : ℕ) → r ≡ Ok (Times passes) → (passes ≡ passes_by S step) × LeastChoice S (take S.count times)
  -- where there is a choice, the answer is times, with the passes needed, and the first n times are the least choice
  pub settles : passes_by S step ≤ limit → (C : List ℕ) → Choice S C
      → (r ≡ Ok (Times (passes_by S step))) × LeastChoice S (take S.count times)

-- of Analyse
abbrev pub Demand3 : System → ℕ → Result Answer Refusal → List ℕ → Type 0
Demand3 S limit r times = Demand3By S (pass S) limit r times

-- what `analyse` answers and leaves but for its table, which has room for so many records: r is the answer; the buffers were `times` and `scratch`, and are times' and scratch'
pub record Analysed (b times scratch : List ℕ) (room : ℕ) (r : Result Answer Refusal) (times' scratch' : List ℕ) : Type 0 where
  pub answer : r ≡ analyse_answer b (length times) (length scratch) room
  pub given : times' ≡ times_after b r times
  pub scratch_left : ScratchAfter (analyse_refusal b (length times) (length scratch) room) scratch scratch'
  pub demand3 : analyse_refusal b (length times) (length scratch) room ≡ Ok tt → Demand3 (system b) (pass_limit b) r times'
