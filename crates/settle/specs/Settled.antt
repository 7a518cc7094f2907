-- For the code: what is known of a call that needs settled times, its checks having given the verdict v, once all but its own answer and its table is done.
-- Assumes nothing.
use Rattle.std.specs.Prelude.{ℕ, List, Result, Ok, Err, ◌≡◌, take}
use Rattle.board.specs.Layout.{tasks, pass_limit}
use Rattle.refusals.specs.declared.Refusal.{Refusal}
use Rattle.refusals.specs.Refusals.{Verdict}
use Rattle.figures.specs.Survey.{Fillable}
use Rattle.passes.specs.Passes.{settled}
use Rattle.scratch.specs.Scratch.{Prepared}
use Rattle.answers.specs.declared.Answer.{Answer}
use Rattle.answers.specs.declared.Answer.TheVariants.{Times, Late, Spent}
use Rattle.figures.specs.declared.FigureWords.{FigureWords}
use Rattle.answers.specs.Answers.{system, answer_for, times_after, ScratchAfter}
use Rattle.answers.specs.Records.{records_of}
use Rattle.answers.specs.Demand.{Demand3By}

-- a scratch that begins with the settled times, with the figures after them
pub record AtSettled (b scratch : List ℕ) : Type 0 where
  pub prepared : Prepared b (tasks b) scratch
  pub times : take (tasks b) scratch ≡ settled (system b)

-- P, where a board answers times or late: neither refused nor spent
abbrev pub WhereSettled : Result Answer Refusal → Type 0 → Type 0
WhereSettled (Ok (Times passes)) P = P
WhereSettled (Ok (Late task passes)) P = P
WhereSettled (Ok Spent) P = Unit {0}
WhereSettled (Err refusal) P = Unit {0}

-- passes by a step answer r; the records counted are to be filled from the words and the sets; the buffers were `times` and `scratch`
pub record Settled (step : List ℕ → List ℕ) (v : Verdict) (b times scratch : List ℕ) (r : Result Answer Refusal) (f : FigureWords) (times' scratch' : List ℕ) : Type 0 where
  pub count : f.records ≡ records_of v b
  pub fillable : Fillable b f.records f.words f.sets
  pub answer : r ≡ answer_for v b step
  pub given : times' ≡ times_after b r times
  pub scratch_left : ScratchAfter v scratch scratch'
  pub demand3 : v ≡ Ok tt → Demand3By (system b) step (pass_limit b) r times'
  pub ready : WhereSettled r (AtSettled b scratch')
