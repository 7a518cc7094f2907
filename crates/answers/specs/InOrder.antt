-- Passes in a chosen order beside Analyse's own (document 02, change 1).
-- Assumes nothing.
use Rattle.std.specs.Prelude.{ℕ, ◌≤◌, List, Result, Ok, Err, ◌≡◌, length}
use Rattle.board.specs.Layout.{pass_limit}
use Rattle.refusals.specs.declared.Refusal.{Refusal}
use Rattle.passes.specs.Passes.{passes_by, settled_by, passes_needed, settled}
use Rattle.passes.specs.Visits.{in_order}
use Rattle.answers.specs.declared.Answer.{Answer}
use Rattle.answers.specs.declared.Answer.TheVariants.{Times, Late, Spent}
use Rattle.checks.specs.CallRefusals.{in_order_refusal}
use Rattle.answers.specs.Answers.{system, analyse_answer, in_order_answer, times_after, ScratchAfter}
use Rattle.answers.specs.Demand.{Demand3By}

-- an answer with another count of passes
abbrev pub with_passes : ℕ → Result Answer Refusal → Result Answer Refusal
with_passes p (Ok (Times passes)) = Ok (Times p)
with_passes p (Ok (Late task passes)) = Ok (Late task p)
with_passes p (Ok Spent) = Ok Spent
with_passes p (Err refusal) = Err refusal

-- what passes by a step are beside Analyse's with buffers of these lengths, r being the answer by them
pub record LikeAnalyse (b : List ℕ) (times scratch table : ℕ) (step : List ℕ → List ℕ) (r : Result Answer Refusal) : Type 0 where
  -- "the same times"
  pub settles : settled_by (system b) step ≡ settled (system b)
  -- "the passes needed are never more than Analyse's"
  pub passes : passes_by (system b) step ≤ passes_needed (system b)
  -- where Analyse is not spent, the step is not either, and the answer is Analyse's own but for the count: times, or the same late task
  pub answer : (analyse_answer b times scratch table ≡ Ok Spent → ⊥) → r ≡ with_passes (passes_by (system b) step) (analyse_answer b times scratch table)

-- what `analyse_in_order` answers and leaves but for its table, as `Analysed` is of `analyse`
pub record AnalysedInOrder (b times scratch : List ℕ) (room : ℕ) (order : List ℕ) (r : Result Answer Refusal) (times' scratch' : List ℕ) : Type 0 where
  pub answer : r ≡ in_order_answer b (length times) (length scratch) room order
  pub given : times' ≡ times_after b r times
  pub scratch_left : ScratchAfter (in_order_refusal b (length times) (length scratch) room order) scratch scratch'
  pub demand3 : in_order_refusal b (length times) (length scratch) room order ≡ Ok tt
      → Demand3By (system b) (in_order (system b) order) (pass_limit b) r times'
  pub like : in_order_refusal b (length times) (length scratch) room order ≡ Ok tt
      → LikeAnalyse b (length times) (length scratch) room (in_order (system b) order) r
