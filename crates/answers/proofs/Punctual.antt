-- On a board whose releases are punctual, J = 0 for every task, the calls answer and leave what they did before a release could be late.
-- Assumes nothing.
use Prim.Native.Nat.{ℕ, ◌-◌, ◌<◌}
use mathlib.Core.List.{List}
use Rattle.std.specs.Prelude.{Result, Ok, Err}
use mathlib.Core.Path.{◌≡◌, refl, ap}
use Rattle.board.specs.Layout.{tasks}
use Rattle.sums.specs.Punctual.{Punctual, punctual_sum}
use Rattle.sums.proofs.Punctual.{task_sum-punctual}
use Rattle.passes.specs.Passes.{System, pass, settled_by, Alike}
use Rattle.passes.specs.Visits.{in_order, Permutation}
use Rattle.passes.proofs.Alike.{pass-alike, in_order-alike, first_late-alike, passes_by-alike, settled_by-alike}
use Rattle.one_pass.specs.Punctual.{punctual_system}
use Rattle.one_pass.proofs.Punctual.{system-punctual}
use Rattle.refusals.specs.declared.Refusal.{Refusal}
use Rattle.answers.specs.declared.Answer.{Answer}
use Rattle.answers.specs.declared.Answer.TheVariants.{Times, Late, Spent}
use Rattle.checks.specs.CallRefusals.{weigh_refusal}
use Rattle.answers.specs.Answers.{system, unless_refused, weigh_answer, settled_answer, times_left, times_after}

-- systems alike, and steps that lead to the same times: the same answer, and the same times left
module _ {S S' : System} (alike : Alike S S') {step step' : List ℕ → List ℕ} (same : (R : List ℕ) → step R ≡ step' R) where
  settled_answer-alike : (limit : ℕ) → settled_answer S step limit ≡ settled_answer S' step' limit
  unfolding settled_answer
  settled_answer-alike limit =
      rw (passes_by-alike alike same, settled_by-alike alike same, first_late-alike alike (settled_by S' step'), alike.count)

  times_left-alike : (r : Result Answer Refusal) (old : List ℕ) → times_left S step r old ≡ times_left S' step' r old
  unfolding times_left
  times_left-alike (Ok (Times passes)) old = rw (settled_by-alike alike same, alike.count)
  times_left-alike (Ok (Late task passes)) old = refl
  times_left-alike (Ok Spent) old = refl
  times_left-alike (Err refusal) old = refl

module _ (b : List ℕ) (punctual : Punctual b) where
  -- Analyse: times, late or spent
  pub answer-punctual : (limit : ℕ)
      → settled_answer (system b) (pass (system b)) limit ≡ settled_answer (punctual_system b) (pass (punctual_system b)) limit
  answer-punctual = settled_answer-alike (system-punctual b punctual) (pass-alike (system-punctual b punctual))

  -- the times buffer after Analyse or its sibling
  pub times-punctual : (r : Result Answer Refusal) (old : List ℕ) → times_after b r old ≡ times_left (punctual_system b) (pass (punctual_system b)) r old
  times-punctual = times_left-alike (system-punctual b punctual) (pass-alike (system-punctual b punctual))

  -- Analyse in the order of a list
  pub in-order-punctual : {order : List ℕ} → Permutation (tasks b) order → (limit : ℕ)
      → settled_answer (system b) (in_order (system b) order) limit ≡ settled_answer (punctual_system b) (in_order (punctual_system b) order) limit
  in-order-punctual permuted = settled_answer-alike (system-punctual b punctual) (in_order-alike (system-punctual b punctual) permuted)

  -- Weigh, of a task of the board
  pub weigh-punctual : (R : List ℕ) (i : ℕ) → i - 1 < tasks b → weigh_answer b R i ≡ unless_refused (weigh_refusal b R i) (punctual_sum b R (i - 1))
  unfolding weigh_answer
  weigh-punctual R i task = ap (unless_refused (weigh_refusal b R i)) (task_sum-punctual b punctual R (i - 1) task)
