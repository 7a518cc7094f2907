-- What each call promises, from what it has once it is settled by the verdict v of its checks.
-- Assumes nothing.
use Prim.Native.Nat.{ℕ, ◌-◌, ◌≤◌}
use mathlib.Core.List.{List}
use Rattle.std.specs.Prelude.{Result, Ok}
use mathlib.Core.Path.{◌≡◌, ap, subst, ◌∙◌}
use lib.ListN.{length}
use Rattle.board.specs.Layout.{tasks}
use Rattle.refusals.specs.declared.Refusal.{Refusal}
use Rattle.refusals.specs.Refusals.{Verdict}
use Rattle.passes.specs.Passes.{pass}
use Rattle.passes.specs.Visits.{in_order}
use Rattle.answers.specs.declared.Answer.{Answer}
use Rattle.answers.specs.declared.MadeUp.{MadeUp}
use Rattle.figures.specs.declared.FigureWords.{FigureWords}
use Rattle.checks.specs.CallRefusals.{analyse_refusal, in_order_refusal, make_up_refusal}
use Rattle.answers.specs.Answers.{system, analyse_answer, in_order_answer, times_after}
use Rattle.answers.specs.MakeUp.{make_up_answer, MadeUpAll}
use Rattle.answers.specs.Records.{RecordsToFill}
use Rattle.answers.proofs.Outcomes.{records-room}
use Rattle.answers.specs.Demand.{Analysed}
use Rattle.answers.specs.InOrder.{AnalysedInOrder}
use Rattle.answers.proofs.InOrder.{in-order-like}
use Rattle.answers.proofs.MakeUp.{made-up-of}
use Rattle.settle.specs.Settled.{Settled}
use Rattle.works.specs.MadeUp.{made_up_from}
use Rattle.works.proofs.MadeUp.{made_up_from-is}

module _ {step : List ℕ → List ℕ} {v : Verdict} {b times scratch : List ℕ} {r : Result Answer Refusal} {f : FigureWords} {times' scratch' : List ℕ} where
  -- the verdict is that of the call's definition
  pub by-refusal : {w : Verdict} → v ≡ w → Settled step v b times scratch r f times' scratch' → Settled step w b times scratch r f times' scratch'
  by-refusal judged s = subst (λ (w : Verdict). Settled step w b times scratch r f times' scratch') judged s

  pub counted : {room : ℕ} → Settled step v b times scratch r f times' scratch' → (v ≡ Ok tt → tasks b ≤ room) → RecordsToFill v b room f
  counted s fits = (s.count, (s.fillable, records-room b v s.count fits))

module _ {b times scratch : List ℕ} {room : ℕ} {r : Result Answer Refusal} {f : FigureWords} {times' scratch' : List ℕ} where
  pub analysed : Settled (pass (system b)) (analyse_refusal b (length times) (length scratch) room) b times scratch r f times' scratch'
      → Analysed b times scratch room r times' scratch'
  unfolding analyse_answer
  analysed s = record { answer = s.answer; given = s.given; scratch_left = s.scratch_left; demand3 = s.demand3 }

  pub analysed-in-order : {order : List ℕ} → Settled (in_order (system b) order) (in_order_refusal b (length times) (length scratch) room order) b times scratch r f times' scratch'
      → AnalysedInOrder b times scratch room order r times' scratch'
  unfolding in_order_answer
  analysed-in-order s =
      record { answer = s.answer; given = s.given; scratch_left = s.scratch_left; demand3 = s.demand3; like = λ passed. in-order-like b times _ room _ passed r s.answer }

  pub made-up-all : {task : ℕ} {made : Result MadeUp Refusal} → Settled (pass (system b)) (make_up_refusal b (length times) (length scratch) room task) b times scratch r f times' scratch'
      → made ≡ made_up_from r b (task - 1) → MadeUpAll b times scratch room task made times' scratch'
  unfolding make_up_answer
  made-up-all {task} {made} s is =
      let v = make_up_refusal b (length times) (length scratch) room task in
      let answer = is ∙ ap (λ (a : Result Answer Refusal). made_up_from a b (task - 1)) s.answer ∙ made_up_from-is v b (task - 1) in
      let given = s.given ∙ ap (λ (a : Result Answer Refusal). times_after b a times) s.answer in
      record { answer = answer; given = given; scratch_left = s.scratch_left; parts = λ passed. made-up-of b times _ room task passed made answer times' given }
