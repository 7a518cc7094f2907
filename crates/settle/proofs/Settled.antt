-- What a call that needs settled times has of its board: by what it began with and what the passes end with, over any step.
-- Assumes nothing.
use Prim.Native.Nat.{ℕ, ◌≤◌}
use mathlib.Core.List.{List}
use Rattle.std.specs.Prelude.{Result, Ok, Err}
use mathlib.Core.Path.{◌≡◌, refl, sym, ap, subst, ◌∙◌}
use lib.ListN.{length}
use Rattle.board.specs.Layout.{tasks}
use Rattle.refusals.specs.declared.Refusal.{Refusal}
use Rattle.refusals.specs.Refusals.{Verdict}
use Rattle.passes.proofs.Ascending.{Ascending}
use Rattle.passes.proofs.Orders.{settled_same}
use Rattle.one_pass.proofs.Sums.{system-ascending}
use Rattle.scratch.specs.Scratch.{ScratchRoom, Prepared}
use Rattle.checks.specs.Accepted.{Analysable}
use Rattle.answers.specs.declared.Answer.{Answer}
use Rattle.answers.specs.declared.Answer.TheVariants.{Times, Late, Spent}
use Rattle.figures.specs.declared.FigureWords.{FigureWords}
use Rattle.answers.specs.Answers.{system, answer_for, times_left}
use Rattle.answers.specs.Concluded.{Concluded}
use Rattle.answers.proofs.Outcomes.{room_for}
use Rattle.answers.proofs.Demand.{settled-demand3, times-same}
use Rattle.settle.specs.Begun.{Begun}
use Rattle.settle.specs.Settled.{AtSettled, WhereSettled, Settled}
use Rattle.figures.specs.Survey.{Fillable}
use Rattle.figures.proofs.Fillable.{fillable-none}

-- the scratch has room for what `begin` lays out
pub room-taken : {b : List ℕ} {times : ℕ} (w : List ℕ) → Analysable b times (length w) → ScratchRoom b (tasks b) w
room-taken w taken = room_for w taken.sound refl taken.scratch_room

-- what holds of every answer that is not spent
where-not-spent : {P : Type 0} (r : Answer) → ((r ≡ Spent → ⊥) → P) → WhereSettled (Ok r) P
where-not-spent (Times passes) holds = holds (λ e. cc)
where-not-spent (Late task passes) holds = holds (λ e. cc)
where-not-spent Spent holds = tt

-- with what the checks give: only a call that they let through answers so
pub ready_with : (Q : Type 0) {step : List ℕ → List ℕ} {v : Verdict} {b times scratch : List ℕ} {r : Result Answer Refusal} {f : FigureWords} {times' scratch' : List ℕ}
    → Settled step v b times scratch r f times' scratch' → (v ≡ Ok tt → Q) → WhereSettled r (AtSettled b scratch' × Q)
ready_with Q {step} {v} {b} {r = r} {scratch' = scratch'} s q = go v r s.answer s.ready q
  where
    go : (v : Verdict) (r : Result Answer Refusal) → r ≡ answer_for v b step → WhereSettled r (AtSettled b scratch') → (v ≡ Ok tt → Q) → WhereSettled r (AtSettled b scratch' × Q)
    go (Ok _) (Ok (Times passes)) e p q = (p, q refl)
    go (Ok _) (Ok (Late task passes)) e p q = (p, q refl)
    go (Ok _) (Ok Spent) e p q = tt
    go (Ok _) (Err refusal) e p q = tt
    go (Err refusal) r e p q = subst (λ (a : Result Answer Refusal). WhereSettled a (AtSettled b scratch' × Q)) (sym e) tt

module _ {b times scratch : List ℕ} {step : List ℕ → List ℕ} {v : Verdict} {f : FigureWords} where
  pub settled-refused : {refusal : Refusal} → v ≡ Err refusal → f.records ≡ 0 → Settled step v b times scratch (Err refusal) f times scratch
  unfolding times_left
  settled-refused {refusal} e none = subst (λ (w : Verdict). Settled step w b times scratch (Err refusal) f times scratch) (sym e) (record {
    count = none;
    fillable = subst (λ (n : ℕ). Fillable b n f.words f.sets) (sym none) fillable-none;
    answer = refl;
    given = refl;
    scratch_left = refl;
    demand3 = λ passed. cc;
    ready = tt;
  })

  pub settled-passed : Ascending (system b) step → v ≡ Ok tt → tasks b ≤ length times → {n : ℕ} {mid : List ℕ} {r : Answer} {times' scratch' : List ℕ} → n ≡ tasks b
      → Begun b n scratch mid f → Concluded b step times mid r times' scratch' × Prepared b n scratch' → Settled step v b times scratch (Ok r) f times' scratch'
  settled-passed up e room {r = r} {times' = times'} {scratch' = scratch'} all begun ran = let done = ran.0 in
      subst (λ (w : Verdict). Settled step w b times scratch (Ok r) f times' scratch') (sym e) (record {
        count = begun.count ∙ all;
        fillable = begun.fillable;
        answer = ap {B = Result Answer Refusal} (λ (a : Answer). Ok a) done.answer;
        given = done.given ∙ times-same b times up (Ok r);
        scratch_left = done.size ∙ begun.size;
        demand3 = λ _. rw (done.given, done.answer) (settled-demand3 b times up room);
        ready = where-not-spent r (λ other. record { prepared = subst (λ (k : ℕ). Prepared b k scratch') all ran.1; times = done.settled other ∙ settled_same up (system-ascending b) });
      })
