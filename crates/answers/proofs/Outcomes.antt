-- What a call answers and leaves, by what its checks say.
-- Assumes nothing.
use Prim.Native.Nat.{ℕ, ◌≤◌}
use mathlib.Core.List.{List}
use Rattle.std.specs.Prelude.{Result, Ok, Err, IsErr, IsErrAnd}
use mathlib.Core.Path.{◌≡◌, refl, sym, ap, ◌∙◌}
use native.Mathlib.Omega.{arith}
use lib.ListN.{length}
use Rattle.board.specs.Layout.{tasks, scratch_words}
use Rattle.board.specs.Sound.{Sound}
use Rattle.refusals.specs.declared.Refusal.{Refusal}
use Rattle.refusals.specs.Refusals.{Verdict}
use Rattle.scratch.specs.Scratch.{ScratchRoom}
use Rattle.answers.specs.Answers.{unless_refused}
use Rattle.answers.specs.Records.{records_of}

-- ---- what a `?` on a verdict returns where a row refuses

pub refused-is : {T : Type 0} (r : Result T Refusal) {refusal : Refusal} → IsErr r × IsErrAnd r (λ x. x ≡ refusal) → r ≡ Err refusal
refused-is (Ok _) h = absurd h.1
refused-is {T} (Err x) h = ap {B = Result T Refusal} (λ (y : Refusal). Err y) h.1

-- ---- figures, overhead and weigh: v is what the checks say

module _ {v : Verdict} (value : ℕ) where
  pub outcome-value : {x : ℕ} → v ≡ Ok tt → x ≡ value → Ok x ≡ unless_refused v value
  outcome-value e h = ap (λ (n : ℕ). unless_refused (Ok tt) n) h ∙ ap (λ (w : Verdict). unless_refused w value) (sym e)

  pub outcome-refused : {refusal : Refusal} → v ≡ Err refusal → Err refusal ≡ unless_refused v value
  outcome-refused e = ap (λ (w : Verdict). unless_refused w value) (sym e)

  -- as a `?` on v has them
  pub outcome-passed : {x : ℕ} → Ok tt ≡ v → x ≡ value → Ok x ≡ unless_refused v value
  outcome-passed e h = outcome-value (sym e) h

  pub outcome-exit : {refusal : Refusal} {r : Result ℕ Refusal} → IsErr r × IsErrAnd r (λ x. x ≡ refusal) → Err refusal ≡ v → r ≡ unless_refused v value
  outcome-exit {r = r} h e = refused-is r h ∙ outcome-refused (sym e)

pub ruleset outcomes = (outcome-passed, outcome-exit)

-- ---- the records that are filled: one a task, or none

module _ (b : List ℕ) {v : Verdict} where
  pub tasks-records : {n : ℕ} → v ≡ Ok tt → n ≡ tasks b → n ≡ records_of v b
  tasks-records e h = h ∙ ap (λ (w : Verdict). records_of w b) (sym e)

  pub none-records : {refusal : Refusal} → v ≡ Err refusal → 0 ≡ records_of v b
  none-records e = ap (λ (w : Verdict). records_of w b) (sym e)

-- the table has room for them, where it has for a call that is let through
pub records-room : (b : List ℕ) (v : Verdict) {n room : ℕ} → n ≡ records_of v b → (v ≡ Ok tt → tasks b ≤ room) → n ≤ room
records-room b (Ok _) e fits = omega (arith, e, fits refl)
records-room b (Err refusal) e fits = omega arith

-- ---- a scratch of so many words has room for the tasks

pub room_for : {b : List ℕ} {n : ℕ} (w : List ℕ) → Sound b → n ≡ tasks b → scratch_words (tasks b) ≤ length w → ScratchRoom b n w
room_for w s e room = record { sound = s; tasks = e; words = rw e room }
