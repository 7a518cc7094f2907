-- The answer and the times buffer of a board that passes its checks, by what the passes end with.
-- Assumes nothing.
use Prim.Native.Nat.{ℕ, ◌+◌, ◌≤◌, ◌<◌}
use mathlib.Core.Bool.{Bool, true, false, cond}
use mathlib.Core.List.{List}
use Rattle.std.specs.Prelude.{Option, Some, None}
use mathlib.Core.Path.{◌≡◌, refl, sym, ap, ◌∙◌}
use native.Mathlib.Omega.{arith}
use lib.Dec.{ltb}
use lib.ListN.{take}
use borrow.Author.Tests.{lt-ltb, le-ltb, ltb-true, ltb-false}
use Rattle.board.specs.Layout.{tasks, pass_limit}
use Rattle.passes.specs.Passes.{System, passes_by, settled_by, first_late}
use Rattle.settling.specs.Settling.{passes_of, Ended}
use Rattle.settling.proofs.Ends.{over-is, needed-is}
use Rattle.settling.specs.Delivered.{late_task, delivered}
use Rattle.settling.proofs.Delivered.{late_task-some, late_task-none}
use Rattle.answers.specs.declared.Answer.{Answer}
use Rattle.answers.specs.declared.Answer.TheVariants.{Times, Late, Spent}
use Rattle.answers.specs.Answers.{system, settled_answer, times_left}
use Rattle.answers.specs.Concluded.{answer_of, times_of, Concluded}

-- ---- from the passes that were made

module _ (S : System) (R : List ℕ) {ps : Option ℕ} {p : ℕ} (made : ps ≡ Some p) where
  pub answer-late : {late : ℕ} → late_task S R ≡ Some late → Late (late + 1) p ≡ answer_of S ps R
  answer-late {late} found = let at = late_task-some S R late found in rw (made, at.0, lt-ltb late S.count at.1)

  pub answer-times : late_task S R ≡ None → Times p ≡ answer_of S ps R
  answer-times found = rw (made, le-ltb (first_late S R) S.count (late_task-none S R found))

  pub times-given : {new : List ℕ} (old : List ℕ) → new ≡ delivered S R old → new ≡ times_of S ps R old
  times-given old given = rw made given

-- ---- by the step that made them

module _ (b : List ℕ) (step : List ℕ → List ℕ) (old : List ℕ) {limit : ℕ} (limit_is : limit ≡ pass_limit b) {w w' : List ℕ} (ended : Ended (system b) step limit w w') where
  by-limit : {r : Answer} → r ≡ settled_answer (system b) step limit → r ≡ settled_answer (system b) step (pass_limit b)
  by-limit e = e ∙ ap (settled_answer (system b) step) limit_is

  concluded-spent : passes_of (system b) step limit ≡ None → Concluded b step old w Spent old w'
  unfolding settled_answer times_left
  concluded-spent e = record {
    answer = by-limit (rw (lt-ltb limit (passes_by (system b) step) (over-is (system b) step limit e)));
    given = refl;
    size = ended.size;
    settled = λ no. absurd (no refl);
  }

  -- n tasks settled after p passes, and `late` is the first late one
  module _ {p n late : ℕ} {new : List ℕ} (tasks-of : n ≡ tasks b) (needed : passes_of (system b) step limit ≡ Some p)
      (found : late ≡ first_late (system b) (take n w')) (given : new ≡ delivered (system b) (take n w') old) where
    count : (passes_by (system b) step ≡ p) × (p ≤ limit)
    count = needed-is (system b) step limit p needed

    reached : take (tasks b) w' ≡ settled_by (system b) step
    reached = ended.times (omega (arith, count.0, count.1))

    same : take n w' ≡ settled_by (system b) step
    same = ap (λ (k : ℕ). take k w') tasks-of ∙ reached

    first : first_late (system b) (settled_by (system b) step) ≡ late
    first = sym (found ∙ ap (first_late (system b)) same)

    concluded-late : late < n → Concluded b step old w (Late (late + 1) p) new w'
    unfolding settled_answer times_left delivered
    concluded-late h = record {
      answer = by-limit (rw (count.0, first, le-ltb limit p count.1, lt-ltb late (tasks b) (omega arith)));
      given = rw (sym found, lt-ltb late (tasks b) (omega arith)) at given;
      size = ended.size;
      settled = λ _. reached;
    }

    concluded-times : n ≤ late → Concluded b step old w (Times p) new w'
    unfolding settled_answer times_left delivered
    concluded-times h = record {
      answer = by-limit (rw (count.0, first, le-ltb limit p count.1, le-ltb late (tasks b) (omega arith)));
      given = rw (sym found, le-ltb late (tasks b) (omega arith), same) at given;
      size = ended.size;
      settled = λ _. reached;
    }

  -- as `conclude` answers and leaves it
  pub concluded : (ps : Option ℕ) {n : ℕ} {r : Answer} {new : List ℕ} → n ≡ tasks b → ps ≡ passes_of (system b) step limit → r ≡ answer_of (system b) ps (take n w')
      → new ≡ times_of (system b) ps (take n w') old → Concluded b step old w r new w'
  concluded None all made answer given = rw (answer, given) (concluded-spent (sym made))
  concluded (Some p) {n} {new = new} all made answer given = rw answer (go (ltb (first_late (system b) (take n w')) (tasks b)) refl)
    where
      first : ℕ
      first = first_late (system b) (take n w')

      go : (t : Bool) → ltb first (tasks b) ≡ t → Concluded b step old w (cond t (Late (first + 1) p) (Times p)) new w'
      go true e = concluded-late all (sym made) refl given (omega (arith, all, ltb-true first (tasks b) e))
      go false e = concluded-times all (sym made) refl given (omega (arith, all, ltb-false first (tasks b) e))
