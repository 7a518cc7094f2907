-- The answer and the times of Analyse, as defined, meet demand 3: one theorem over all buses, refresh forms and memories.
-- The settled times are the least times that no pass raises, since the sums never fall when times rise. If none is past its bound, they
-- are a choice, and every choice is no less, since no pass raises a choice. If one is past its bound, every choice would be too.
-- Assumes nothing.
use Prim.Native.Nat.{ℕ, ◌+◌, ◌≤◌, ◌<◌}
use mathlib.Core.Bool.{Bool, true, false, cond}
use mathlib.Core.List.{List}
use Rattle.std.specs.Prelude.{Result, Ok, Err}
use mathlib.Core.Path.{◌≡◌, refl, sym, ap, subst, ◌∙◌}
use native.Mathlib.Omega.{arith}
use lib.Dec.{ltb}
use lib.ListN.{length, get_or, take}
use lib.Seq.{ext_get_or, get_or-take, length-take-le}
use borrow.Author.Tests.{ltb-true, ltb-false}
use Rattle.folds.specs.Folds.{fill_to}
use Rattle.folds.proofs.Lists.{length-fill_to, fill_to-below}
use Rattle.board.specs.Layout.{tasks, pass_limit}
use Rattle.refusals.specs.declared.Refusal.{Refusal}
use Rattle.refusals.specs.Refusals.{Verdict}
use Rattle.passes.specs.Passes.{System, pass, passes_by, settled_by, settled, first_late, SmallestLate}
use Rattle.passes.proofs.Ascending.{Ascending}
use Rattle.passes.proofs.Settling.{settled-length}
use Rattle.passes.proofs.Choices.{first_late-no-choice, first_late-none, first_late-smallest}
use Rattle.passes.proofs.Orders.{settled_same}
use Rattle.one_pass.proofs.Sums.{system-ascending}
use Rattle.checks.proofs.Accepted.{analyse-taken}
use Rattle.answers.specs.declared.Answer.{Answer}
use Rattle.answers.specs.declared.Answer.TheVariants.{Times, Late, Spent}
use Rattle.checks.specs.CallRefusals.{analyse_refusal}
use Rattle.answers.specs.Answers.{system, settled_answer, answer_by, analyse_answer, times_left, times_after}
use Rattle.answers.specs.Demand.{Demand3By, Demand3}

module _ {S : System} {step : List ℕ → List ℕ} (up : Ascending S step) where
  -- the three answers

  when-spent : (limit : ℕ) (new : List ℕ) → limit < passes_by S step → Demand3By S step limit (Ok Spent) new
  when-spent limit new over =
      record {
        spent = (λ _. over, λ _. refl);
        late = λ h. absurd (omega arith);
        names = λ task passes e. let z : ◌≡◌ {A = ℕ} 0 1 = cc in absurd (omega arith);
        gives = λ passes e. let z : ◌≡◌ {A = ℕ} 0 1 = cc in absurd (omega arith);
        settles = λ h C choice. absurd (omega arith);
      }

  when-late : (same : settled_by S step ≡ settled S) → Ascending S (pass S) → (limit : ℕ) (new : List ℕ) → passes_by S step ≤ limit → first_late S (settled_by S step) < S.count
      → Demand3By S step limit (Ok (Late (first_late S (settled_by S step) + 1) (passes_by S step))) new
  when-late same all limit new le h =
      record {
        spent = (λ e. let z : ◌≡◌ {A = ℕ} 0 1 = cc in absurd (omega arith), λ l. absurd (omega arith));
        late = λ _. (λ _. first_late-no-choice up h, λ _. (first_late S (settled_by S step) + 1, passes_by S step, refl));
        names = λ task passes e. ((first_late S (settled_by S step), smallest, cc), cc);
        gives = λ passes e. let z : ◌≡◌ {A = ℕ} 0 1 = cc in absurd (omega arith);
        settles = λ _ C choice. absurd (first_late-no-choice up h C choice);
      }
    where
      smallest : SmallestLate S (first_late S (settled_by S step))
      smallest = subst (λ (R : List ℕ). SmallestLate S (first_late S R)) (sym same) (first_late-smallest all (subst (λ (R : List ℕ). first_late S R < S.count) same h))

  when-settled : (limit : ℕ) (new : List ℕ) → passes_by S step ≤ limit → S.count ≤ first_late S (settled_by S step)
      → take S.count new ≡ settled_by S step → Demand3By S step limit (Ok (Times (passes_by S step))) new
  when-settled limit new le h holds =
      record {
        spent = (λ e. let z : ◌≡◌ {A = ℕ} 0 1 = cc in absurd (omega arith), λ l. absurd (omega arith));
        late = λ _. (λ named. let e = named.2 in let z : ◌≡◌ {A = ℕ} 0 1 = cc in absurd (omega arith), λ none. absurd (none (settled_by S step) (first_late-none up h).choice));
        names = λ task passes e. let z : ◌≡◌ {A = ℕ} 0 1 = cc in absurd (omega arith);
        gives = λ passes e. (cc, rw holds (first_late-none up h));
        settles = λ _ C choice. (refl, rw holds (first_late-none up h));
      }

module _ (b old : List ℕ) {step : List ℕ → List ℕ} (up : Ascending (system b) step) where
  same : settled_by (system b) step ≡ settled (system b)
  same = settled_same up (system-ascending b)

  -- the first words of the times buffer are the settled times
  pub take-settled : tasks b ≤ length old
      → take (tasks b) (fill_to (λ k. get_or (settled_by (system b) step) k 0) (tasks b) old) ≡ settled_by (system b) step
  take-settled room =
      let f : ℕ → ℕ = λ k. get_or (settled_by (system b) step) k 0 in
      let long : length (fill_to f (tasks b) old) ≡ length old = length-fill_to f old (tasks b) in
      let size : length (take (tasks b) (fill_to f (tasks b) old)) ≡ tasks b = length-take-le (tasks b) (fill_to f (tasks b) old) (omega arith) in
      ext_get_or 0 (take (tasks b) (fill_to f (tasks b) old)) (settled_by (system b) step) (size ∙ sym (settled-length up))
      (λ i h.
      let below : i < tasks b = omega arith in
      get_or-take (tasks b) (fill_to f (tasks b) old) i 0 below ∙ fill_to-below f old 0 (tasks b) i below (omega arith))

  pub settled-demand3 : tasks b ≤ length old
      → Demand3By (system b) step (pass_limit b) (Ok (settled_answer (system b) step (pass_limit b))) (times_left (system b) step (Ok (settled_answer (system b) step (pass_limit b))) old)
  unfolding settled_answer times_left
  settled-demand3 room = by-limit (ltb (pass_limit b) (passes_by (system b) step)) refl
    where
      Is : Answer → Type 0
      Is r = Demand3By (system b) step (pass_limit b) (Ok r) (times_left (system b) step (Ok r) old)

      by-late : passes_by (system b) step ≤ pass_limit b → (t : Bool) → ltb (first_late (system b) (settled_by (system b) step)) (tasks b) ≡ t
          → Is (cond t (Late (first_late (system b) (settled_by (system b) step) + 1) (passes_by (system b) step)) (Times (passes_by (system b) step)))
      by-late le true e = when-late up same (system-ascending b) (pass_limit b) old le (ltb-true (first_late (system b) (settled_by (system b) step)) (tasks b) e)
      by-late le false e =
          when-settled up (pass_limit b) _ le (ltb-false (first_late (system b) (settled_by (system b) step)) (tasks b) e) (take-settled room)

      by-limit : (t : Bool) → ltb (pass_limit b) (passes_by (system b) step) ≡ t
          → Is (cond t Spent (cond (ltb (first_late (system b) (settled_by (system b) step)) (tasks b)) (Late (first_late (system b) (settled_by (system b) step) + 1) (passes_by (system b) step)) (Times (passes_by (system b) step))))
      by-limit true e = when-spent up (pass_limit b) old (ltb-true (pass_limit b) (passes_by (system b) step) e)
      by-limit false e = by-late (ltb-false (pass_limit b) (passes_by (system b) step) e) (ltb (first_late (system b) (settled_by (system b) step)) (tasks b)) refl

  -- passes by another step leave the times buffer as Analyse's do, since they settle at the same times
  pub times-same : (r : Result Answer Refusal) → times_left (system b) step r old ≡ times_after b r old
  unfolding times_left
  times-same (Ok (Times passes)) = ap (λ (R : List ℕ). fill_to (λ k. get_or R k 0) (tasks b) old) same
  times-same (Ok (Late task passes)) = refl
  times-same (Ok Spent) = refl
  times-same (Err refusal) = refl

module _ (b old : List ℕ) (scratch table : ℕ) where
  -- the times buffer of a call that is not refused
  pub times-room : analyse_refusal b (length old) scratch table ≡ Ok tt → tasks b ≤ length old
  times-room passed = (analyse-taken b (length old) scratch table passed).analysable.times_room

  -- its answer, by its passes
  pub analyse-settled : analyse_refusal b (length old) scratch table ≡ Ok tt → analyse_answer b (length old) scratch table ≡ Ok (settled_answer (system b) (pass (system b)) (pass_limit b))
  unfolding analyse_answer
  analyse-settled passed = ap (λ (v : Verdict). answer_by v b) passed

  -- demand 3 of Analyse: of every call that is not refused, and of any value and buffer that equal its own
  pub demand3-met : analyse_refusal b (length old) scratch table ≡ Ok tt → (r : Result Answer Refusal) (new : List ℕ) → r ≡ analyse_answer b (length old) scratch table → new ≡ times_after b r old
      → Demand3 (system b) (pass_limit b) r new
  unfolding analyse_answer
  demand3-met passed r new e h = rw (h, e, passed) (settled-demand3 b old (system-ascending b) (times-room passed))
