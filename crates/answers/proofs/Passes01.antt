-- On a board of document 01 the passes are document 01's, and the answer by them meets demand 3 in its words.
-- Its sums and deadlines are the board's, so that passes and choices are the same. "Settled at D + 1" is settled above D, since no settled time is past its cap.
-- Assumes nothing.
use Prim.Native.Nat.{ℕ, zero, suc, ◌+◌, ◌≤◌, ◌<◌, min}
use mathlib.Core.Bool.{Bool, true, false, cond}
use mathlib.Core.List.{List}
use mathlib.Core.Logic.{◌↔◌}
use mathlib.Core.Path.{◌≡◌, refl, sym, ap, ap₂, ◌∙◌}
use native.Mathlib.Decide.{ℕ_discrete}
use native.Mathlib.Omega.{arith}
use borrow.Author.Tests.{eq-eqb, ne_eqb, lt-ltb, le-ltb, ltb-true, ltb-false}
use lib.Dec.{ltb, eqb}
use lib.ListN.{length, get_or}
use Rattle.folds.specs.Folds.{first_from, same_list}
use Rattle.folds.proofs.Folds.{sum_to-cong}
use Rattle.folds.proofs.Lists.{tabulate-cong}
use Rattle.folds.proofs.Searches.{first_from-cong}
use Rattle.board.specs.Layout.{tasks, pass_limit}
use Rattle.document01.specs.Document01 as old
use Rattle.document01.specs.Document01.{Board, Reply, times, late, spent}
use Rattle.sums.proofs.Document01.{bound-01, task_sum-01}
use Rattle.passes.specs.Passes.{pass, times_by, unchanged, changes, passes_by, settled_by, passes_needed, settled, first_late, Choice, NoChoice, LeastChoice}
use Rattle.passes.proofs.Ascending.{Ascending}
use Rattle.passes.proofs.Settling.{settled-capped}
use Rattle.passes.proofs.Choices.{first_late-no-choice, first_late-none}
use Rattle.one_pass.proofs.Sums.{system-ascending}
use Rattle.answers.specs.Answers.{system}
use Rattle.answers.proofs.Demand.{take-settled}

at_cap : (d s : ℕ) → s ≤ d + 1 → ltb d s ≡ eqb s (d + 1)
at_cap d s h = go (ℕ_discrete s (d + 1))
  where
    go : Dec (s ≡ d + 1) → ltb d s ≡ eqb s (d + 1)
    go (yes e) = lt-ltb d s (omega arith) ∙ sym (eq-eqb s (d + 1) e)
    go (no n) = le-ltb d s (omega arith) ∙ sym (ne_eqb s (d + 1) n)

module _ (b : List ℕ) (board : Board b) where
  up : Ascending (system b) (pass (system b))
  up = system-ascending b

  -- ---- the passes

  pass-01 : (R : List ℕ) → pass (system b) R ≡ old.pass b R
  unfolding pass old.pass
  pass-01 R = tabulate-cong _ _ (tasks b) (λ i h. ap₂ (λ (s d : ℕ). min s (d + 1)) (task_sum-01 b board R i h) (bound-01 b board i h))

  pub times_by-01 : (p : ℕ) → times_by (system b) (pass (system b)) p ≡ old.after_passes b p
  unfolding times_by old.after_passes
  times_by-01 zero = refl
  times_by-01 (suc p) = pass-01 (times_by (system b) (pass (system b)) p) ∙ ap (old.pass b) (times_by-01 p)

  pub passes-01 : passes_needed (system b) ≡ old.passes_needed b
  unfolding passes_by changes unchanged old.passes_needed
  passes-01 =
      ap suc
      (first_from-cong _ _ _ 0 (λ p _ _. ap₂ same_list (times_by-01 (suc p)) (times_by-01 p))
      ∙ ap (λ (n : ℕ). first_from (λ p. same_list (old.after_passes b (suc p)) (old.after_passes b p)) n 0) (sum_to-cong _ _ (tasks b) (λ i h. ap (λ (d : ℕ). d + 1) (bound-01 b board i h))))

  pub settled-01 : settled (system b) ≡ old.settled b
  unfolding settled_by old.settled
  settled-01 = times_by-01 (passes_needed (system b)) ∙ ap (old.after_passes b) passes-01

  pub late-01 : first_late (system b) (settled (system b)) ≡ old.first_late b
  unfolding first_late old.first_late
  late-01 =
      first_from-cong _ _ (tasks b) 0
      (λ i _ h.
      let task : i < tasks b = omega arith in
      at_cap _ _ (settled-capped up i task) ∙ ap₂ (λ (R : List ℕ) (d : ℕ). eqb (get_or R i 0) (d + 1)) settled-01 (bound-01 b board i task))

  -- ---- demand 3

  choice-01 : (R : List ℕ) → Choice (system b) R ↔ old.Choice b R
  choice-01 R = (
    λ c. record {
      size = c.size;
      within = λ i h. omega (arith, c.within i h, bound-01 b board i h);
      meets = λ i h. omega (arith, c.meets i h, task_sum-01 b board R i h);
    },
    λ c. record {
      size = c.size;
      within = λ i h. omega (arith, c.within i h, bound-01 b board i h);
      meets = λ i h. omega (arith, c.meets i h, task_sum-01 b board R i h);
    },
  )

  no-choice-01 : NoChoice (system b) → old.NoChoice b
  no-choice-01 none R c = none R ((choice-01 R).1 c)

  least-01 : {R : List ℕ} → LeastChoice (system b) R → old.LeastChoice b R
  least-01 {R} l = record { choice = (choice-01 R).0 l.choice; least = λ C c. l.least C ((choice-01 C).1 c) }

  pub demand3-01 : (lent : List ℕ) → tasks b ≤ length lent → old.Demand3 b (old.settled_reply b) (old.times_after b (old.settled_reply b) lent)
  unfolding old.settled_reply
  demand3-01 lent room = by-limit (ltb (pass_limit b) (old.passes_needed b)) refl
    where
      Meets : Reply → Type 0
      Meets r = old.Demand3 b r (old.times_after b r lent)

      by-late : old.passes_needed b ≤ pass_limit b → (t : Bool) → ltb (old.first_late b) (tasks b) ≡ t
          → Meets (cond t (late (old.first_late b + 1) (old.passes_needed b)) (times (old.passes_needed b)))
      by-late within true e =
          let none : old.NoChoice b = no-choice-01 (first_late-no-choice up (rw late-01 (ltb-true (old.first_late b) (tasks b) e))) in
          record {
            is_spent = (λ h. let z : ◌≡◌ {A = ℕ} 0 1 = cc in absurd (omega arith), λ over. absurd (omega arith));
            is_late = λ _. (λ _. none, λ _. refl);
            is_times = λ _ some. absurd (some none);
          }
      by-late within false e =
          let least : LeastChoice (system b) (settled (system b)) = first_late-none up (rw late-01 (ltb-false (old.first_late b) (tasks b) e)) in
          record {
            is_spent = (λ h. let z : ◌≡◌ {A = ℕ} 0 1 = cc in absurd (omega arith), λ over. absurd (omega arith));
            is_late = λ _. (λ h. let z : ◌≡◌ {A = ℕ} 0 1 = cc in absurd (omega arith), λ none. absurd (none _ ((choice-01 _).0 least.choice)));
            is_times = λ _ _. (refl, rw (← settled-01, take-settled b lent up room) (least-01 least));
          }

      by-limit : (t : Bool) → ltb (pass_limit b) (old.passes_needed b) ≡ t
          → Meets (cond t spent (cond (ltb (old.first_late b) (tasks b)) (late (old.first_late b + 1) (old.passes_needed b)) (times (old.passes_needed b))))
      by-limit true e =
          let over : pass_limit b < old.passes_needed b = ltb-true (pass_limit b) (old.passes_needed b) e in
          record { is_spent = (λ _. over, λ _. refl); is_late = λ h. absurd (omega arith); is_times = λ h. absurd (omega arith) }
      by-limit false e = by-late (ltb-false (pass_limit b) (old.passes_needed b) e) (ltb (old.first_late b) (tasks b)) refl
