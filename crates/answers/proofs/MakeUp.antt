-- The six numbers of a task, as defined, are what is promised of them. At the settled times each time is its sum, capped one above its bound: so where the task is
-- late the sum is past the bound, and where it is not the sum is the time.
-- Assumes nothing.
use Prim.Native.Nat.{ℕ, ◌+◌, ◌-◌, ◌≤◌, ◌<◌}
use mathlib.Core.Bool.{Bool, true, false, cond}
use mathlib.Core.List.{List}
use Rattle.std.specs.Prelude.{Result, Ok}
use mathlib.Core.Path.{◌≡◌, refl, sym, ap, subst, subst₂, ◌∙◌}
use native.Mathlib.Omega.{arith}
use lib.Dec.{ltb}
use lib.ListN.{length, get_or}
use lib.Seq.{get_or-take}
use borrow.Author.Tests.{ltb-true, ltb-false}
use Rattle.folds.specs.Folds.{Largest}
use Rattle.folds.proofs.Lists.{fill_to-below}
use Rattle.board.specs.Layout.{tasks, pass_limit}
use Rattle.refusals.specs.declared.Refusal.{Refusal}
use Rattle.refusals.specs.Refusals.{Verdict}
use Rattle.sums.specs.Sums.{bound, task_sum}
use Rattle.sums.specs.SixParts.{six_parts, total, reason}
use Rattle.sums.proofs.SixParts.{reason-largest}
use Rattle.passes.specs.Passes.{passes_needed, settled}
use Rattle.passes.proofs.Settling.{settled_is}
use Rattle.one_pass.proofs.Sums.{system-ascending}
use Rattle.interference.specs.declared.SumParts.{SumParts}
use Rattle.interference.specs.Parts.{sum_parts, listed}
use Rattle.interference.proofs.Parts.{listed-parts, sum_parts-add}
use Rattle.checks.proofs.Accepted.{make-up-passed}
use Rattle.answers.specs.declared.Answer.{Answer}
use Rattle.answers.specs.declared.Answer.TheVariants.{Times, Late}
use Rattle.answers.specs.declared.MadeUp.{MadeUp}
use Rattle.answers.specs.declared.MadeUp.TheVariants.{Parts, Spent}
use Rattle.answers.specs.declared.Part.{Part}
use Rattle.answers.specs.PartNumbers.{part_number, part_of}
use Rattle.checks.specs.CallRefusals.{make_up_refusal, analyse_refusal}
use Rattle.answers.specs.Answers.{system, answer_by, analyse_answer, times_left, times_after}
use Rattle.answers.specs.MakeUp.{made_up_at, settled_made_up, make_up_answer, MadeUpOf}
use Rattle.answers.specs.Demand.{Demand3}
use Rattle.answers.proofs.PartNumbers.{part_number-of}
use Rattle.answers.proofs.Demand.{times-room, analyse-settled, demand3-met}

-- ---- task i of a board, at the settled times

module _ (b : List ℕ) (i : ℕ) (task : i < tasks b) where
  abbrev R : List ℕ
  R = settled (system b)

  adds : total (listed (sum_parts b R i)) ≡ task_sum b R i
  adds = sum_parts-add b R i refl

  past_bound : bound b i < get_or R i 0 → bound b i < total (listed (sum_parts b R i))
  past_bound late = omega (arith, adds, settled_is (system-ascending b) i task)

  its-time : get_or R i 0 ≤ bound b i → total (listed (sum_parts b R i)) ≡ get_or R i 0
  its-time early = omega (arith, adds, settled_is (system-ascending b) i task)

  abbrev largest : Part
  largest = part_of (reason (six_parts b R i))

  named-largest : (1 ≤ part_number largest) × Largest (λ j. get_or (listed (sum_parts b R i)) j 0) 6 (part_number largest - 1)
  named-largest =
      let found = reason-largest (listed (sum_parts b R i)) (omega arith) in
      let named = subst (λ (l : List ℕ). (1 ≤ reason l) × Largest (λ j. get_or (listed (sum_parts b R i)) j 0) 6 (reason l - 1)) (listed-parts b R i) found in
      subst (λ (k : ℕ). (1 ≤ k) × Largest (λ j. get_or (listed (sum_parts b R i)) j 0) 6 (k - 1))
      (sym (part_number-of (reason (six_parts b R i)) named.0 (omega (arith, named.1.below)))) named

  -- what holds of the six and the reason holds of any that are the answer
  of_parts : (P : SumParts → Part → Type 0) → P (sum_parts b R i) largest → (parts : SumParts) (k : Part) → ◌≡◌ {A = Result MadeUp Refusal} (Ok (made_up_at b R i)) (Ok (Parts parts k)) → P parts k
  of_parts P holds parts k e =
      let same : sum_parts b R i ≡ parts = cc in
      let number : largest ≡ k = cc in
      subst₂ P same number holds

-- ---- a call that is not refused, and any value and buffer that equal its own

module _ (b old : List ℕ) (scratch table number : ℕ) (passed : make_up_refusal b (length old) scratch table number ≡ Ok tt) where
  abbrev analysed : Result Answer Refusal
  analysed = analyse_answer b (length old) scratch table

  let_through : analyse_refusal b (length old) scratch table ≡ Ok tt
  let_through = (make-up-passed b (length old) scratch table number passed).0

  -- the number is a task's
  task : number - 1 < tasks b
  task = let within = (make-up-passed b (length old) scratch table number passed).1 in omega (arith, within)

  demand3 : Demand3 (system b) (pass_limit b) analysed (times_after b analysed old)
  demand3 = demand3-met b old scratch table let_through analysed (times_after b analysed old) refl refl

  -- the task that Analyse names is late
  named-late : (i passes : ℕ) → analysed ≡ Ok (Late (i + 1) passes) → bound b i < get_or (settled (system b)) i 0
  named-late i passes e =
      let found = (demand3.names (i + 1) passes e).0 in
      let same : found.0 ≡ i = omega (arith, found.2) in
      subst (λ (k : ℕ). bound b k < get_or (settled (system b)) k 0) same (omega (arith, found.1.late))

  -- of a board with times no task is, and its word of the buffer is its settled time
  module _ {i : ℕ} (low : i < tasks b) (passes : ℕ) (e : analysed ≡ Ok (Times passes)) where
    printed-time : get_or (times_after b analysed old) i 0 ≡ get_or (settled (system b)) i 0
    unfolding times_left
    printed-time =
        rw e (fill_to-below (λ k. get_or (settled (system b)) k 0) old 0 (tasks b) i low (omega (arith, times-room b old scratch table let_through)))

    within-bound : get_or (settled (system b)) i 0 ≤ bound b i
    within-bound =
        let least = (demand3.gives passes e).1 in
        omega (arith, least.choice.within i low, get_or-take (tasks b) (times_after b analysed old) i 0 low, printed-time)

  when-spent : (new : List ℕ) → pass_limit b < passes_needed (system b) → MadeUpOf b (length old) scratch table (number - 1) (Ok Spent) new
  when-spent new over =
      record {
        spent = (λ _. over, λ _. refl);
        spent_alike = (λ _. demand3.spent.1 over, λ _. refl);
        sum = λ parts k e. let z : ◌≡◌ {A = ℕ} 0 1 = cc in absurd (omega arith);
        late = λ parts k e. let z : ◌≡◌ {A = ℕ} 0 1 = cc in absurd (omega arith);
        named = λ parts k passes e. let z : ◌≡◌ {A = ℕ} 0 1 = cc in absurd (omega arith);
        on_time = λ parts k e. let z : ◌≡◌ {A = ℕ} 0 1 = cc in absurd (omega arith);
        printed = λ parts k passes e. let z : ◌≡◌ {A = ℕ} 0 1 = cc in absurd (omega arith);
        reason = λ parts k e. let z : ◌≡◌ {A = ℕ} 0 1 = cc in absurd (omega arith);
      }

  when-parts : (new : List ℕ) → new ≡ times_after b analysed old → passes_needed (system b) ≤ pass_limit b
      → MadeUpOf b (length old) scratch table (number - 1) (Ok (made_up_at b (settled (system b)) (number - 1))) new
  when-parts new h le =
      let i = number - 1 in
      let of = of_parts b i task in
      record {
        spent = (λ e. let z : ◌≡◌ {A = ℕ} 0 1 = cc in absurd (omega arith), λ over. absurd (omega arith));
        spent_alike = (λ e. let z : ◌≡◌ {A = ℕ} 0 1 = cc in absurd (omega arith), λ spent. absurd (omega (arith, demand3.spent.0 spent)));
        sum = of (λ parts _. total (listed parts) ≡ task_sum b (settled (system b)) i) (adds b i task);
        late = λ parts k e late. of (λ parts _. bound b i < total (listed parts)) (past_bound b i task late) parts k e;
        named = λ parts k passes e late. of (λ parts _. bound b i < total (listed parts)) (past_bound b i task (named-late i passes late)) parts k e;
        on_time = λ parts k e early. of (λ parts _. total (listed parts) ≡ get_or (settled (system b)) i 0) (its-time b i task early) parts k e;
        printed = λ parts k passes e times.
            of (λ parts _. total (listed parts) ≡ get_or new i 0)
            (its-time b i task (within-bound task passes times) ∙ sym (printed-time task passes times) ∙ ap (λ (l : List ℕ). get_or l i 0) (sym h)) parts k e;
        reason = of (λ parts k. (1 ≤ part_number k) × Largest (λ j. get_or (listed parts) j 0) 6 (part_number k - 1)) (named-largest b i task);
      }

  pub made-up-of : (r : Result MadeUp Refusal) → r ≡ make_up_answer b (length old) scratch table number → (new : List ℕ)
      → new ≡ times_after b (answer_by (make_up_refusal b (length old) scratch table number) b) old → MadeUpOf b (length old) scratch table (number - 1) r new
  unfolding make_up_answer settled_made_up
  made-up-of r e new h = rw (e, passed) (go (ltb (pass_limit b) (passes_needed (system b))) refl)
    where
      left : new ≡ times_after b analysed old
      left = h ∙ ap (λ (a : Result Answer Refusal). times_after b a old) (ap (λ (v : Verdict). answer_by v b) passed ∙ sym (analyse-settled b old scratch table let_through))

      go : (t : Bool) → ltb (pass_limit b) (passes_needed (system b)) ≡ t
          → MadeUpOf b (length old) scratch table (number - 1) (Ok (cond t Spent (made_up_at b (settled (system b)) (number - 1)))) new
      go true over = when-spent new (ltb-true (pass_limit b) (passes_needed (system b)) over)
      go false le = when-parts new left (ltb-false (pass_limit b) (passes_needed (system b)) le)
