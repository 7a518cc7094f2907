-- What each call knows where no row refuses.
-- Assumes nothing.
use Prim.Native.Nat.{ℕ, ◌+◌, ◌≤◌, ◌<◌, zero-le}
use mathlib.Core.Bool.{true, not, false≢true}
use mathlib.Core.List.{List}
use mathlib.Core.Path.{◌≡◌, sym, ap, ◌∙◌}
use lib.Dec.{leb, eqb}
use lib.ListN.{length, get_or}
use borrow.Author.Tests.{leb-true, eqb-true, eq-eqb, not-true}
use Rattle.std.specs.Prelude.{Ok}
use Rattle.folds.proofs.Numbers.{and_both}
use Rattle.folds.proofs.Folds.{any_to-some}
use Rattle.passes.specs.Visits.{Permutation}
use Rattle.board.specs.Layout.{tasks, scratch_words}
use Rattle.board.specs.Sound.{Between}
use Rattle.ranges.specs.Ranges.{within}
use Rattle.refusals.specs.Refusals.{Verdict, refuse_unless, refuse_first, ◌or_else◌, refusal_of}
use Rattle.refusals.specs.declared.Row.{Row}
use Rattle.refusals.specs.declared.Row.TheVariants.{TaskNumber, TimesBuffer, Scratch, FiguresTable, GivenTime, TaskList}
use Rattle.refusals.proofs.Verdicts.{or_else-passed, refuse_unless-passed}
use Rattle.refusals.proofs.Sound.{sound, within-true, refuse_first-passed}
use Rattle.sums.specs.Sums.{bound}
use Rattle.checks.specs.CallRefusals.{task_row, times_row, scratch_row, table_row, buffer_rows, time_ok, time_row, named_before, number_ok, order_row, figures_refusal, overhead_refusal, weigh_refusal, analyse_refusal, in_order_refusal, make_up_refusal}
use Rattle.checks.specs.Accepted.{FiguresTaken, OverheadTaken, WeighTaken, AnalyseTaken, InOrderTaken, MakeUpTaken}
use Rattle.checks.proofs.Checks.{or_else-assoc}

-- a list that passes row 16
module _ (n : ℕ) (order : List ℕ) (passed : order_row n order ≡ Ok tt) where
  row16 : (refuse_unless TaskList (eqb (length order) n) (length order) ≡ Ok tt) × (refuse_first TaskList (number_ok n order) 0 n ≡ Ok tt)
  row16 = or_else-passed _ _ passed

  number-passes : (k : ℕ) → k < n → (within 1 n (get_or order k 0) ≡ true) × (not (named_before order k (get_or order k 0)) ≡ true)
  number-passes k h = and_both _ _ (refuse_first-passed TaskList (number_ok n order) 0 n row16.1 k zero-le h)

  order-taken : Permutation n order
  order-taken = record {
    size = eqb-true (length order) n (refuse_unless-passed TaskList _ _ row16.0);
    within = λ k h. within-true 1 n (get_or order k 0) (number-passes k h).0;
    differ = λ j k l h same. false≢true (sym (not-true _ (number-passes k h).1) ∙ any_to-some _ k j l (eq-eqb _ _ same));
  }

module _ (b : List ℕ) where
  abbrev n : ℕ
  n = tasks b

  -- a task number that passes row 10, and a length that passes row 11, 12 or 13
  row10 : (i : ℕ) → task_row n i ≡ Ok tt → Between 1 n i
  row10 i e = within-true 1 n i (refuse_unless-passed TaskNumber (within 1 n i) i e)

  row-length : (row : Row) (least len : ℕ) → refuse_unless row (leb least len) len ≡ Ok tt → least ≤ len
  row-length row least len e = leb-true least len (refuse_unless-passed row (leb least len) len e)

  pub figures-taken : (room : ℕ) → figures_refusal b room ≡ Ok tt → FiguresTaken b room
  unfolding figures_refusal
  figures-taken room e =
      let rows = or_else-passed (refusal_of b) (table_row n room) e in
      record { sound = sound b rows.0; table = row-length FiguresTable n room rows.1 }

  pub overhead-taken : (i j : ℕ) → overhead_refusal b i j ≡ Ok tt → OverheadTaken b i j
  unfolding overhead_refusal
  overhead-taken i j e =
      let rows = or_else-passed (refusal_of b) (task_row n i or_else task_row n j) e in
      let both = or_else-passed (task_row n i) (task_row n j) rows.1 in
      record { sound = sound b rows.0; first = row10 i both.0; second = row10 j both.1 }

  pub weigh-taken : (R : List ℕ) (i : ℕ) → weigh_refusal b R i ≡ Ok tt → WeighTaken b R i
  unfolding weigh_refusal
  weigh-taken R i e =
      let over = time_row b R n in
      let rows = or_else-passed (refusal_of b) (task_row n i or_else times_row n (length R) or_else over) e in
      let rest = or_else-passed (task_row n i) (times_row n (length R) or_else over) rows.1 in
      let last = or_else-passed (times_row n (length R)) over rest.1 in
      record {
        sound = sound b rows.0;
        task = row10 i rest.0;
        times = record {
          long = row-length TimesBuffer n (length R) last.0;
          short = λ k h. leb-true (get_or R k 0) (bound b k + 1) (refuse_first-passed GivenTime (time_ok b R) 0 n last.1 k zero-le h);
        };
      }

  pub analyse-taken : (times scratch room : ℕ) → analyse_refusal b times scratch room ≡ Ok tt → AnalyseTaken b times scratch room
  unfolding analyse_refusal
  analyse-taken times scratch room e =
      let rows = or_else-passed (refusal_of b) (times_row n times or_else scratch_row n scratch or_else table_row n room) e in
      let rest = or_else-passed (times_row n times) (scratch_row n scratch or_else table_row n room) rows.1 in
      let last = or_else-passed (scratch_row n scratch) (table_row n room) rest.1 in
      record {
        analysable = record {
          sound = sound b rows.0;
          times_room = row-length TimesBuffer n times rest.0;
          scratch_room = row-length Scratch (scratch_words n) scratch last.0;
        };
        table = row-length FiguresTable n room last.1;
      }

  -- the rows of Analyse, and then row 16
  pub in_order_refusal-is : (times scratch room : ℕ) (order : List ℕ) → in_order_refusal b times scratch room order ≡ (analyse_refusal b times scratch room or_else order_row n order)
  unfolding in_order_refusal analyse_refusal
  in_order_refusal-is times scratch room order = simp or_else-assoc

  pub in-order-taken : (times scratch room : ℕ) (order : List ℕ) → in_order_refusal b times scratch room order ≡ Ok tt → InOrderTaken b times scratch room order
  in-order-taken times scratch room order e =
      let rows = or_else-passed (analyse_refusal b times scratch room) (order_row n order) (sym (in_order_refusal-is times scratch room order) ∙ e) in
      record { analyse = analyse-taken times scratch room rows.0; permuted = order-taken n order rows.1 }

  -- Analyse would not be refused either, and the number is a task's
  pub make-up-passed : (times scratch room i : ℕ) → make_up_refusal b times scratch room i ≡ Ok tt → (analyse_refusal b times scratch room ≡ Ok tt) × Between 1 n i
  unfolding make_up_refusal analyse_refusal
  make-up-passed times scratch room i e =
      let buffers = buffer_rows n times scratch room in
      let rows = or_else-passed (refusal_of b) (task_row n i or_else buffers) e in
      let rest = or_else-passed (task_row n i) buffers rows.1 in
      (ap (λ (v : Verdict). v or_else buffers) rows.0 ∙ rest.1, row10 i rest.0)

  pub make-up-taken : (times scratch room i : ℕ) → make_up_refusal b times scratch room i ≡ Ok tt → MakeUpTaken b times scratch room i
  make-up-taken times scratch room i e =
      let passed = make-up-passed times scratch room i e in
      record { analyse = analyse-taken times scratch room passed.0; task = passed.1 }
