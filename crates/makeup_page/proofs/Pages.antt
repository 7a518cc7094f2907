-- The page of how a time is made up, from what `make_up` answers and row 15 says. What `make_up` answers can be printed.
-- Assumes nothing.
use Prim.Native.Nat.{ℕ, ◌-◌, ◌^◌, ◌<◌}
use mathlib.Core.List.{List}
use mathlib.Core.Path.{◌≡◌, refl, sym, ap, subst, ◌∙◌}
use native.Mathlib.Omega.{arith}
use Rattle.std.specs.Prelude.{Ok, Err, Result}
use Rattle.board.specs.Layout.{tasks, most_tasks, most_scratch}
use Rattle.board.specs.Sound.{Sound}
use Rattle.refusals.specs.Refusals.{Verdict, row_number, refused}
use Rattle.refusals.specs.declared.Row.{Row}
use Rattle.refusals.specs.declared.Refusal.{Refusal}
use Rattle.sums.specs.Sums.{task_sum}
use Rattle.sums.specs.Inputs.{CappedTimes}
use Rattle.sums.proofs.Bounds.{task_sum-bound}
use Rattle.passes.specs.Passes.{settled}
use Rattle.passes.proofs.Settling.{settled-length, settled-capped}
use Rattle.one_pass.proofs.Sums.{system-ascending}
use Rattle.checks.proofs.Accepted.{make-up-taken}
use Rattle.answers.specs.declared.MadeUp.{MadeUp}
use Rattle.answers.specs.declared.MadeUp.TheVariants.{Parts, Spent}
use Rattle.checks.specs.CallRefusals.{make_up_refusal}
use Rattle.answers.specs.Answers.{system}
use Rattle.answers.specs.MakeUp.{made_up_by, make_up_answer}
use Rattle.answers.specs.MakeUp.{MadeUpOf}
use Rattle.input.specs.Input.{words_in, input_refusal}
use Rattle.input.specs.Argument.{number_in}
use Rattle.answer_page.specs.AnswerPage.{bad_line}
use Rattle.parts_page.specs.PartsPage.{made_up_page}
use Rattle.parts_page.specs.Printable.{Printable}
use Rattle.page.proofs.Pages.{input_page-passed, input_page-refused}
use Rattle.makeup_page.specs.MakeUpPage.{board_made_up, make_up_page}

-- the sum of a task at the settled times of a sound board is below 2^64
sum_fits : (b : List ℕ) (i : ℕ) → Sound b → i < tasks b → task_sum b (settled (system b)) i < 2 ^ 64
sum_fits b i s task =
    let up = system-ascending b in
    let times : CappedTimes b (settled (system b)) = record { long = omega (arith, settled-length up); short = settled-capped up } in
    task_sum-bound b (settled (system b)) s times i task

-- what `make_up` answers can be printed: where it does not refuse, the board is sound, the task is one of its tasks, and its sum fits
module _ (b : List ℕ) (times scratch table task : ℕ) {left : List ℕ} where
  passed-printable : (r : MadeUp) → make_up_refusal b times scratch table task ≡ Ok tt → MadeUpOf b times scratch table (task - 1) (Ok r) left → Printable b task (Ok r)
  passed-printable (Parts parts k) e promised =
      let taken = make-up-taken b times scratch table task e in
      let within : task - 1 < tasks b = omega (arith, taken.task) in
      let sound = taken.analyse.analysable.sound in
      (sound, taken.task, omega (arith, promised.sum parts k refl, sum_fits b (task - 1) sound within))
  passed-printable Spent e promised = (make-up-taken b times scratch table task e).analyse.analysable.sound

  module _ {r : Result MadeUp Refusal} (answer : r ≡ make_up_answer b times scratch table task)
      (promised : make_up_refusal b times scratch table task ≡ Ok tt → MadeUpOf b times scratch table (task - 1) r left) where
    by-verdict : (v : Verdict) → make_up_refusal b times scratch table task ≡ v → Printable b task (made_up_by v b (task - 1))
    unfolding make_up_answer
    by-verdict (Ok passed) e =
        let made : r ≡ made_up_by (Ok passed) b (task - 1) = answer ∙ ap (λ (v : Verdict). made_up_by v b (task - 1)) e in
        passed-printable _ e (subst (λ (s : Result MadeUp Refusal). MadeUpOf b times scratch table (task - 1) s left) made (promised e))
    by-verdict (Err refusal) e = tt

    pub make-up-printable : Printable b task r
    unfolding make_up_answer
    make-up-printable = subst (Printable b task) (sym answer) (by-verdict (make_up_refusal b times scratch table task) refl)

-- the page of `make_up`'s answer is the board's
pub board_made_up-is : (b : List ℕ) {task number : ℕ} {r : Result MadeUp Refusal} → number ≡ task → r ≡ make_up_answer b most_tasks most_scratch most_tasks number
    → made_up_page b (number - 1) r ≡ board_made_up task b
unfolding board_made_up
board_made_up-is b e answer = rw (answer, e)

-- the page of an input that row 15 passes, and of one that it refuses
module _ (argument bytes : List ℕ) where
  pub make_up_page-passed : (words : List ℕ) → input_refusal bytes ≡ Ok tt → words ≡ words_in bytes → board_made_up (number_in argument) words ≡ make_up_page argument bytes
  unfolding make_up_page
  make_up_page-passed = input_page-passed (board_made_up (number_in argument)) bytes

  pub make_up_page-refused : (row : Row) (place : ℕ) → input_refusal bytes ≡ refused row place → bad_line (row_number row) place ≡ make_up_page argument bytes
  unfolding make_up_page
  make_up_page-refused = input_page-refused (board_made_up (number_in argument)) bytes
