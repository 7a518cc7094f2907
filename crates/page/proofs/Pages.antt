-- The page of a board and of the input, from what Analyse answers and row 15 says.
-- Assumes nothing.
use Prim.Native.Nat.{ℕ, ◌≤◌, ◌<◌}
use mathlib.Core.List.{List, [], ◌++◌, append-nil}
use mathlib.Core.Logic.{⊎_elim}
use mathlib.Core.Path.{◌≡◌, refl, sym, ap, subst, ◌∙◌}
use native.Mathlib.Omega.{arith}
use lib.ListN.{length, length-append}
use Rattle.std.specs.Prelude.{Ok, Err, Some, None, IfSome, Result}
use Rattle.std.specs.Io.KnownBytes.{Consumes, IsAtEnd}
use Rattle.std.specs.declared.option.Option.{Option}
use Rattle.folds.proofs.Numbers.{le-or-lt}
use Rattle.input.proofs.Words.{input_refusal-long}
use Rattle.board.specs.Layout.{tasks, most_tasks, most_scratch}
use Rattle.board.specs.Sound.{Sound}
use Rattle.refusals.specs.Refusals.{Verdict, row_number, refused}
use Rattle.refusals.specs.declared.Row.{Row}
use Rattle.refusals.specs.declared.Refusal.{Refusal}
use Rattle.checks.proofs.Accepted.{analyse-taken}
use Rattle.checks.specs.CallRefusals.{analyse_refusal}
use Rattle.answers.specs.Answers.{answer_by, analyse_answer, times_after}
use Rattle.answers.specs.declared.Answer.{Answer}
use Rattle.answers.specs.declared.Answer.TheVariants.{Times, Late, Spent}
use Rattle.input.specs.Input.{words_in, input_refusal}
use Rattle.answer_page.specs.AnswerPage.{bad_line, answer_page}
use Rattle.answer_page.specs.Printable.{Printable}
use Rattle.page.specs.Page.{lent_times, board_page, page_by, input_page, page_of}

-- what Analyse answers can be printed: where it does not refuse, the board is sound and each task has a time
module _ (b R : List ℕ) where
  any-printable : (r : Answer) → Sound b → tasks b ≤ length R → Printable b R (Ok r)
  any-printable (Times passes) s h = (s, h)
  any-printable (Late task passes) s h = tt
  any-printable Spent s h = s

  module _ (times scratch table : ℕ) (room : length R ≡ times) where
    by-verdict : (v : Verdict) → analyse_refusal b times scratch table ≡ v → Printable b R (answer_by v b)
    by-verdict (Ok passed) e =
        let taken = (analyse-taken b times scratch table e).analysable in
        any-printable _ taken.sound (omega (arith, taken.times_room))
    by-verdict (Err refusal) e = tt

    pub analyse-printable : {r : Result Answer Refusal} → r ≡ analyse_answer b times scratch table → Printable b R r
    unfolding analyse_answer
    analyse-printable e = subst (Printable b R) (sym e) (by-verdict (analyse_refusal b times scratch table) refl)

-- the page of Analyse's answer is the board's
pub board_page-is : (b R : List ℕ) (r : Result Answer Refusal) → r ≡ analyse_answer b most_tasks most_scratch most_tasks → R ≡ times_after b r lent_times
    → answer_page b R r ≡ board_page b
unfolding board_page
board_page-is b R r e h = rw (h, e)

-- the page of an input that row 15 passes, and of one that it refuses, over any page of a board
module _ (page : List ℕ → List ℕ) (bytes : List ℕ) where
  pub input_page-passed : (words : List ℕ) → input_refusal bytes ≡ Ok tt → words ≡ words_in bytes → page words ≡ input_page page bytes
  input_page-passed words e h = ap page h ∙ ap (λ (v : Verdict). page_by page v bytes) (sym e)

  pub input_page-refused : (row : Row) (place : ℕ) → input_refusal bytes ≡ refused row place → bad_line (row_number row) place ≡ input_page page bytes
  input_page-refused row place e = ap (λ (v : Verdict). page_by page v bytes) (sym e)

-- over the page of Analyse
pub page_of-passed : (bytes words : List ℕ) → input_refusal bytes ≡ Ok tt → words ≡ words_in bytes → board_page words ≡ page_of bytes
unfolding page_of
page_of-passed = input_page-passed board_page

pub page_of-refused : (bytes : List ℕ) (row : Row) (place : ℕ) → input_refusal bytes ≡ refused row place → bad_line (row_number row) place ≡ page_of bytes
unfolding page_of
page_of-refused = input_page-refused board_page

-- over any page of a board
module _ (page : List ℕ → List ℕ) where
  -- the page of what was read of an input: all of it, or at least 65,537 bytes
  input_page-long : (bytes : List ℕ) → 65537 ≤ length bytes → input_page page bytes ≡ bad_line 15 65537
  input_page-long bytes h = ap (λ (v : Verdict). page_by page v bytes) (input_refusal-long bytes h)

  same_page : (bytes rest : List ℕ) → (length bytes < 65537 → rest ≡ []) → input_page page bytes ≡ input_page page (bytes ++ rest)
  same_page bytes rest end =
      ⊎_elim
      (λ l. input_page-long bytes l ∙ sym (input_page-long (bytes ++ rest) (omega (arith, length-append bytes rest))))
      (λ l. ap (input_page page) (sym (append-nil bytes) ∙ ap (λ (more : List ℕ). bytes ++ more) (sym (end l))))
      (le-or-lt 65537 (length bytes))

  pub input_page-whole : (given left : Option (List ℕ)) (bytes : List ℕ) → Consumes given left bytes → (length bytes < 65537 → IsAtEnd left)
      → IfSome given (λ all. input_page page bytes ≡ input_page page all)
  input_page-whole None left bytes taken end = tt
  input_page-whole (Some all) None bytes taken end = absurd taken
  input_page-whole (Some all) (Some rest) bytes taken end = same_page bytes rest end ∙ ap (input_page page) (sym taken)
