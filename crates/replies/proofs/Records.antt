-- The words of the figures table, filled record by record.
-- Assumes nothing.
use Prim.Native.Nat.{ℕ, ◌+◌, ◌*◌, ◌/◌, ◌%◌, ◌≤◌, ◌<◌}
use mathlib.Core.List.{List}
use Rattle.std.specs.Prelude.{Ok, Err}
use mathlib.Core.Logic.{⊎_elim}
use mathlib.Core.Path.{◌≡◌, ap, ◌∙◌}
use native.Mathlib.Omega.{arith}
use lib.ListN.{length, get_or}
use Rattle.folds.specs.Folds.{fill_to}
use Rattle.folds.specs.Stored.{Stored}
use Rattle.folds.proofs.Numbers.{le-or-lt}
use Rattle.folds.proofs.Lists.{fill_to-none, length-fill_to, fill_to-below, fill_to-from, fill_to-is}
use Rattle.refusals.specs.Refusals.{Verdict}
use Rattle.figures.specs.Figures.{figure_of}
use Rattle.answers.specs.Records.{records_of}
use Rattle.replies.specs.Records.{record_words, figure_words, table_word, records_after}

-- the words of one record more
pub filled_more : (b : List ℕ) (k : ℕ) (old : List ℕ) {l l' words : List ℕ} → l ≡ fill_to (table_word b) (record_words * k) old
    → words ≡ figure_words (figure_of b k) → Stored (λ w. get_or words w 0) (record_words * k) record_words l l'
    → l' ≡ fill_to (table_word b) (record_words * (k + 1)) old
filled_more b k old {l} {l'} {words} e is stored =
    fill_to-is f old 0 (record_words * (k + 1)) l' (stored.size ∙ ap length e ∙ length-fill_to f old (record_words * k))
    (λ w h within. ⊎_elim (here w h) (λ (less : w < record_words * k). stored.before w less ∙ ap (λ m. get_or m w 0) e ∙ fill_to-below f old 0 (record_words * k) w less within)
    (le-or-lt (record_words * k) w))
    (λ w h. stored.after w (omega arith) ∙ ap (λ m. get_or m w 0) e ∙ fill_to-from f old 0 (record_words * k) w (omega arith))
  where
    f : ℕ → ℕ
    f = table_word b

    here : (w : ℕ) → w < record_words * (k + 1) → record_words * k ≤ w → get_or l' w 0 ≡ f w
    here w h from =
        let place : w ≡ record_words * k + w % record_words = omega arith in
        let same : k ≡ w / record_words = omega arith in
        ap (λ (p : ℕ). get_or l' p 0) place ∙ stored.part (w % record_words) (omega arith) ∙ ap (λ m. get_or m (w % record_words) 0) is
        ∙ ap (λ (q : ℕ). get_or (figure_words (figure_of b q)) (w % record_words) 0) same

-- a buffer whose first records, one a task or none, were filled is what the contract of the call states
pub filled-records : (b : List ℕ) (v : Verdict) (old : List ℕ) {new : List ℕ} {n : ℕ} → n ≡ records_of v b → new ≡ fill_to (table_word b) (record_words * n) old
    → new ≡ records_after b v old
unfolding records_after
filled-records b (Ok _) old e h = h ∙ ap (λ (n : ℕ). fill_to (table_word b) (record_words * n) old) e
filled-records b (Err refusal) old e h =
    h ∙ ap (λ (n : ℕ). fill_to (table_word b) (record_words * n) old) e ∙ fill_to-none (table_word b) old

-- the same, for the attribute of a call that fills a buffer
pub ruleset filled = filled-records
