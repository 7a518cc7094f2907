-- The records that a call fills make the table that its contract states.
-- Assumes nothing.
use Rattle.std.proofs.Common.{ℕ, List, Ok, Err, ◌≡◌, refl, ap, ◌∙◌}
use Rattle.folds.specs.Folds.{fill_to}
use Rattle.folds.proofs.Lists.{fill_to-none}
use Rattle.refusals.specs.Refusals.{Verdict}
use Rattle.figures.specs.declared.Figure.{Figure}
use Rattle.figures.specs.Figures.{figure_of}
use Rattle.answers.specs.Answers.{table_after}
use Rattle.answers.specs.Records.{records_of}

pub records-table : (b : List ℕ) (v : Verdict) (old : List Figure) → fill_to (figure_of b) (records_of v b) old ≡ table_after b v old
unfolding table_after
records-table b (Ok _) old = refl
records-table b (Err refusal) old = fill_to-none (figure_of b) old

-- of n records, and what the table then holds
pub filled : (b : List ℕ) (v : Verdict) (old new : List Figure) (n : ℕ) → n ≡ records_of v b → new ≡ fill_to (figure_of b) n old → new ≡ table_after b v old
filled b v old new n e h = h ∙ ap (λ (k : ℕ). fill_to (figure_of b) k old) e ∙ records-table b v old
