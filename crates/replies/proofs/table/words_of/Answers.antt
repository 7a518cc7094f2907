-- The words of both ECBs are those that `halves` gives.
use Rattle.replies.specs.Records.{figure_words}
use Rattle.replies.proofs.table.words_of.Goals as goal

pub returns : goal.returns
unfolding figure_words
returns c =
    rw (c.copy_from_slice.ensures.after, c.copy_from_slice-2.ensures.after, c.copy_from_slice-3.ensures.after, c.halves.ensures, c.halves-2.ensures)
