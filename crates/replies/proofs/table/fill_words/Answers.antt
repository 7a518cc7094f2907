-- A turn writes the words of one record more.
use Rattle.std.proofs.Common.{ℕ, List, sym, ap, ◌∙◌}
use Rattle.folds.proofs.Lists.{fill_to-none}
use Rattle.figures.specs.Figures.{figure_of}
use Rattle.replies.specs.Records.{figure_words, table_word}
use Rattle.replies.proofs.Records.{filled_more}
use Rattle.replies.proofs.table.fill_words.Goals as goal

pub loop-k-init : goal.loop-k-init
loop-k-init c = sym (fill_to-none (table_word c.args.board.now) c.args.records.now)

pub of-requires : goal.of-requires
of-requires c = (c.requires.0.ready c.loop-k.k c.loop-k-test.true).sound

pub loop-k-preserved : goal.loop-k-preserved
loop-k-preserved c =
    let k = c.loop-k.k in
    filled_more c.args.board.now k c.args.records.now c.loop-k.invariant
    (c.words_of.ensures ∙ ap figure_words c.figure_at-figure.ensures ∙ ap (λ (b : List ℕ). figure_words (figure_of b k)) c.of.ensures) c.store.ensures
