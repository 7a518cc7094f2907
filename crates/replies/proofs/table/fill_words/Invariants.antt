-- The words of the records passed are those of the table.
use Rattle.std.proofs.Common.{◌≡◌, ◌*◌}
use Rattle.folds.specs.Folds.{fill_to}
use Rattle.replies.specs.Records.{record_words, table_word}
use Rattle.replies.proofs.table.fill_words.Given as goal

abbrev pub invariant-loop-k : goal.invariant-loop-k
invariant-loop-k l = l.records ≡ fill_to (table_word l.board) (record_words * l.k) l.fn.records
