-- For the code: what it takes to print how a time is made up.
-- Assumes nothing.
use Rattle.std.specs.Prelude.{ℕ, ◌^◌, ◌<◌, List, Result, Ok, Err}
use Rattle.board.specs.Layout.{tasks}
use Rattle.board.specs.Sound.{Between, Sound}
use Rattle.sums.specs.SixParts.{total}
use Rattle.interference.specs.Parts.{listed}
use Rattle.refusals.specs.declared.Refusal.{Refusal}
use Rattle.answers.specs.declared.MadeUp.{MadeUp}
use Rattle.answers.specs.declared.MadeUp.TheVariants.{Parts, Spent}

-- parts are printed of a task of a sound board, by its number from 1, where they add up to a 64-bit number; the pass limit of a sound board
abbrev pub Printable : List ℕ → ℕ → Result MadeUp Refusal → Type 0
Printable b task (Ok (Parts parts reason)) = Sound b × Between 1 (tasks b) task × (total (listed parts) < 2 ^ 64)
Printable b task (Ok Spent) = Sound b
Printable b task (Err refusal) = Unit {0}
