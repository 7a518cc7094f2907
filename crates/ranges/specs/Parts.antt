-- For the code: the test of a word by the part of the board that it stands in.
-- Assumes nothing.
use Rattle.std.specs.Prelude.{ℕ, Bool, List}
use Rattle.ranges.specs.Ranges.{header_ok, task_ok, length_ok, fetch_ok, work_ok}
use Rattle.ranges.specs.declared.Part.{Part}
use Rattle.ranges.specs.declared.Part.TheVariants.{Header, Tasks, Lengths, Fetches, Works}

abbrev pub word_ok : Part → List ℕ → ℕ → Bool
word_ok Header b i = header_ok b i
word_ok Tasks b i = task_ok b i
word_ok Lengths b i = length_ok b i
word_ok Fetches b i = fetch_ok b i
word_ok Works b i = work_ok b i
