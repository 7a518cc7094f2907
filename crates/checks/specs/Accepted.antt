-- For the code: what is known where a call is not refused; the laws in proofs/Accepted.antt derive it.
-- Assumes nothing.
use Rattle.std.specs.Prelude.{ℕ, ◌≤◌, List, ◌≡◌, Result, Ok, Err}
use Rattle.passes.specs.Visits.{Permutation}
use Rattle.board.specs.Layout as at
use Rattle.board.specs.Sound.{Between, Sound}
use Rattle.refusals.specs.Refusals.{refusal_of}
use Rattle.refusals.specs.declared.Refusal.{Refusal}
use Rattle.sums.specs.Inputs.{CappedTimes}

-- n is the tasks of a board that passes its own rows
pub record PassedWith (b : List ℕ) (n : ℕ) : Type 0 where
  pub passed : refusal_of b ≡ Ok tt
  pub tasks : n ≡ at.tasks b
  pub few : n ≤ at.most_tasks

-- what a board's own rows say: its tasks where it passes, and else what refuses
abbrev pub Judged : List ℕ → Result ℕ Refusal → Type 0
Judged b (Ok n) = PassedWith b n
Judged b (Err refusal) = refusal_of b ≡ Err refusal

pub record FiguresTaken (b : List ℕ) (room : ℕ) : Type 0 where
  pub sound : Sound b
  pub table : at.tasks b ≤ room

pub record OverheadTaken (b : List ℕ) (i j : ℕ) : Type 0 where
  pub sound : Sound b
  pub first : Between 1 (at.tasks b) i
  pub second : Between 1 (at.tasks b) j

pub record WeighTaken (b R : List ℕ) (i : ℕ) : Type 0 where
  pub sound : Sound b
  pub task : Between 1 (at.tasks b) i
  pub times : CappedTimes b R

-- the board passes, and the buffers of words are long enough
pub record Analysable (b : List ℕ) (times scratch : ℕ) : Type 0 where
  pub sound : Sound b
  pub times_room : at.tasks b ≤ times
  pub scratch_room : at.scratch_words (at.tasks b) ≤ scratch

pub record AnalyseTaken (b : List ℕ) (times scratch room : ℕ) : Type 0 where
  pub analysable : Analysable b times scratch
  pub table : at.tasks b ≤ room

-- and the list has the number of each task once
pub record InOrderTaken (b : List ℕ) (times scratch room : ℕ) (order : List ℕ) : Type 0 where
  pub analyse : AnalyseTaken b times scratch room
  pub permuted : Permutation (at.tasks b) order

-- and the task is one of the board's
pub record MakeUpTaken (b : List ℕ) (times scratch room i : ℕ) : Type 0 where
  pub analyse : AnalyseTaken b times scratch room
  pub task : Between 1 (at.tasks b) i
