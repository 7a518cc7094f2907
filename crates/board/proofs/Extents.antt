-- The parts of a sound board lie one after the other, and the scratch of a board is no larger than that of the most tasks.
-- Assumes nothing.
use Prim.Native.Nat.{ℕ, ◌+◌, ◌*◌, ◌≤◌, ◌<◌}
use mathlib.Core.List.{List}
use native.Mathlib.Nat.{mul-le-mul}
use native.Mathlib.Omega.{arith}
use Rattle.folds.proofs.Folds.{sum_to-below}
use Rattle.board.specs.Layout as at
use Rattle.board.specs.Sound.{Sound}

-- each task's traces lie among the traces, and each trace's instructions among the instructions
module _ (b : List ℕ) (s : Sound b) where
  pub traces-fit : (k : ℕ) → k < at.tasks b → at.first_trace b k + at.trace_count b k ≤ at.traces b
  unfolding at.first_trace
  traces-fit k l = rw s.trace_sum at (sum_to-below (at.trace_count b) k (at.tasks b) l)

  pub trace-fits : (t : ℕ) → t < at.traces b → at.first_instruction b t + at.trace_length b t ≤ at.instructions b
  unfolding at.first_instruction
  trace-fits t l = rw s.length_sum at (sum_to-below (at.trace_length b) t (at.traces b) l)

pub square-fits : {n : ℕ} → n ≤ at.most_tasks → n * n ≤ at.most_tasks * at.most_tasks
square-fits few = mul-le-mul few few

pub scratch-fits : {n : ℕ} → n ≤ at.most_tasks → at.scratch_words n ≤ at.most_scratch
scratch-fits few = omega (arith, square-fits few)
