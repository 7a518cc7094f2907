-- The passes of a board ascend.
-- Assumes nothing.
use Prim.Native.Nat.{ℕ}
use mathlib.Core.List.{List}
use Rattle.sums.proofs.Rising.{task_sum-mono}
use Rattle.passes.specs.Passes.{pass, Monotone}
use Rattle.passes.proofs.Ascending.{Ascending, pass-ascending}
use Rattle.one_pass.specs.System.{system}

-- the sums of a board never fall when times rise
pub system-mono : (b : List ℕ) → Monotone (system b)
system-mono b R R' le i task = task_sum-mono b R R' i task (le i task) (λ _ k l _. le k l)

pub system-ascending : (b : List ℕ) → Ascending (system b) (pass (system b))
system-ascending b = pass-ascending (system b) (system-mono b)
