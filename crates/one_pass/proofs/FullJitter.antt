-- J = D: a task that may be released as late as its deadline has no time left, and is late.
-- Assumes nothing.
use Prim.Native.Nat.{ℕ, ◌<◌}
use mathlib.Core.List.{List}
use mathlib.Core.Path.{◌≡◌}
use native.Mathlib.Omega.{arith}
use lib.ListN.{get_or}
use Rattle.board.specs.Layout.{tasks, deadline, jitter}
use Rattle.board.specs.Sound.{Sound}
use Rattle.sums.specs.Sums.{bound}
use Rattle.sums.proofs.Bounds.{task_sum-least}
use Rattle.passes.specs.Passes.{settled, NoChoice}
use Rattle.passes.proofs.Settling.{settled_is}
use Rattle.one_pass.specs.System.{system}
use Rattle.one_pass.proofs.Sums.{system-ascending}

module _ (b : List ℕ) (s : Sound b) (i : ℕ) (task : i < tasks b) (full : jitter b i ≡ deadline b i) where
  -- its sum is at least d, and its largest time that is not late is 0
  pub full-jitter-no-choice : NoChoice (system b)
  full-jitter-no-choice R choice = omega (arith, full, choice.within i task, choice.meets i task, task_sum-least b R i, s.access.0)

  pub full-jitter-late : bound b i < get_or (settled (system b)) i 0
  full-jitter-late = omega (arith, full, settled_is (system-ascending b) i task, task_sum-least b (settled (system b)) i, s.access.0)
