-- On a board whose releases are punctual, the passes are what they were before a release could be late, and so are the settled times.
-- Assumes nothing.
use Prim.Native.Nat.{ℕ}
use mathlib.Core.List.{List}
use mathlib.Core.Path.{◌≡◌, refl}
use Rattle.sums.specs.Punctual.{Punctual}
use Rattle.sums.proofs.Punctual.{bound-punctual, task_sum-punctual}
use Rattle.passes.specs.Passes.{settled, Alike}
use Rattle.passes.proofs.Alike.{settled-alike}
use Rattle.one_pass.specs.System.{system}
use Rattle.one_pass.specs.Punctual.{punctual_system}

module _ (b : List ℕ) (punctual : Punctual b) where
  pub system-punctual : Alike (system b) (punctual_system b)
  system-punctual = record { count = refl; bound = bound-punctual b punctual; sum = task_sum-punctual b punctual }

  pub settled-punctual : settled (system b) ≡ settled (punctual_system b)
  settled-punctual = settled-alike system-punctual
