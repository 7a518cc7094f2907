-- What the loop over passes starts from.
-- Assumes nothing.
use Prim.Native.Nat.{ℕ, ◌-◌, ◌^◌}
use mathlib.Core.List.{List}
use mathlib.Core.Path.{◌≡◌}
use native.Mathlib.Omega.{arith}
use lib.ListN.{take}
use Rattle.folds.specs.Folds.{fill_to}
use Rattle.folds.proofs.Stored.{filled-stored}
use Rattle.passes.specs.Ascending.{Ascending}
use Rattle.passes.proofs.Settling.{times_by-rising}
use Rattle.passes.proofs.Looping.{Passing, passing-capped}
use Rattle.scratch.specs.Scratch.{Prepared}
use Rattle.scratch.proofs.Prepared.{passable, passable-kept, prepared-stored}
use Rattle.one_pass.specs.System.{system}
use Rattle.one_pass.specs.Visiting.{Visitable}
use Rattle.one_pass.proofs.Halves.{passing-cleared}
use Rattle.one_pass.proofs.DueTasks.{quiet_none}

-- all times are 0, and every task is due
module _ {b : List ℕ} {step : List ℕ → List ℕ} (up : Ascending (system b) step) {n : ℕ} {w₀ w : List ℕ} (ready : Prepared b n w₀) (cleared : w ≡ fill_to (λ k. 0) n w₀) where
  none : Passing (system b) step 0 (take n w)
  none = passing-cleared (system b) step w₀ ready.room.tasks (omega (arith, ready.room.words)) cleared

  pub visitable-start : Visitable b n (2 ^ 64 - 1) w
  visitable-start =
      let stored = filled-stored cleared (omega (arith, ready.room.words)) in
      record {
        startable = record { room = passable-kept (passable ready.room) stored.size; capped = passing-capped up none };
        prepared = prepared-stored ready stored (omega arith);
        rises = λ i h. rw none.times ((times_by-rising up 0).rises i (rw (← ready.room.tasks) h));
        quiet = quiet_none b w (omega (arith, ready.room.tasks, ready.room.sound.tasks));
      }
