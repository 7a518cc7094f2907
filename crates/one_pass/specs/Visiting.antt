-- For the code: what a visit, and a pass of visits, starts from and leaves.
-- Assumes nothing.
use Rattle.std.specs.Prelude.{ℕ, ◌<◌, Bool, true, false, List, ◌≡◌, length, get_or, take}
use Rattle.passes.specs.Passes.{Below, pass}
use Rattle.scratch.specs.Scratch.{Prepared}
use Rattle.one_pass.specs.System.{system}
use Rattle.one_pass.specs.Startable.{Startable}
use Rattle.one_pass.specs.DueTasks.{Quiet}

-- a prepared scratch with times, in its first n words, that a pass does not lower; and the tasks that are due
pub record Visitable (b : List ℕ) (n due : ℕ) (w : List ℕ) : Type 0 where
  pub startable : Startable b n w
  pub prepared : Prepared b n w
  pub rises : Below n (take n w) (pass (system b) (take n w))
  pub quiet : Quiet b n due w

-- the first n words of the scratch, which was w and is w', are the times R; none is lower than it was, and one is higher exactly where a change is told
pub record Visited (n : ℕ) (R w w' : List ℕ) (changed : Bool) : Type 0 where
  pub size : length w' ≡ length w
  pub times : take n w' ≡ R
  pub raises : Below n (take n w) (take n w')
  pub still : changed ≡ false → take n w' ≡ take n w
  pub higher : changed ≡ true → (i : ℕ) × (i < n) × (get_or (take n w) i 0 < get_or (take n w') i 0)
