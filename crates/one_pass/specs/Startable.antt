-- For the code: what a pass starts from.
-- Assumes nothing.
use Rattle.std.specs.Prelude.{ℕ, List, take}
use Rattle.passes.specs.Passes.{Capped}
use Rattle.scratch.specs.Scratch.{Passable}
use Rattle.one_pass.specs.System.{system}

-- a prepared scratch with times, in its first n words, that a pass can start from
pub record Startable (b : List ℕ) (n : ℕ) (w : List ℕ) : Type 0 where
  pub room : Passable b n w
  pub capped : Capped (system b) (take n w)
