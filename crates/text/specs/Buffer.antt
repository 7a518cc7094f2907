-- For the code: bytes put into a lent buffer.
-- Assumes nothing.
use Rattle.std.specs.Prelude.{ℕ, ◌+◌, ◌≤◌, List, ◌≡◌, length}
use Rattle.std.proofs.lemmas.List.Edits.{sets}

-- the buffer `old` with `bytes` laid in, one after the other, from place `at` on
unfoldable pub laid : List ℕ → ℕ → List ℕ → List ℕ
laid bytes at old = sets old at bytes

-- what it is to put `bytes` at place `at`: the buffer holds them, and `next` is the place after them, still within it
pub record Put (old : List ℕ) (at : ℕ) (bytes new : List ℕ) (next : ℕ) : Type 0 where
  pub buffer : new ≡ laid bytes at old
  pub place : next ≡ at + length bytes
  pub fits : next ≤ length old
