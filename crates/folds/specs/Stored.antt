-- For the code: what a run of stores leaves: the part that was written, and all else as it was.
-- Assumes nothing.
use Rattle.std.specs.Prelude.{ℕ, ◌+◌, ◌≤◌, ◌<◌, List, ◌≡◌, length, get_or}

-- w' is w with f 0 .. f (n - 1) in the n words from `at` on
pub record Stored (f : ℕ → ℕ) (at n : ℕ) (w w' : List ℕ) : Type 0 where
  pub size : length w' ≡ length w
  pub part : (k : ℕ) → k < n → get_or w' (at + k) 0 ≡ f k
  pub before : (p : ℕ) → p < at → get_or w' p 0 ≡ get_or w p 0
  pub after : (p : ℕ) → at + n ≤ p → get_or w' p 0 ≡ get_or w p 0
