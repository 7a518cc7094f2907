-- The sums of words that stand at a fixed distance from each other: trace counts and trace lengths.
-- Assumes nothing.
use Prim.Native.Nat.{ℕ, ◌+◌, ◌*◌}
use mathlib.Core.List.{List}
use mathlib.Core.Path.{◌≡◌, ap}
use native.Mathlib.Omega.{arith}
use Rattle.folds.specs.Folds.{sum_to}
use Rattle.folds.proofs.Folds.{sum_to-none, sum_to-cong}
use Rattle.folds.proofs.Loops.{sum_to-turn}
use Rattle.board.specs.Layout.{word, lengths_at, first_trace, first_instruction}

module _ (b : List ℕ) where
  strided : (from stride : ℕ) (at : ℕ → ℕ) (n : ℕ) → ((k : ℕ) → from + stride * k ≡ at k)
      → sum_to (λ k. word b (from + stride * k)) n ≡ sum_to (λ k. word b (at k)) n
  strided from stride at n same = sum_to-cong _ _ n (λ k _. ap (word b) (same k))

  pub sum-counts : (n : ℕ) → sum_to (λ k. word b (23 + 5 * k)) n ≡ first_trace b n
  unfolding first_trace
  sum-counts n = strided 23 5 (λ k. 20 + 5 * k + 3) n (λ k. omega arith)

  pub sum-lengths : (from q : ℕ) → from ≡ lengths_at b → sum_to (λ k. word b (from + 1 * k)) q ≡ first_instruction b q
  unfolding first_instruction
  sum-lengths from q e = strided from 1 (λ k. lengths_at b + k) q (λ k. omega arith)

-- what a loop needs that adds up words
pub ruleset added = (sum_to-none, sum_to-turn)
