-- For the code: the word scratch of n tasks, n × n + 4n words: times n | next times n | PD n | MD n | the rows D'(i, _), n words each.
-- Assumes nothing.
use Rattle.std.specs.Prelude.{ℕ, ◌+◌, ◌*◌, ◌≤◌, ◌<◌, List, ◌≡◌, length, get_or}
use Rattle.board.specs.Layout as at
use Rattle.board.specs.Layout.{most_tasks, scratch_words}
use Rattle.board.specs.Sound.{Sound}
use Rattle.figures.specs.Figures.{task_pd}
use Rattle.sums.specs.Sums.{memory_demand}
use Rattle.sums.specs.Limits.{most_demand}

-- the words that passes are made over: times n | next times n, of the n tasks of a board that passed its checks
pub record Passable (b : List ℕ) (n : ℕ) (w : List ℕ) : Type 0 where
  pub sound : Sound b
  pub tasks : n ≡ at.tasks b
  pub words : 2 * n ≤ length w

-- room for their figures too
pub record ScratchRoom (b : List ℕ) (n : ℕ) (w : List ℕ) : Type 0 where
  pub sound : Sound b
  pub tasks : n ≡ at.tasks b
  pub words : scratch_words n ≤ length w

-- word k of the row at `at`, with the MD of task k added
abbrev pub with_md : ℕ → ℕ → List ℕ → ℕ → ℕ
with_md n at w k = get_or w (at + k) 0 + get_or w (3 * n + k) 0

-- a row to which MD can be added: it is there, after the MD, and every sum is a demand
pub record RowAddable (n at : ℕ) (w : List ℕ) : Type 0 where
  pub few : n ≤ most_tasks
  pub behind : 4 * n ≤ at
  pub words : at + n ≤ length w
  pub fits : (k : ℕ) → k < n → with_md n at w k ≤ most_demand

-- n such rows, from word 4n on
pub record Addable (n : ℕ) (w : List ℕ) : Type 0 where
  pub few : n ≤ most_tasks
  pub words : scratch_words n ≤ length w
  pub fits : (i k : ℕ) → i < n → k < n → with_md n (4 * n + i * n) w k ≤ most_demand

-- w' is w with MD added to the first `count` rows
pub record Added (n count : ℕ) (w w' : List ℕ) : Type 0 where
  pub size : length w' ≡ length w
  pub rows : (i k : ℕ) → i < count → k < n → get_or w' (4 * n + i * n + k) 0 ≡ with_md n (4 * n + i * n) w k
  pub before : (p : ℕ) → p < 4 * n → get_or w' p 0 ≡ get_or w p 0
  pub after : (p : ℕ) → 4 * n + count * n ≤ p → get_or w' p 0 ≡ get_or w p 0

-- each task's PD, and D'(i, k) of each pair
pub record Prepared (b : List ℕ) (n : ℕ) (w : List ℕ) : Type 0 where
  pub room : ScratchRoom b n w
  pub works : (k : ℕ) → k < n → get_or w (2 * n + k) 0 ≡ task_pd b k
  pub rows : (i k : ℕ) → i < n → k < n → get_or w (4 * n + (i * n + k)) 0 ≡ memory_demand b i k
