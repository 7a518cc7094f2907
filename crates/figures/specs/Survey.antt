-- For the code: what the walk over all tasks leaves, as words of two buffers.
-- Assumes nothing.
use Rattle.std.specs.Prelude.{ℕ, ◌+◌, ◌*◌, ◌≤◌, ◌<◌, List, ◌≡◌, length, get_or, Option, Some}
use Rattle.board.specs.Layout.{most_tasks}
use Rattle.figures.specs.Ready.{Ready}
use Rattle.figures.specs.Figures.{task_pd, task_md}
use Rattle.figures.specs.Overhead.{γ}
use Rattle.figures.specs.Rows.{Evicting}

-- the words of a set for each task: eight, for the places of two caches
abbrev pub ecb_words : ℕ
ecb_words = 8 * most_tasks

-- The figures of the first `count` of n tasks as words: PD from word 2n on, MD from 3n on, and ECB as records of eight 64-bit words.
pub record Surveyed (b : List ℕ) (n count : ℕ) (words sets : List ℕ) : Type 0 where
  pub pd : (k : ℕ) → k < count → get_or words (2 * n + k) 0 ≡ task_pd b k
  pub md : (k : ℕ) → k < count → get_or words (3 * n + k) 0 ≡ task_md b k
  pub ecb : Evicting b count sets

-- and γ(i, j) as word 4n + i × n + j, a row of n words a task
abbrev pub Overheads : List ℕ → ℕ → ℕ → List ℕ → Type 0
Overheads b n count words = (i j : ℕ) → i < count → j < n → get_or words (4 * n + (i * n + j)) 0 ≡ γ b i j

-- what the records of the first n tasks are filled from: each task is there, and its figures are held
pub record Fillable (b : List ℕ) (n : ℕ) (words sets : List ℕ) : Type 0 where
  pub few : n ≤ 64
  pub ready : (k : ℕ) → k < n → Ready b k
  pub room : 4 * n ≤ length words
  pub surveyed : Surveyed b n n words sets

-- the PD p, the MD m and, where there is one, the row of task i written to the words; those of the tasks before it stay
pub record Written (n i p m : ℕ) (line : Option (List ℕ)) (before after : List ℕ) : Type 0 where
  pub pd : get_or after (2 * n + i) 0 ≡ p
  pub md : get_or after (3 * n + i) 0 ≡ m
  pub row : (l : List ℕ) → line ≡ Some l → (j : ℕ) → j < n → get_or after (4 * n + (i * n + j)) 0 ≡ get_or l j 0
  pub kept : (w : ℕ) → w < 4 * n + i * n → (w ≡ 2 * n + i → ⊥) → (w ≡ 3 * n + i → ⊥) → get_or after w 0 ≡ get_or before w 0
