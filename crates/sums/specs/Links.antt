-- For the code: the tasks of a core linked to one another: each names the next one above it.
-- Assumes nothing.
use Rattle.std.specs.Prelude.{ℕ, ◌+◌, ◌<◌, Bool, List, ◌≡◌, eqb, length, get_or}
use Rattle.folds.specs.Folds.{last_to}
use Rattle.board.specs.Layout.{most_tasks, tasks, core}
use Rattle.sums.specs.Limits.{most_cores}

-- whether task k is on core y
abbrev pub is_on : List ℕ → ℕ → ℕ → Bool
is_on b y k = eqb (core b k) y

-- the links of the first n tasks: for each task, the number, from 1, of the next one above it on its core; and after the words of the tasks,
-- for each core, the number of its last task. 0 where there is none
pub record LinkedTo (b : List ℕ) (n : ℕ) (l : List ℕ) : Type 0 where
  pub size : length l ≡ most_tasks + most_cores
  pub above : (k : ℕ) → k < n → get_or l k 0 ≡ last_to (is_on b (core b k)) k
  pub last : (y : ℕ) → y < most_cores → get_or l (most_tasks + y) 0 ≡ last_to (is_on b (y + 1)) n

-- those of all tasks
abbrev pub Linked : List ℕ → List ℕ → Type 0
Linked b l = LinkedTo b (tasks b) l
