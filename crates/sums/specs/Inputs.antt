-- For the code: what the code of a sum is handed: lists that begin with the tasks' figures, and times of at most D − J + 1; and what its first
-- loop adds up.
-- Assumes nothing.
use Rattle.std.specs.Prelude.{ℕ, ◌+◌, ◌*◌, ◌≤◌, ◌<◌, List, ◌≡◌, length, get_or}
use Rattle.folds.specs.Folds.{sum_where}
use Rattle.board.specs.Layout.{tasks, core}
use Rattle.board.specs.Sound.{Sound}
use Rattle.figures.specs.Figures.{task_pd}
use Rattle.sums.specs.Sums.{lowest, bound, releases, memory_demand}
use Rattle.sums.specs.Limits.{latest_time}
use Rattle.sums.specs.Links.{is_on, Linked}

-- the list begins with f 0 .. f (n - 1)
pub record Holds (n : ℕ) (f : ℕ → ℕ) (l : List ℕ) : Type 0 where
  pub long : n ≤ length l
  pub at : (k : ℕ) → k < n → get_or l k 0 ≡ f k

-- a time of at most D − J + 1 for each task
pub record CappedTimes (b R : List ℕ) : Type 0 where
  pub long : tasks b ≤ length R
  pub short : (k : ℕ) → k < tasks b → get_or R k 0 ≤ bound b k + 1

-- the row D'(j, _) and the times R
pub record RowInput (b row R : List ℕ) (j : ℕ) : Type 0 where
  pub sound : Sound b
  pub task : j < tasks b
  pub demands : Holds (tasks b) (memory_demand b j) row
  pub times : CappedTimes b R

-- what the accesses of whole cores are added up from: task n, which is j, with its row and the times R, a window of t cycles, and the links of the cores
pub record CoresInput (b links row R : List ℕ) (t j : ℕ) : Type 0 where
  pub rows : RowInput b row R j
  pub last : j ≡ lowest b
  pub early : t ≤ latest_time
  pub linked : Linked b links

-- task i at the times R, the links of the cores, the tasks' PD, and the rows D'(i, _) and D'(n, _)
pub record SumInput (b links pd own all R : List ℕ) (i : ℕ) : Type 0 where
  pub sound : Sound b
  pub task : i < tasks b
  pub linked : Linked b links
  pub works : Holds (tasks b) (task_pd b) pd
  pub owns : Holds (tasks b) (memory_demand b i) own
  pub alls : Holds (tasks b) (memory_demand b (lowest b)) all
  pub times : CappedTimes b R

-- what the releases of task k within the time of task i cost, at so much each
abbrev pub release_cost : List ℕ → List ℕ → ℕ → (ℕ → ℕ) → ℕ → ℕ
release_cost b R i cost k = releases b i k (get_or R i 0) * cost k

-- over the first n tasks that are on the core of task i: S, or the work above it
abbrev pub own_costs : List ℕ → List ℕ → ℕ → (ℕ → ℕ) → ℕ → ℕ
own_costs b R i cost n = sum_where (is_on b (core b i)) (release_cost b R i cost) n
