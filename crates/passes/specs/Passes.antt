-- Passes over any tasks, bounds and sums ("Passes and the answer"): the times start at 0, a pass replaces all of them together by the
-- capped sums, and the first pass that changes nothing leaves the settled times.
-- Assumes nothing.
use Rattle.std.specs.Prelude.{Bool, List, ◌≡◌, ℕ, zero, suc, ◌+◌, ◌≤◌, ◌<◌, min, ltb, length, get_or, replicate}
use Rattle.folds.specs.Folds.{tabulate, sum_to, same_list, first_from}

-- what an analysis is about: tasks 0 .. count - 1, the largest time of each that is not late (D_i − J_i), and its sum at given times (Sum_i)
pub record System : Type 0 where
  pub count : ℕ
  pub bound : ℕ → ℕ
  pub sum : List ℕ → ℕ → ℕ

-- ---- a pass

-- the next time of task i: min(Sum_i, D_i − J_i + 1)
abbrev pub capped : System → List ℕ → ℕ → ℕ
capped S R i = min (S.sum R i) (S.bound i + 1)

-- a pass replaces all times together, each computed from the times before it
unfoldable pub pass : System → List ℕ → List ℕ
pass S R = tabulate (capped S R) S.count

-- Σ(D_i − J_i + 1), which the times of all tasks together never exceed
abbrev pub ceiling : System → ℕ
ceiling S = sum_to (λ i. S.bound i + 1) S.count

-- ---- passes in general: `step` gives the times after a pass from the times before it, and Analyse's step is `pass S`

module _ (S : System) (step : List ℕ → List ℕ) where
  -- the times after p passes, which start from all zeros
  unfoldable pub times_by : ℕ → List ℕ
  times_by zero = replicate S.count 0
  times_by (suc p) = step (times_by p)

  -- pass p + 1 changes nothing
  unfoldable pub unchanged : ℕ → Bool
  unchanged p = same_list (times_by (suc p)) (times_by p)

  -- the number of passes before the first that changes nothing
  unfoldable pub changes : ℕ
  changes = first_from unchanged (ceiling S) 0

  -- the number of the first pass that changes nothing, that pass counted
  unfoldable pub passes_by : ℕ
  passes_by = suc changes

  -- the times which that pass leaves
  unfoldable pub settled_by : List ℕ
  settled_by = times_by passes_by

-- passes needed, and the settled times
abbrev pub passes_needed : System → ℕ
passes_needed S = passes_by S (pass S)

abbrev pub settled : System → List ℕ
settled S = settled_by S (pass S)

-- ---- late tasks

-- task i is late at the times R: its time is past its bound
abbrev pub is_late : System → List ℕ → ℕ → Bool
is_late S R i = ltb (S.bound i) (get_or R i 0)

-- the first late task, and the number of tasks where none is
unfoldable pub first_late : System → List ℕ → ℕ
first_late S R = first_from (is_late S R) S.count 0

-- i is the smallest task that settled at its bound + 1
pub record SmallestLate (S : System) (i : ℕ) : Type 0 where
  pub task : i < S.count
  pub late : get_or (settled S) i 0 ≡ S.bound i + 1
  pub smallest : (k : ℕ) → k < i → get_or (settled S) k 0 ≡ S.bound k + 1 → ⊥

-- ---- choices of times

-- a choice: a whole number for each task, from 0 to its bound, with its sum at these times no greater than it
pub record Choice (S : System) (R : List ℕ) : Type 0 where
  pub size : length R ≡ S.count
  pub within : (i : ℕ) → i < S.count → get_or R i 0 ≤ S.bound i
  pub meets : (i : ℕ) → i < S.count → S.sum R i ≤ get_or R i 0

abbrev pub NoChoice : System → Type 0
NoChoice S = (R : List ℕ) → Choice S R → ⊥

-- R is at most R' at each of the first n tasks
abbrev pub Below : ℕ → List ℕ → List ℕ → Type 0
Below n R R' = (i : ℕ) → i < n → get_or R i 0 ≤ get_or R' i 0

-- R is a choice, and at most every choice at every task
pub record LeastChoice (S : System) (R : List ℕ) : Type 0 where
  pub choice : Choice S R
  pub least : (C : List ℕ) → Choice S C → Below S.count R C

-- ---- what the laws of passes ask for, and what they give to the sums

-- at times that are no smaller, the sums of S' are no smaller than those of S
abbrev pub Raises : System → System → Type 0
Raises S S' = (R R' : List ℕ) → Below S.count R R' → (i : ℕ) → i < S.count → S.sum R i ≤ S'.sum R' i

-- the sums never fall when times rise
abbrev pub Monotone : System → Type 0
Monotone S = Raises S S

-- S has the tasks and bounds of S', and sums that are no larger
pub record Lighter (S S' : System) : Type 0 where
  pub count : S.count ≡ S'.count
  pub bound : (i : ℕ) → i < S.count → S.bound i ≡ S'.bound i
  pub sum : Raises S S'

-- S has the tasks, bounds and sums of S'
pub record Alike (S S' : System) : Type 0 where
  pub count : S.count ≡ S'.count
  pub bound : (i : ℕ) → i < S.count → S.bound i ≡ S'.bound i
  pub sum : (R : List ℕ) (i : ℕ) → i < S.count → S.sum R i ≡ S'.sum R i

-- no time is past its task's bound + 1
abbrev pub Capped : System → List ℕ → Type 0
Capped S R = (i : ℕ) → i < S.count → get_or R i 0 ≤ S.bound i + 1
