-- For the code: the numbers of useful blocks from position to position, as the marks of a trace say, and how the code keeps those of one position. Point p
-- stands before position 2p; positions 2p and 2p + 1 belong to instruction p. The sets are those of c caches.
-- Assumes nothing.
use Rattle.std.specs.Prelude.{ℕ, suc, ◌+◌, ◌*◌, ◌≤◌, ◌<◌, Bool, List, ◌≡◌, get_or}
use Rattle.folds.specs.Folds.{sum_where}
use Rattle.counts.specs.Planes.{sets_of, count_of}
use Rattle.counts.specs.Turns.{adds, takes}

-- the numbers f e s before position e of set s change as the first n marks say
abbrev pub Turning : ℕ → (ℕ → ℕ → ℕ) → List ℕ → ℕ → Type 0
Turning c f marks n = (e s : ℕ) → e < n → s < sets_of c → f (suc e) s + takes (get_or marks e 0) s ≡ f e s + adds (get_or marks e 0) s

-- the words have the numbers before position e
abbrev pub Shown : ℕ → (ℕ → ℕ → ℕ) → ℕ → ℕ → List ℕ → Type 0
Shown c f e planes live = (s : ℕ) → s < sets_of c → count_of c live 0 planes s ≡ f e s

-- how many blocks are useful at point p in the sets that pass the test
abbrev pub at_point : ℕ → (ℕ → ℕ → ℕ) → (ℕ → Bool) → ℕ → ℕ
at_point c f test p = sum_where test (f (2 * p)) (sets_of c)

-- there are such numbers, none before the first position and at most `most` in a set, so that no step of the code overflows
pub record Levels (c : ℕ) (marks : List ℕ) (n most : ℕ) : Type 0 where
  pub f : ℕ → ℕ → ℕ
  pub turning : Turning c f marks n
  pub first : (s : ℕ) → s < sets_of c → f 0 s ≡ 0
  pub few : (e s : ℕ) → f e s ≤ most
  pub small : (e : ℕ) → e < n → get_or marks e 0 < 1024 * c
