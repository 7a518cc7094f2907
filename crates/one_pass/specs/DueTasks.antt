-- For the code: the tasks that a pass has to sum, and the tasks on each core, as bits of a word.
-- Assumes nothing.
use Rattle.std.specs.Prelude.{ℕ, ◌+◌, ◌<◌, false, ◌&&◌, List, ◌⊎◌, ◌≡◌, ltb, length, get_or, take}
use Rattle.board.specs.Layout.{tasks, bus, core}
use Rattle.bitset.specs.Bits.{bit, word_of}
use Rattle.sums.specs.Links.{is_on}
use Rattle.sums.specs.Limits.{most_cores}
use Rattle.passes.specs.Passes.{capped}
use Rattle.one_pass.specs.System.{system}

-- for each core, the word with a bit for each of its tasks among the first m
pub record OnCores (b : List ℕ) (m : ℕ) (l : List ℕ) : Type 0 where
  pub size : length l ≡ most_cores
  pub tasks : (y : ℕ) → y < most_cores → get_or l y 0 ≡ word_of (λ k. ltb k m && is_on b (y + 1) k) 64

-- each task that is not due has its next time already
abbrev pub Quiet : List ℕ → ℕ → ℕ → List ℕ → Type 0
Quiet b n due w = (i : ℕ) → i < n → bit due i ≡ false → get_or w i 0 ≡ capped (system b) (take n w) i

-- the sum of task j reads the time of task k: its own, or that of a task on another core where the bus is not TDMA
abbrev pub Reads : List ℕ → ℕ → ℕ → Type 0
Reads b j k = (k ≡ j) ⊎ ((bus b < 4) × (core b k ≡ core b j → ⊥))

-- the time of task i changed: a task that is still not due was not due, and does not read it
abbrev pub Joined : List ℕ → ℕ → ℕ → ℕ → Type 0
Joined b due i due' = (j : ℕ) → j < tasks b → bit due' j ≡ false → (bit due j ≡ false) × (Reads b j i → ⊥)

-- a pass was made, from the first n words to the n after them: of the first m tasks, it changed no time that a task which is not due reads
pub record Unchanged (b : List ℕ) (n : ℕ) (w : List ℕ) (due m : ℕ) : Type 0 where
  pub read : (j : ℕ) → j < tasks b → bit due j ≡ false → (k : ℕ) → k < m → Reads b j k → get_or w k 0 ≡ get_or w (n + k) 0
