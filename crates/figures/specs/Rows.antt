-- For the code: what the functions of the walk over all tasks hand to each other: the sets evicted so far, and a row of overheads.
-- Assumes nothing.
use Rattle.std.specs.Prelude.{ℕ, ◌≤◌, ◌<◌, max, Bool, ◌&&◌, List, ◌≡◌, eqb, get_or}
use Rattle.folds.specs.Folds.{only_if, any_to, fill_to}
use Rattle.bitset.specs.Bits.{words_of}
use Rattle.bitset.specs.Records.{record_at}
use Rattle.board.specs.Layout.{core}
use Rattle.figures.specs.Figures.{evicting}
use Rattle.figures.specs.Overhead.{evicted_by}

-- record j of the buffer, for each j below n, holds the ECB of task j
abbrev pub Evicting : List ℕ → ℕ → List ℕ → Type 0
Evicting b n sets = (j : ℕ) → j < n → record_at 8 sets j ≡ words_of 8 (evicting b j)

-- or the sets that task j evicts
abbrev pub Evicted : List ℕ → ℕ → List ℕ → Type 0
Evicted b n sets = (j : ℕ) → j < n → record_at 8 sets j ≡ words_of 8 (evicted_by b j)

-- task h is on core x, and s in its ECB
abbrev pub on_core : List ℕ → ℕ → ℕ → ℕ → Bool
on_core b x h s = eqb (core b h) x && evicting b h s

-- record x, for each core x, has the ECBs of the tasks on it below j
unfoldable pub Cores : List ℕ → ℕ → List ℕ → Type 0
Cores b j sets = (x : ℕ) → x ≤ 8 → record_at 8 sets x ≡ words_of 8 (λ s. any_to (λ h. on_core b x h s) j)

-- tasks i and j are on one core
abbrev pub same_core : List ℕ → ℕ → ℕ → Bool
same_core b i j = eqb (core b i) (core b j)

-- f j for each task j on the core of task i, and 0 for the others
abbrev pub on_core_of : List ℕ → ℕ → (ℕ → ℕ) → ℕ → ℕ
on_core_of b i f j = only_if (same_core b i j) (f j)

-- the first i words of a row, each raised to f j where that is larger
abbrev pub raised : (ℕ → ℕ) → ℕ → List ℕ → List ℕ
raised f i row = fill_to (λ j. max (get_or row j 0) (f j)) i row
