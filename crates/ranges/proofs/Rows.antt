-- The range of a word, from its index, and a part's test, from the part.
-- Assumes nothing.
use Prim.Native.Nat.{ℕ, ◌%◌, ◌≤◌}
use mathlib.Core.Bool.{Bool}
use mathlib.Core.Path.{◌≡◌, ap, sym}
use mathlib.Core.List.{List}
use lib.ListN.{get_or, get_or-eq_default}
use Rattle.board.specs.Layout.{word}
use Rattle.ranges.specs.Ranges.{is_zero, header_ranges, header_ok, task_ranges, task_ok}
use Rattle.ranges.specs.Parts.{word_ok}
use Rattle.ranges.specs.declared.Part.{Part}

-- ---- entry k of a list of ranges, and what stands past its end

module _ (ranges : List (ℕ → Bool)) (x : ℕ) where
  entry : {i k : ℕ} → i ≡ k → get_or ranges k is_zero x ≡ get_or ranges i is_zero x
  entry e = ap (λ (j : ℕ). get_or ranges j is_zero x) (sym e)

pub header_row : (b : List ℕ) {i k : ℕ} → i ≡ k → get_or (header_ranges b) k is_zero (word b i) ≡ header_ok b i
unfolding header_ok
header_row b {i} e = entry (header_ranges b) (word b i) e

pub header_spare : (b : List ℕ) (i : ℕ) → 17 ≤ i → is_zero (word b i) ≡ header_ok b i
unfolding header_ok header_ranges
header_spare b i h = ap (λ (f : ℕ → Bool). f (word b i)) (sym (get_or-eq_default (header_ranges b) is_zero h))

pub task_row : (b : List ℕ) (i : ℕ) {k : ℕ} → i % 5 ≡ k → get_or (task_ranges b i) k is_zero (word b i) ≡ task_ok b i
unfolding task_ok
task_row b i e = entry (task_ranges b i) (word b i) e

-- ---- the test of a part

pub part_row : (b : List ℕ) (i : ℕ) {p q : Part} → p ≡ q → word_ok q b i ≡ word_ok p b i
part_row b i e = ap (λ (r : Part). word_ok r b i) (sym e)
