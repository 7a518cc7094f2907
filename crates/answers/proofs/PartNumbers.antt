-- The six parts of a sum and their numbers, 1 to 6.
-- Assumes nothing.
use Prim.Native.Nat.{ℕ, zero, suc, ◌+◌, ◌≤◌, ◌<◌}
use mathlib.Core.Path.{◌≡◌, refl}
use Rattle.std.specs.Prelude.{slice_index_or}
use native.Mathlib.Omega.{arith}
use Rattle.answers.specs.declared.Part.{Part}
use Rattle.answers.specs.declared.Part.TheVariants.{OwnWork, HigherWork, CoreAccesses, OtherAccesses, BlockingAccess, Refreshes}
use Rattle.answers.specs.declared.TheConstants.{PARTS}
use Rattle.answers.specs.PartNumbers.{part_number, part_of}

pub part_number-of : (n : ℕ) → 1 ≤ n → n ≤ 6 → part_number (part_of n) ≡ n
part_number-of zero low high = absurd (omega arith)
part_number-of (suc zero) low high = refl
part_number-of (suc (suc zero)) low high = refl
part_number-of (suc (suc (suc zero))) low high = refl
part_number-of (suc (suc (suc (suc zero)))) low high = refl
part_number-of (suc (suc (suc (suc (suc zero))))) low high = refl
part_number-of (suc (suc (suc (suc (suc (suc n)))))) low high = omega arith

pub part_number-range : (p : Part) → (1 ≤ part_number p) × (part_number p ≤ 6)
part_number-range OwnWork = (omega arith, omega arith)
part_number-range HigherWork = (omega arith, omega arith)
part_number-range CoreAccesses = (omega arith, omega arith)
part_number-range OtherAccesses = (omega arith, omega arith)
part_number-range BlockingAccess = (omega arith, omega arith)
part_number-range Refreshes = (omega arith, omega arith)

pub part_of-number : (p : Part) → part_of (part_number p) ≡ p
part_of-number OwnWork = refl
part_of-number HigherWork = refl
part_of-number CoreAccesses = refl
part_of-number OtherAccesses = refl
part_of-number BlockingAccess = refl
part_of-number Refreshes = refl

-- the parts in order
pub part_number-at : (k : ℕ) → k < 6 → part_number (slice_index_or PARTS k OwnWork) ≡ k + 1
part_number-at zero h = refl
part_number-at (suc zero) h = refl
part_number-at (suc (suc zero)) h = refl
part_number-at (suc (suc (suc zero))) h = refl
part_number-at (suc (suc (suc (suc zero)))) h = refl
part_number-at (suc (suc (suc (suc (suc zero))))) h = refl
part_number-at (suc (suc (suc (suc (suc (suc k)))))) h = absurd (omega arith)
