-- The six parts of a sum by their numbers, from 1.
-- Assumes nothing.
use Rattle.std.specs.Prelude.{ℕ, zero, suc}
use Rattle.answers.specs.declared.Part.{Part}
use Rattle.answers.specs.declared.Part.TheVariants.{OwnWork, HigherWork, CoreAccesses, OtherAccesses, BlockingAccess, Refreshes}

abbrev pub part_number : Part → ℕ
part_number OwnWork = 1
part_number HigherWork = 2
part_number CoreAccesses = 3
part_number OtherAccesses = 4
part_number BlockingAccess = 5
part_number Refreshes = 6

-- the part of a number; other numbers are no part's, and count as the nearest
abbrev pub part_of : ℕ → Part
part_of zero = OwnWork
part_of (suc zero) = OwnWork
part_of (suc (suc zero)) = HigherWork
part_of (suc (suc (suc zero))) = CoreAccesses
part_of (suc (suc (suc (suc zero)))) = OtherAccesses
part_of (suc (suc (suc (suc (suc zero))))) = BlockingAccess
part_of (suc (suc (suc (suc (suc (suc n)))))) = Refreshes
