-- A call that a row refuses, and the numbers of the rows.
-- Assumes nothing.
use Rattle.std.specs.Prelude.{ℕ, Result, Err, ◌≡◌, refl}
use Rattle.refusals.specs.Refusals.{row_number}
use Rattle.refusals.specs.declared.Row.{Row}
use Rattle.refusals.specs.declared.Row.TheVariants.{BoardSize, HeaderWord, BoardLength, TaskWord, TraceSum, TraceLength, LengthSum, FetchedBlock, WorkWord, TaskNumber, TimesBuffer, Scratch, FiguresTable, GivenTime, InputBytes, TaskList}
use Rattle.refusals.specs.declared.Refusal.{Refusal}

-- by this row, at this place
abbrev pub refused_by : {A : Type 0} → Row → ℕ → Result A Refusal
refused_by row place = Err (record { row = row; place = place })

-- the table of refusals: the number of each row
abbrev pub RowNumbers : Type 0
RowNumbers =
    (row_number BoardSize ≡ 1)
    × (row_number HeaderWord ≡ 2)
    × (row_number BoardLength ≡ 3)
    × (row_number TaskWord ≡ 4)
    × (row_number TraceSum ≡ 5)
    × (row_number TraceLength ≡ 6)
    × (row_number LengthSum ≡ 7)
    × (row_number FetchedBlock ≡ 8)
    × (row_number WorkWord ≡ 9)
    × (row_number TaskNumber ≡ 10)
    × (row_number TimesBuffer ≡ 11)
    × (row_number Scratch ≡ 12)
    × (row_number FiguresTable ≡ 13)
    × (row_number GivenTime ≡ 14)
    × (row_number InputBytes ≡ 15)
    × (row_number TaskList ≡ 16)

pub row_numbers : RowNumbers
row_numbers = (refl, refl, refl, refl, refl, refl, refl, refl, refl, refl, refl, refl, refl, refl, refl, refl)
