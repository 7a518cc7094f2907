-- The parts by their indices, and their names.
-- Assumes nothing.
use Prim.Native.Nat.{ℕ, zero, suc, ◌-◌, ◌≤◌, ◌<◌}
use mathlib.Core.Path.{◌≡◌, refl, subst}
use native.Mathlib.Omega.{arith}
use lib.ListN.{get_or}
use Rattle.answers.specs.declared.Part.{Part}
use Rattle.answers.specs.declared.TheConstants.{PARTS}
use Rattle.answers.specs.PartNumbers.{part_number}
use Rattle.parts_page.specs.PartsPage.{part_name}

pub part_at : (k : ℕ) (none : Part) → k < 6 → part_number (get_or PARTS k none) - 1 ≡ k
part_at zero none h = refl
part_at (suc zero) none h = refl
part_at (suc (suc zero)) none h = refl
part_at (suc (suc (suc zero))) none h = refl
part_at (suc (suc (suc (suc zero)))) none h = refl
part_at (suc (suc (suc (suc (suc zero))))) none h = refl
part_at (suc (suc (suc (suc (suc (suc k)))))) none h = absurd (omega arith)

-- all parts from the sixth on have the name of the sixth
pub part_name-last : (k : ℕ) → 5 ≤ k → part_name k ≡ part_name 5
unfolding part_name
part_name-last k h =
    let from : suc (suc (suc (suc (suc (k - 5))))) ≡ k = omega arith in
    subst (λ (j : ℕ). part_name j ≡ part_name 5) from refl
