-- Lighter sums settle at times that are no larger: times that no pass over the heavier sums raises, none over the lighter ones does.
-- So where none of the heavier is late, none of the lighter is.
-- Assumes nothing.
use mathlib.Core.List.{List}
use mathlib.Core.Logic.{⊎_elim}
use Prim.Native.Nat.{ℕ, ◌≤◌, ◌<◌}
use native.Mathlib.Nat.{le_refl}
use native.Mathlib.Omega.{arith}
use Rattle.folds.proofs.Numbers.{le-or-lt}
use Rattle.passes.specs.Passes.{System, pass, settled, first_late, Below, Lighter}
use Rattle.passes.proofs.Ascending.{Closed, Ascending, get_d-pass}
use Rattle.passes.proofs.Settling.{settled-closed, settled-stays}
use Rattle.passes.proofs.Choices.{first_late-late, first_late-before}

module _ {S S' : System} (lighter : Lighter S S') where
  lighter-closed : (C : List ℕ) → Closed S' C → Closed S C
  lighter-closed C closed i h =
      let h' : i < S'.count = omega (arith, lighter.count) in
      omega (arith, get_d-pass S C i h, get_d-pass S' C i h', closed i h', lighter.bound i h, lighter.sum C C (λ k l. le_refl _) i h)

  module _ (up : Ascending S (pass S)) (up' : Ascending S' (pass S')) where
    pub settled-lighter : Below S.count (settled S) (settled S')
    settled-lighter = settled-stays up (settled S') (lighter-closed (settled S') (settled-closed up'))

    pub lighter-none-late : S'.count ≤ first_late S' (settled S') → S.count ≤ first_late S (settled S)
    lighter-none-late none = ⊎_elim (λ le. le) (λ late. absurd (clash late)) (le-or-lt S.count (first_late S (settled S)))
      where
        clash : first_late S (settled S) < S.count → ⊥
        clash late =
            let i = first_late S (settled S) in
            omega (
              arith,
              first_late-late S (settled S) late,
              settled-lighter i late,
              lighter.bound i late,
              first_late-before S' (settled S') i (omega (arith, lighter.count, none, late)),
            )
