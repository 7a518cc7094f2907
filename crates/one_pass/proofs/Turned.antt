-- What the loop over the visits of a pass knows before each of them, and what the pass leaves.
-- Assumes nothing.
use Prim.Native.Nat.{ℕ, ◌+◌, ◌-◌}
use mathlib.Core.Bool.{Bool, false, ◌||◌}
use mathlib.Core.List.{List}
use mathlib.Core.Path.{◌≡◌, sym, ap₂, subst, ◌∙◌}
use lib.ListN.{length, get_or, take}
use Rattle.folds.specs.Folds.{tabulate}
use Rattle.passes.specs.Visits.{visit, in_turn, in_order}
use Rattle.passes.proofs.InOrder.{in_turn-none, in_turn-next}
use Rattle.one_pass.specs.System.{system}
use Rattle.one_pass.specs.Visiting.{Visited}
use Rattle.one_pass.proofs.Visiting.{visited-nothing, visited-both}

-- after its first k visits
abbrev pub Turned : List ℕ → ℕ → List ℕ → ℕ → List ℕ → List ℕ → Bool → Type 0
Turned b n order k w w' changed = Visited n (in_turn (system b) (tabulate (λ j. get_or order j 0 - 1) k) (take n w)) w w' changed

module _ (b : List ℕ) {n : ℕ} (order : List ℕ) where
  pub turned_none : (w : List ℕ) → Turned b n order 0 w w false
  turned_none w = subst (λ (R : List ℕ). Visited n R w w false) (sym (in_turn-none (system b) (λ j. get_or order j 0 - 1) (take n w))) (visited-nothing n w)

  pub turned_more : (k i : ℕ) {w w' w'' : List ℕ} {changed more : Bool} → Turned b n order k w w' changed → i ≡ get_or order k 0 - 1
      → Visited n (visit (system b) (take n w') i) w' w'' more → Turned b n order (k + 1) w w'' (changed || more)
  turned_more k i {w} {w'} {w''} {changed} {more} so_far number visited =
      subst (λ (R : List ℕ). Visited n R w w'' (changed || more))
      (ap₂ (λ (R : List ℕ) (j : ℕ). visit (system b) R j) so_far.times number ∙ sym (in_turn-next (system b) (λ j. get_or order j 0 - 1) (take n w) k))
      (visited-both so_far visited)

  pub turned-all : (k : ℕ) {w w' : List ℕ} {changed : Bool} → Turned b n order k w w' changed → k ≡ length order
      → Visited n (in_order (system b) order (take n w)) w w' changed
  turned-all k {w} {w'} {changed} so_far all = subst (λ (m : ℕ). Turned b n order m w w' changed) all so_far
