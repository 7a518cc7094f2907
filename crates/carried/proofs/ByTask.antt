-- The accesses of the tasks off a core, task by task, joined to the definitions.
-- Assumes nothing.
use Prim.Native.Nat.{ℕ, ◌+◌, ◌≤◌, ◌<◌}
use mathlib.Core.Bool.{Bool, true, ◌&&◌}
use mathlib.Core.List.{List}
use mathlib.Core.Path.{◌≡◌, sym, ap, ap₂, ◌∙◌}
use native.Mathlib.Numerals.{add-one}
use native.Mathlib.Omega.{arith}
use lib.Dec.{ltb, leb, leb-zero}
use borrow.Author.Tests.{le-leb, lt-leb}
use Rattle.folds.specs.Folds.{only_if, sum_to}
use Rattle.folds.proofs.Folds.{sum_to-next, sum_to-cong, sum_to-zero}
use Rattle.board.specs.Layout.{tasks, core}
use Rattle.board.specs.Sound.{Sound}
use Rattle.sums.specs.Sums.{lowest, is_other, over_cores, carry_in, core_accesses, lower_accesses}
use Rattle.carried.specs.Terms.{carried_if, carried_off}
use Rattle.carried.proofs.OverCores.{over_cores-tasks}

module _ (b R : List ℕ) (t x : ℕ) where
  -- ---- a run of tasks from a on

  module _ (j a : ℕ) where
    pub carried_none : sum_to (carried_if b R t x j a) a ≡ 0
    carried_none =
        sum_to-zero (carried_if b R t x j a) a
        (λ k h. ap (λ (here : Bool). only_if (here && is_other x (core b k)) (carry_in b R t j k)) (lt-leb a k h))

    pub carried-turn : (k : ℕ) {acc w : ℕ} → a ≤ k → acc ≡ sum_to (carried_if b R t x j a) k
        → w ≡ only_if (is_other x (core b k)) (carry_in b R t j k) → acc + w ≡ sum_to (carried_if b R t x j a) (k + 1)
    carried-turn k h e new =
        ap₂ ◌+◌ e (new ∙ ap (λ (here : Bool). only_if (here && is_other x (core b k)) (carry_in b R t j k)) (sym (le-leb a k h)))
        ∙ sym (sum_to-next (carried_if b R t x j a) k)

  -- ---- sums over the cores other than x

  module _ (s : Sound b) where
    -- ΣA(j, y)
    pub core_accesses-carried : (j : ℕ) → j < tasks b → over_cores b (is_other x) (λ y. core_accesses b R t j y) ≡ carried_off b R t x j 0
    unfolding core_accesses carried_off
    core_accesses-carried j h =
        over_cores-tasks b (is_other x) (λ _. true) (λ k. carry_in b R t j k) (j + 1) (λ k l. s.core k (omega arith))
        ∙ sum_to-cong (λ k. only_if (is_other x (core b k)) (carry_in b R t j k)) (carried_if b R t x j 0) (j + 1)
        (λ k l. ap (λ (here : Bool). only_if (here && is_other x (core b k)) (carry_in b R t j k)) (sym (leb-zero k)))

    -- ΣL(y)
    pub lower_accesses-carried : (i : ℕ) → i < tasks b → over_cores b (is_other x) (λ y. lower_accesses b R t i y) ≡ carried_off b R t x (lowest b) (i + 1)
    unfolding lower_accesses carried_off
    lower_accesses-carried i h =
        let whole : tasks b ≡ lowest b + 1 = omega arith in
        over_cores-tasks b (is_other x) (λ k. ltb i k) (λ k. carry_in b R t (lowest b) k) (tasks b) (λ k l. s.core k l)
        ∙ ap₂ (λ (n m : ℕ). sum_to (λ k. only_if (leb n k && is_other x (core b k)) (carry_in b R t (lowest b) k)) m) (sym (add-one i)) whole
