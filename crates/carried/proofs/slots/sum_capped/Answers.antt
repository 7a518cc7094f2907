-- `carried::slots::sum_capped` meets its contract.
use native.Mathlib.Nat.{lt_of_le_of_lt}
use native.Mathlib.Omega.{arith}
use lib.Dec.{lit<}
use mathlib.Core.List.{List}
use mathlib.Core.Path.{◌≡◌, sym, ap, ◌∙◌}
use Prim.Native.Nat.{ℕ, ◌+◌, ◌-◌, ◌*◌, ◌≤◌, min}
use Rattle.folds.specs.Folds.{only_if, sum_to}
use Rattle.folds.proofs.Folds.{sum_to-none}
use Rattle.folds.proofs.Loops.{sum_to-turn, sum_to-fits}
use Rattle.board.specs.Layout.{cores, slots}
use Rattle.sums.specs.Sums.{is_other, core_accesses}
use Rattle.carried.proofs.Bounds.{slots-bound}
use Rattle.carried.proofs.slots.sum_capped.Goals as goal

-- what core y adds
abbrev term : List ℕ → List ℕ → ℕ → ℕ → ℕ → ℕ → ℕ → ℕ
term b R t j x s y = only_if (is_other x y) (min (core_accesses b R t j y) (slots b y * s))

here : (b R : List ℕ) (t j x s y : ℕ) {w : ℕ} → 1 ≤ y → w ≡ term b R t j x s y → w ≡ term b R t j x s (y - 1 + 1)
here b R t j x s y some added = let back : y ≡ y - 1 + 1 = omega arith in added ∙ ap (term b R t j x s) back

pub loop-y-init : goal.loop-y-init
loop-y-init c = sym (sum_to-none _)

pub overflow_add-sum : goal.overflow_add-sum
overflow_add-sum c =
    let a = c.args in
    let w = a.cores.now.window in
    sum_to-fits _ (c.loop-y.y - 1) (cores w.board.now) c.loop-y.invariant (here w.board.now w.times.now w.t w.j a.x a.s c.loop-y.y (omega arith) c.let_through-sum.ensures) (omega arith)
    (lt_of_le_of_lt (slots-bound _ _ _ _ _ w.rows w.early a.x a.s) (lit< tt))

pub loop-y-preserved : goal.loop-y-preserved
loop-y-preserved c =
    let a = c.args in
    let w = a.cores.now.window in
    let y = c.loop-y.y in
    let next : y - 1 + 1 ≡ y + 1 - 1 = omega arith in
    sum_to-turn _ (y - 1) c.loop-y.invariant (here w.board.now w.times.now w.t w.j a.x a.s y (omega arith) c.let_through-sum.ensures) ∙ ap (sum_to _) next
