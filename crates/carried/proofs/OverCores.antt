-- Sums over cores of sums over the tasks of each core are sums over tasks: the order of summing changes, and of all cores y the sum meets
-- task k at one alone, its own.
-- Assumes nothing.
use Prim.Native.Nat.{ℕ, ◌+◌, ◌-◌, ◌≤◌, ◌<◌}
use mathlib.Core.Bool.{Bool, true, false, not, ◌&&◌}
use mathlib.Core.List.{List}
use mathlib.Core.Logic.{⊎_elim}
use mathlib.Core.Path.{◌≡◌, refl, ap, ◌∙◌}
use native.Mathlib.Nat.{eq-or-lt_of_le}
use native.Mathlib.Omega.{arith}
use lib.Dec.{eqb, ltb}
use borrow.Author.Tests.{lt-ltb, le-ltb, eq-eqb, ne_eqb}
use Rattle.folds.specs.Folds.{only_if, sum_to, sum_where}
use Rattle.folds.proofs.Numbers.{le-or-lt}
use Rattle.folds.proofs.Folds.{sum_to-cong, sum_to-add, sum_to-swap, sum_to-one, only_if-sum}
use Rattle.board.specs.Layout.{cores, core}
use Rattle.sums.specs.Sums.{over_cores}

-- a task on core c, by the cores that pass the test
one-core : (test : ℕ → Bool) (p : Bool) (c v n : ℕ) → 1 ≤ c → c ≤ n
    → sum_to (λ y. only_if (test (y + 1)) (only_if (p && eqb c (y + 1)) v)) n ≡ only_if (p && test c) v
one-core test p c v n low high =
    let back : c - 1 + 1 ≡ c = omega arith in
    sum_to-one (λ y. only_if (test (y + 1)) (only_if (p && eqb c (y + 1)) v)) n (c - 1) (omega arith)
    (λ y h ne. ap (λ (t : Bool). only_if (test (y + 1)) (only_if (p && t) v)) (ne_eqb c (y + 1) (λ e. ne (omega arith))) ∙ none (test (y + 1)) p)
    ∙ ap (λ (y : ℕ). only_if (test y) (only_if (p && eqb c y) v)) back
    ∙ ap (λ (t : Bool). only_if (test c) (only_if (p && t) v)) (eq-eqb c c refl)
    ∙ both (test c) p
  where
    none : (s t : Bool) → only_if s (only_if (t && false) v) ≡ 0
    none true true = refl
    none true false = refl
    none false t = refl

    both : (s t : Bool) → only_if s (only_if (t && true) v) ≡ only_if (t && s) v
    both true true = refl
    both true false = refl
    both false true = refl
    both false false = refl

-- over any test of cores, any test p of tasks and any f
pub over_cores-tasks : (b : List ℕ) (test p : ℕ → Bool) (f : ℕ → ℕ) (n : ℕ) → ((k : ℕ) → k < n → (1 ≤ core b k) × (core b k ≤ cores b))
    → over_cores b test (λ y. sum_where (λ k. p k && eqb (core b k) y) f n) ≡ sum_where (λ k. p k && test (core b k)) f n
over_cores-tasks b test p f n on =
    let term : ℕ → ℕ → ℕ = λ y k. only_if (test (y + 1)) (only_if (p k && eqb (core b k) (y + 1)) (f k)) in
    sum_to-cong (λ y. only_if (test (y + 1)) (sum_to (λ k. only_if (p k && eqb (core b k) (y + 1)) (f k)) n)) (λ y. sum_to (term y) n) (cores b)
    (λ y h. only_if-sum (test (y + 1)) (λ k. only_if (p k && eqb (core b k) (y + 1)) (f k)) n)
    ∙ sum_to-swap term (cores b) n
    ∙ sum_to-cong (λ k. sum_to (λ y. term y k) (cores b)) (λ k. only_if (p k && test (core b k)) (f k)) n
    (λ k h. one-core test (p k) (core b k) (f k) (cores b) (on k h).0 (on k h).1)

-- the cores other than x are those before it and those after it
pub other_cores-sides : (b : List ℕ) (x : ℕ) (f : ℕ → ℕ)
    → over_cores b (λ y. not (eqb y x)) f ≡ over_cores b (λ y. ltb y x) f + over_cores b (λ y. ltb x y) f
other_cores-sides b x f =
    sum_to-cong (λ y. only_if (not (eqb (y + 1) x)) (f (y + 1))) (λ y. only_if (ltb (y + 1) x) (f (y + 1)) + only_if (ltb x (y + 1)) (f (y + 1))) (cores b)
    (λ y h. either_side (y + 1) (f (y + 1)))
    ∙ sum_to-add (λ y. only_if (ltb (y + 1) x) (f (y + 1))) (λ y. only_if (ltb x (y + 1)) (f (y + 1))) (cores b)
  where
    either_side : (y v : ℕ) → only_if (not (eqb y x)) v ≡ only_if (ltb y x) v + only_if (ltb x y) v
    either_side y v =
        ⊎_elim
        (λ (le : y ≤ x).
        ⊎_elim (λ (e : y ≡ x). rw (eq-eqb y x e, le-ltb y x (omega arith), le-ltb x y (omega arith)))
        (λ (lt : y < x). rw (ne_eqb y x (λ e. omega arith), lt-ltb y x lt, le-ltb x y (omega arith)) (omega arith)) (eq-or-lt_of_le le))
        (λ (lt : x < y). rw (ne_eqb y x (λ e. omega arith), le-ltb y x (omega arith), lt-ltb x y lt) (omega arith))
        (le-or-lt y x)
