-- The interference on each bus, from the accesses of the tasks and the cores off a core: t, x and j are the time and the core of task i, and task n, as code
-- computes them.
-- Assumes nothing.
use Prim.Native.Nat.{ℕ, zero, suc, ◌+◌, ◌-◌, ◌*◌, ◌<◌, min}
use mathlib.Core.Bool.{Bool, false}
use mathlib.Core.List.{List}
use mathlib.Core.Path.{◌≡◌, refl, ◌∙◌}
use native.Mathlib.Nat.{zero-mul}
use native.Mathlib.Omega.{arith}
use lib.ListN.{get_or}
use Rattle.folds.specs.Folds.{only_if}
use Rattle.folds.specs.Reaches.{Reaches}
use Rattle.folds.proofs.Folds.{sum_to-zero}
use Rattle.board.specs.Layout.{tasks, cores, slots_each, slots, core}
use Rattle.board.specs.Sound.{Sound}
use Rattle.sums.specs.Sums.{lowest, is_other, is_before, is_after, over_cores, own_accesses, core_accesses, lower_accesses, interference}
use Rattle.carried.specs.Terms.{carried_off, cores_from}
use Rattle.carried.proofs.OverCores.{other_cores-sides}
use Rattle.carried.proofs.ByTask.{core_accesses-carried, lower_accesses-carried}
use Rattle.carried.proofs.ByCore.{cores_before-from, cores_after-from}

module _ (b R : List ℕ) (i : ℕ) {t x j : ℕ} (s : Sound b) (task : i < tasks b) (now : t ≡ get_or R i 0) (here : x ≡ core b i) (last : j ≡ lowest b) where
  -- A(n, y)
  abbrev A : ℕ → ℕ
  A y = core_accesses b R (get_or R i 0) (lowest b) y

  higher : over_cores b (is_other (core b i)) (λ y. core_accesses b R (get_or R i 0) i y) ≡ carried_off b R t x i 0
  higher = rw (now, here) (core_accesses-carried b R (get_or R i 0) (core b i) s i task)

  lower : over_cores b (is_other (core b i)) (λ y. lower_accesses b R (get_or R i 0) i y) ≡ carried_off b R t x j (i + 1)
  lower = rw (now, here, last) (lower_accesses-carried b R (get_or R i 0) (core b i) s i task)

  before : over_cores b (is_before (core b i)) A ≡ cores_from b R t j 1 (x - 1)
  before = rw (now, here, last) (cores_before-from b R (get_or R i 0) (lowest b) (core b i) (s.core i task).0 (s.core i task).1)

  after : over_cores b (is_after (core b i)) A ≡ cores_from b R t j (x + 1) (cores b)
  after = rw (now, here, last) (cores_after-from b R (get_or R i 0) (lowest b) (core b i))

  pub fixed-priority-is : {p q own some : ℕ} → p ≡ carried_off b R t x i 0 → Reaches own q (carried_off b R t x j (i + 1))
      → own ≡ own_accesses b R i → some ≡ min own q → p + some ≡ interference b R i 0
  unfolding interference
  fixed-priority-is p q own some = omega (arith, q.same, higher, lower)

  pub processor-priority-is : {p q own some : ℕ} → p ≡ cores_from b R t j 1 (x - 1) → Reaches own q (cores_from b R t j (x + 1) (cores b))
      → own ≡ own_accesses b R i → some ≡ min own q → p + some ≡ interference b R i 1
  unfolding interference
  processor-priority-is p q own some = omega (arith, q.same, before, after)

  pub fifo-is : {p q : ℕ} → p ≡ cores_from b R t j 1 (x - 1) → q ≡ cores_from b R t j (x + 1) (cores b) → p + q ≡ interference b R i 2
  unfolding interference
  fifo-is p q = omega (arith, other_cores-sides b (core b i) A, before, after)

  pub round-robin-is : {r own : ℕ} → r ≡ over_cores b (is_other x) (λ y. min (core_accesses b R t j y) (slots b y * own)) → own ≡ own_accesses b R i
      → r ≡ interference b R i 3
  unfolding interference
  round-robin-is r own = r ∙ rw (now, here, last, own)

-- TDMA counts no accesses of other cores
pub tdma-is : (b R : List ℕ) (i : ℕ) {l v s : ℕ} → l ≡ cores b → v ≡ slots_each b → s ≡ own_accesses b R i → (l - 1) * v * s ≡ interference b R i 4
unfolding interference
tdma-is b R i l v s = cc

-- one core: none is off it
module _ (b R : List ℕ) (i : ℕ) (s : Sound b) (task : i < tasks b) (one : cores b ≡ 1) where
  here : core b i ≡ 1
  here = omega (arith, s.core i task)

  none : (test : ℕ → Bool) (f : ℕ → ℕ) → test 1 ≡ false → over_cores b test f ≡ 0
  none test f out =
      sum_to-zero (λ y. only_if (test (y + 1)) (f (y + 1))) (cores b) (λ y h. let first : y ≡ 0 = omega arith in rw (first, out))

  other : is_other (core b i) 1 ≡ false
  other = rw here refl

  -- A(n, y)
  abbrev lowest-of : ℕ → ℕ
  lowest-of y = core_accesses b R (get_or R i 0) (lowest b) y

  pub interference-alone : (rule : ℕ) → interference b R i rule ≡ 0
  unfolding interference
  interference-alone zero =
      omega (arith, none (is_other (core b i)) (λ y. core_accesses b R (get_or R i 0) i y) other, none (is_other (core b i)) (λ y. lower_accesses b R (get_or R i 0) i y) other)
  interference-alone (suc zero) = omega (arith, none (is_before (core b i)) lowest-of (rw here refl), none (is_after (core b i)) lowest-of (rw here refl))
  interference-alone (suc (suc zero)) = none (is_other (core b i)) lowest-of other
  interference-alone (suc (suc (suc zero))) = none (is_other (core b i)) (λ y. min (lowest-of y) (slots b y * own_accesses b R i)) other
  interference-alone (suc (suc (suc (suc m)))) = rw (one, zero-mul (slots_each b), zero-mul (own_accesses b R i))
