-- Release jitter: that of another task is added to the cycles in which its releases are counted, a task's own is not.
-- Assumes nothing.
use Prim.Native.Nat.{ℕ, ◌+◌, ◌-◌, ◌*◌, ◌≤◌, ◌<◌}
use mathlib.Core.List.{List}
use mathlib.Core.Path.{◌≡◌, ap}
use native.Mathlib.Decide.{ℕ_discrete}
use native.Mathlib.Nat.{le_of_eq}
use native.Mathlib.Omega.{arith}
use borrow.Author.Tests.{eq-eqb, ne_eqb}
use lib.ListN.{get_or}
use Rattle.folds.specs.Folds.{ceil_div}
use Rattle.folds.proofs.Numbers.{ceil_div-once}
use Rattle.board.specs.Layout.{access_cycles, period, deadline, jitter}
use Rattle.sums.specs.Sums.{bound, added_jitter, releases, memory_demand, window}

module _ (b : List ℕ) (i k : ℕ) where
  pub added_jitter-own : k ≡ i → added_jitter b i k ≡ 0
  unfolding added_jitter
  added_jitter-own same = rw (eq-eqb k i same)

  pub added_jitter-other : (k ≡ i → ⊥) → added_jitter b i k ≡ jitter b k
  unfolding added_jitter
  added_jitter-other other = rw (ne_eqb k i other)

  pub added_jitter-few : added_jitter b i k ≤ jitter b k
  added_jitter-few = go (ℕ_discrete k i)
    where
      go : Dec (k ≡ i) → added_jitter b i k ≤ jitter b k
      go (yes same) = omega (arith, added_jitter-own same)
      go (no other) = le_of_eq (added_jitter-other other)

  -- "the task's own count keeps ceil(t/T)", whatever its J
  pub releases-own : k ≡ i → (t : ℕ) → releases b i k t ≡ ceil_div t (period b k)
  releases-own same t =
      let span : t + added_jitter b i k ≡ t = omega (arith, added_jitter-own same) in
      ap (λ (a : ℕ). ceil_div a (period b k)) span

  pub releases-other : (k ≡ i → ⊥) → (t : ℕ) → releases b i k t ≡ ceil_div (t + jitter b k) (period b k)
  releases-other other t = ap (λ (j : ℕ). ceil_div (t + j) (period b k)) (added_jitter-other other)

  -- a release that may be late counts at once: one at t = 0
  pub releases-zero : (k ≡ i → ⊥) → 0 < jitter b k → jitter b k ≤ period b k → releases b i k 0 ≡ 1
  releases-zero other some short =
      omega (arith, releases-other other 0, ceil_div-once (0 + jitter b k) (period b k) (omega arith) (omega arith))

-- J = 0: a task is late above D, and releases and the window are those of document 01
module _ (b : List ℕ) (k : ℕ) (punctual : jitter b k ≡ 0) where
  pub bound-punctual : bound b k ≡ deadline b k
  bound-punctual = omega (arith, punctual)

  pub releases-punctual : (i t : ℕ) → releases b i k t ≡ ceil_div t (period b k)
  releases-punctual i t =
      let span : t + added_jitter b i k ≡ t = omega (arith, added_jitter-few b i k, punctual) in
      ap (λ (a : ℕ). ceil_div a (period b k)) span

  pub window-punctual : (R : List ℕ) (t j : ℕ) → window b R t j k ≡ t + get_or R k 0 - memory_demand b j k * access_cycles b
  window-punctual R t j = omega (arith, punctual)

-- on two boards, of which the second has as much jitter or more
pub added_jitter-rise : (b b' : List ℕ) (i k : ℕ) → jitter b k ≤ jitter b' k → added_jitter b i k ≤ added_jitter b' i k
added_jitter-rise b b' i k more = go (ℕ_discrete k i)
  where
    go : Dec (k ≡ i) → added_jitter b i k ≤ added_jitter b' i k
    go (yes same) = omega (arith, added_jitter-own b i k same)
    go (no other) = omega (arith, added_jitter-other b i k other, added_jitter-other b' i k other)
