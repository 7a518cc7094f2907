-- A scan that counts at some points, over any numbers `at p` of point p: a point is counted where a number grew since the last one that was and the next point
-- loses one, or the points end. What was counted, and the present point where it is still to be, have the largest number up to it.
-- Assumes nothing.
use Prim.Native.Nat.{ℕ, ◌+◌, ◌≤◌, max}
use mathlib.Core.Bool.{Bool, true, false, not, ◌&&◌, ◌||◌, false≢true}
use mathlib.Core.Path.{◌≡◌, refl}
use native.Mathlib.Omega.{arith}
use Rattle.folds.specs.Folds.{only_if, max_to}
use Rattle.folds.proofs.Folds.{max_to-next}

-- at point p, with `most` the largest number counted; `fresh` is whether point p is still to be counted
abbrev pub Standing : (ℕ → ℕ) → ℕ → Bool → ℕ → Type 0
Standing at most fresh p = max most (only_if fresh (at p)) ≡ max_to at (p + 1)

module _ (at : ℕ → ℕ) (p : ℕ) where
  pub standing-start : (most : ℕ) (fresh : Bool) → most ≡ max_to at p → (fresh ≡ false → at p ≡ 0) → Standing at most fresh p
  standing-start most true e none = omega (arith, max_to-next at p)
  standing-start most false e none = omega (arith, none refl, max_to-next at p)

  -- one turn: point p is counted where it is to be
  pub standing-turn : (most most' : ℕ) (fresh lost came : Bool) → most' ≡ max most (only_if (fresh && lost) (at p)) → (lost ≡ false → at p ≤ at (p + 1))
      → (came ≡ false → at (p + 1) ≤ at p) → Standing at most fresh p → Standing at most' ((fresh && not lost) || came) (p + 1)
  standing-turn most most' true true true e keeps adds so_far = omega (arith, max_to-next at (p + 1))
  standing-turn most most' true true false e keeps adds so_far = omega (arith, max_to-next at p, max_to-next at (p + 1), adds refl)
  standing-turn most most' true false true e keeps adds so_far = omega (arith, max_to-next at (p + 1), keeps refl)
  standing-turn most most' true false false e keeps adds so_far = omega (arith, max_to-next at (p + 1), keeps refl)
  standing-turn most most' false lost true e keeps adds so_far = omega (arith, max_to-next at (p + 1))
  standing-turn most most' false lost false e keeps adds so_far = omega (arith, max_to-next at p, max_to-next at (p + 1), adds refl)

  -- where a block is lost, or the points end, all of them are counted
  pub standing-end : (most most' : ℕ) (fresh lost : Bool) → most' ≡ max most (only_if (fresh && lost) (at p)) → lost ≡ true → Standing at most fresh p → most' ≡ max_to at (p + 1)
  standing-end most most' true true e l so_far = omega arith
  standing-end most most' true false e l so_far = absurd (false≢true l)
  standing-end most most' false lost e l so_far = omega arith
