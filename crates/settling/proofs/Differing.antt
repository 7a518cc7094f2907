-- The two halves of the front of a list: the same, or one word differs from its next.
-- Assumes nothing.
use Prim.Native.Nat.{ℕ, zero, suc, ◌+◌, ◌*◌, ◌≤◌, ◌<◌}
use mathlib.Core.List.{List}
use mathlib.Core.Logic.{◌⊎◌, inl, inr, ⊎_elim}
use mathlib.Core.Path.{◌≡◌, sym, ap, ◌∙◌}
use native.Mathlib.Decide.{ℕ_discrete}
use native.Mathlib.Omega.{arith}
use lib.ListN.{length, get_or, take, drop, length-drop}
use lib.Seq.{length-take-le, get_or-take, get_or-drop, ext_get_or}
use Rattle.folds.proofs.Numbers.{below_suc}

-- the first n words are the next n, or one of them differs from its next
module _ (n : ℕ) (w : List ℕ) (room : 2 * n ≤ length w) where
  next-word : (i : ℕ) → i < n → get_or (take n (drop n w)) i 0 ≡ get_or w (n + i) 0
  next-word i h = get_or-take n (drop n w) i 0 h ∙ get_or-drop n w i 0

  pub halves-same : take n w ≡ take n (drop n w) → (i : ℕ) → i < n → get_or w i 0 ≡ get_or w (n + i) 0
  halves-same e i h = sym (get_or-take n w i 0 h) ∙ ap (λ (l : List ℕ). get_or l i 0) e ∙ next-word i h

  differs : (m : ℕ) → ((i : ℕ) → i < m → get_or w i 0 ≡ get_or w (n + i) 0) ⊎ ((i : ℕ) × (i < m) × (get_or w i 0 ≡ get_or w (n + i) 0 → ⊥))
  differs zero = inl (λ i h. absurd (omega arith))
  differs (suc m) =
      ⊎_elim
      (λ all.
      elim (ℕ_discrete (get_or w m 0) (get_or w (n + m) 0)) [
        | yes e ↦ inl (λ i h. below_suc (λ j. get_or w j 0 ≡ get_or w (n + j) 0) m all e i (omega arith))
        | no other ↦ inr (m, omega arith, other)
      ])
      (λ (found : (i : ℕ) × (i < m) × (get_or w i 0 ≡ get_or w (n + i) 0 → ⊥)). let low = found.1 in inr (found.0, omega arith, found.2)) (differs m)

  pub halves-differ : (take n w ≡ take n (drop n w) → ⊥) → (i : ℕ) × (i < n) × (get_or w i 0 ≡ get_or w (n + i) 0 → ⊥)
  halves-differ other =
      ⊎_elim
      (λ all.
      absurd
      (other
      (ext_get_or 0 (take n w) (take n (drop n w)) (length-take-le n w (omega arith) ∙ sym (length-take-le n (drop n w) (omega (arith, length-drop n w))))
      (λ i h.
      let low : i < n = omega (arith, length-take-le n w (omega arith)) in
      get_or-take n w i 0 low ∙ all i low ∙ sym (next-word i low)))))
      (λ found. found) (differs n)
