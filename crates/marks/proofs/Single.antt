-- A load into a set that holds one block: the code has no branch on `hit`, which is whether the entry is of the block.
-- Assumes nothing.
use Prim.Native.Nat.{ℕ, ◌+◌, ◌-◌, ◌*◌, ◌/◌, ◌%◌}
use mathlib.Core.Bool.{Bool, true, false, cond, ◌||◌}
use mathlib.Core.List.{List}
use mathlib.Core.Path.{◌≡◌, refl, sym, ap, ◌∙◌}
use native.Mathlib.Nat.{mul-one}
use native.Mathlib.Omega.{arith}
use lib.Bits.{bit_or, or_zero_r}
use lib.ListN.{get_or, set}
use lib.Seq.{set-get_or}
use Rattle.folds.specs.Folds.{only_if}
use Rattle.entries.specs.Entries.{is_of, is_earlier, found, shifted}
use Rattle.entries.specs.Marks.{position_held, position_marks, position_missed}
use Rattle.marks.proofs.Steps.{load-held, load-missed, load-hit, or-one}

module _ (base s x e : ℕ) (array marks : List ℕ) (load : x ≡ 0 → ⊥) where
  abbrev entry : ℕ
  entry = get_or array s 0

  found-one : found base (base + x) array (s * 1) 1 ≡ cond (is_of (base + x) entry) (1 + entry % 2048) 0
  unfolding found
  found-one =
      ap (λ (k : ℕ). cond (is_of (base + x) (get_or array (s * 1) 0)) (1 + get_or array (s * 1) 0 % 2048) k) (none (is_earlier base (get_or array (s * 1) 0)))
      ∙ ap (λ (i : ℕ). cond (is_of (base + x) (get_or array i 0)) (1 + get_or array i 0 % 2048) 0) (mul-one s)
    where
      none : (t : Bool) → cond {A = ℕ} t 0 0 ≡ 0
      none true = refl
      none false = refl

  shifted_one : (v : ℕ) → shifted base (base + x) v array (s * 1) 1 ≡ set array s v
  unfolding shifted
  shifted_one v = go (is_of (base + x) (get_or array (s * 1) 0) || is_earlier base (get_or array (s * 1) 0)) ∙ ap (λ (i : ℕ). set array i v) (mul-one s)
    where
      go : (t : Bool) → cond t (set array (s * 1) v) (set array (s * 1) v) ≡ set array (s * 1) v
      go true = refl
      go false = refl

  pub one-held : set array s ((base + x) * 2048 + e) ≡ position_held base 1 s x e array
  one-held = sym (shifted_one ((base + x) * 2048 + e)) ∙ load-held base 1 s x e array marks load

  module _ (hit : ℕ) (is : hit ≡ only_if (is_of (base + x) entry) 1) where
    abbrev first : List ℕ
    first = set marks e (4 * s + 2 * hit)

    abbrev other : ℕ
    other = get_or first (entry % 2048) 0

    abbrev Marked : Type 0
    Marked = set first (entry % 2048) (bit_or other hit) ≡ position_marks base 1 s x e array marks

    pub one-load : (1 - hit ≡ position_missed base 1 s x array) × Marked
    one-load = go (is_of (base + x) entry) refl
      where
        go : (t : Bool) → is_of (base + x) entry ≡ t → (1 - hit ≡ position_missed base 1 s x array) × Marked
        go true q =
            let f : found base (base + x) array (s * 1) 1 ≡ 1 + entry % 2048 = found-one ∙ ap (λ (t : Bool). cond t (1 + entry % 2048) 0) q in
            let h : hit ≡ 1 = is ∙ ap (λ (t : Bool). only_if t 1) q in
            let at : entry % 2048 ≡ 1 + entry % 2048 - 1 = omega arith in
            let value : bit_or other hit ≡ other / 2 * 2 + 1 = ap (bit_or other) h ∙ or-one other in
            let two : 4 * s + 2 * hit ≡ 4 * s + 2 = omega (arith, h) in
            let so = load-hit base 1 s x e array marks load (1 + entry % 2048) (sym f) (λ z. omega (arith, z)) in (
              omega (arith, h, so.0),
              ap (set first (entry % 2048)) value
                  ∙ ap (λ (w : List ℕ). set w (entry % 2048) (get_or w (entry % 2048) 0 / 2 * 2 + 1)) (ap (set marks e) two)
                  ∙ ap (λ (i : ℕ). set (set marks e (4 * s + 2)) i (get_or (set marks e (4 * s + 2)) i 0 / 2 * 2 + 1)) at ∙ so.1,
            )
        go false q =
            let f : found base (base + x) array (s * 1) 1 ≡ 0 = found-one ∙ ap (λ (t : Bool). cond t (1 + entry % 2048) 0) q in
            let h : hit ≡ 0 = is ∙ ap (λ (t : Bool). only_if t 1) q in
            let value : bit_or other hit ≡ other = ap (bit_or other) h ∙ or_zero_r other in
            let four : 4 * s + 2 * hit ≡ 4 * s = omega (arith, h) in
            let so = load-missed base 1 s x e array marks load 0 (sym f) refl in (
              omega (arith, h, so.0),
              ap (set first (entry % 2048)) value ∙ set-get_or first (entry % 2048) 0 ∙ ap (set marks e) four ∙ so.1,
            )
