-- What the code does at a position, as the laws of marks have it, and what a work word loads.
-- Assumes nothing.
use Prim.Native.Nat.{ℕ, suc, ◌+◌, ◌*◌, ◌/◌, ◌%◌, ◌≤◌, ◌<◌, max}
use mathlib.Core.Bool.{Bool, true, false, cond}
use mathlib.Core.List.{List}
use mathlib.Core.Path.{◌≡◌, sym, ap, ap₂, ◌∙◌}
use native.Mathlib.Decide.{ℕ_discrete}
use native.Mathlib.Nat.{mul-le-mul, suc-mul}
use native.Mathlib.Omega.{arith}
use borrow.Author.Tests.{eq-eqb, ne_eqb}
use lib.Bits.{bit_or, or_step, or_zero_r}
use lib.Dec.{eqb}
use lib.ListN.{set}
use Rattle.folds.specs.Folds.{only_if}
use Rattle.board.specs.Layout.{kind_of, block_of}
use Rattle.entries.specs.Entries.{found, shifted}
use Rattle.entries.specs.Marks.{mark_miss, mark_hit, mark_load, position_held, position_marks, position_missed}
use Rattle.marks.specs.Accesses.{load_of}

-- the entries of a set lie among 4096 words
pub entries_fit : (s ways : ℕ) → s < 512 → ways ≤ 8 → s * ways + ways ≤ 4096
entries_fit s ways h k =
    let most : suc s * ways ≤ 512 * 8 = mul-le-mul {n₂ = 512} h k in
    omega (arith, most, suc-mul s ways)

-- the lowest bit set
pub or-one : (v : ℕ) → bit_or v 1 ≡ v / 2 * 2 + 1
or-one v = or_step v 1 ∙ (let low : max (v % 2) 1 ≡ 1 = omega arith in ap₂ (λ (x y : ℕ). x * 2 + y) (or_zero_r (v / 2)) low)

-- a position that loads x
module _ (base ways s x e : ℕ) (array marks : List ℕ) (load : x ≡ 0 → ⊥) where
  loads : eqb x 0 ≡ false
  loads = ne_eqb x 0 load

  pub load-held : shifted base (base + x) ((base + x) * 2048 + e) array (s * ways) ways ≡ position_held base ways s x e array
  unfolding position_held
  load-held = sym (ap (λ (t : Bool). cond t array (shifted base (base + x) ((base + x) * 2048 + e) array (s * ways) ways)) loads)

  module _ (last : ℕ) (known : last ≡ found base (base + x) array (s * ways) ways) where
    marks-is : mark_load marks e s last ≡ position_marks base ways s x e array marks
    unfolding position_marks
    marks-is =
        ap (mark_load marks e s) known
        ∙ sym (ap (λ (t : Bool). cond t (set marks e 0) (mark_load marks e s (found base (base + x) array (s * ways) ways))) loads)

    missed-is : only_if (eqb last 0) 1 ≡ position_missed base ways s x array
    unfolding position_missed
    missed-is =
        ap (λ (y : ℕ). only_if (eqb y 0) 1) known
        ∙ sym (ap (λ (t : Bool). cond t 0 (only_if (eqb (found base (base + x) array (s * ways) ways) 0) 1)) loads)

    pub load-missed : last ≡ 0 → (1 ≡ position_missed base ways s x array) × (mark_miss marks e s ≡ position_marks base ways s x e array marks)
    unfolding mark_load
    load-missed z = (
      sym (ap (λ (t : Bool). only_if t 1) (eq-eqb last 0 z)) ∙ missed-is,
      sym (ap (λ (t : Bool). cond t (mark_miss marks e s) (mark_hit marks e s last)) (eq-eqb last 0 z)) ∙ marks-is,
    )

    pub load-hit : (last ≡ 0 → ⊥) → (0 ≡ position_missed base ways s x array) × (mark_hit marks e s last ≡ position_marks base ways s x e array marks)
    unfolding mark_load
    load-hit n = (
      sym (ap (λ (t : Bool). only_if t 1) (ne_eqb last 0 n)) ∙ missed-is,
      sym (ap (λ (t : Bool). cond t (mark_miss marks e s) (mark_hit marks e s last)) (ne_eqb last 0 n)) ∙ marks-is,
    )

-- a position that loads nothing
module _ (base ways s x e : ℕ) (array marks : List ℕ) (idle : x ≡ 0) where
  none : eqb x 0 ≡ true
  none = eq-eqb x 0 idle

  pub idle-held : array ≡ position_held base ways s x e array
  unfolding position_held
  idle-held = sym (ap (λ (t : Bool). cond t array (shifted base (base + x) ((base + x) * 2048 + e) array (s * ways) ways)) none)

  pub idle-marks : set marks e 0 ≡ position_marks base ways s x e array marks
  unfolding position_marks
  idle-marks = sym (ap (λ (t : Bool). cond t (set marks e 0) (mark_load marks e s (found base (base + x) array (s * ways) ways))) none)

  pub idle-missed : 0 ≡ position_missed base ways s x array
  unfolding position_missed
  idle-missed = sym (ap (λ (t : Bool). cond t 0 (only_if (eqb (found base (base + x) array (s * ways) ways) 0) 1)) none)

-- what a work word loads
pub read_none : (w : ℕ) → (kind_of w ≡ 1 → ⊥) → load_of w ≡ 0
unfolding load_of
read_none w k = ap (λ (t : Bool). cond t (block_of w + 1) 0) (ne_eqb (kind_of w) 1 k)

pub read-load : (w : ℕ) → kind_of w ≡ 1 → block_of w + 1 ≡ load_of w
unfolding load_of
read-load w k = sym (ap (λ (t : Bool). cond t (block_of w + 1) 0) (eq-eqb (kind_of w) 1 k))

pub read_small : (w : ℕ) → load_of w ≤ 65536
read_small w = go (ℕ_discrete (kind_of w) 1)
  where
    go : Dec (kind_of w ≡ 1) → load_of w ≤ 65536
    go (yes k) = omega (arith, read-load w k)
    go (no k) = omega (arith, read_none w k)
