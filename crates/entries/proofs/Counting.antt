-- What the mark of a position says of the useful blocks: one block more of its set where the mark's lowest digits are 1, one less where they are 2.
-- Assumes nothing.
use Prim.Native.Nat.{ℕ, ◌+◌, ◌-◌, ◌*◌, ◌/◌, ◌%◌, ◌<◌}
use mathlib.Core.Bool.{Bool, true, false, not, ◌&&◌, and-false}
use mathlib.Core.Path.{◌≡◌, refl, sym, ap, ap₂, ◌∙◌}
use native.Mathlib.Decide.{ℕ_discrete}
use native.Mathlib.Omega.{arith}
use borrow.Author.Tests.{eq-eqb, ne_eqb}
use lib.Dec.{eqb}
use Rattle.folds.specs.Folds.{only_if}
use Rattle.lru_cache.specs.Positions.{load_set, loads_into, position_hits, position_kept, useful_before}
use Rattle.counts.specs.Turns.{adds, takes}
use Rattle.entries.specs.Marks.{mark_of}
use Rattle.lru_cache.proofs.Positions.{useful-position}

module _ (place : ℕ → ℕ) (ways : ℕ) (l : ℕ → ℕ) (n e s : ℕ) (h : e < n) where
  abbrev hit : Bool
  hit = position_hits place ways l e

  abbrev kept : Bool
  kept = position_kept place ways l e (n - (e + 1))

  abbrev set : ℕ
  set = load_set place (l e)

  -- the digits of a mark 4 × set + low
  digits : (mark low : ℕ) → low < 4 → mark ≡ 4 * set + low → (mark / 4 ≡ set) × (mark % 4 ≡ low)
  digits mark low k q = (omega arith, omega arith)

  idle-turn : l e ≡ 0 → (mark : ℕ) → mark ≡ mark_of place ways l n e → useful_before place ways l n (e + 1) s + takes mark s ≡ useful_before place ways l n e s + adds mark s
  unfolding mark_of position_hits position_kept
  idle-turn z mark q =
      let none : eqb (l e) 0 ≡ true = eq-eqb (l e) 0 z in
      let zero' : mark ≡ 0 = q ∙ rw none in
      let turn = useful-position place ways l n e s h in
      let a : only_if (loads_into place s (l e) && position_hits place ways l e) 1 ≡ 0 = ap (λ (t : Bool). only_if ((not t && eqb set s) && position_hits place ways l e) 1) none in
      let b : only_if (loads_into place s (l e) && kept) 1 ≡ 0 = ap (λ (t : Bool). only_if ((not t && eqb set s) && kept) 1) none in
      let c : adds mark s ≡ 0 = ap (λ (m : ℕ). only_if (eqb (m / 4) s && eqb (m % 4) 1) 1) zero' ∙ ap (λ (t : Bool). only_if t 1) (and-false (eqb 0 s)) in
      let d : takes mark s ≡ 0 = ap (λ (m : ℕ). only_if (eqb (m / 4) s && eqb (m % 4) 2) 1) zero' ∙ ap (λ (t : Bool). only_if t 1) (and-false (eqb 0 s)) in
      omega (arith, turn, a, b, c, d)

  load-turn : (l e ≡ 0 → ⊥) → (mark : ℕ) → mark ≡ mark_of place ways l n e → useful_before place ways l n (e + 1) s + takes mark s ≡ useful_before place ways l n e s + adds mark s
  unfolding mark_of
  load-turn z mark q = go hit kept refl refl
    where
      some : eqb (l e) 0 ≡ false
      some = ne_eqb (l e) 0 z

      own : loads_into place s (l e) ≡ eqb set s
      own = ap (λ (t : Bool). not t && eqb set s) some

      mark-is : mark ≡ 4 * set + (2 * only_if hit 1 + only_if kept 1)
      mark-is =
          let four : only_if (not (eqb (l e) 0)) (4 * set) ≡ 4 * set = ap (λ (t : Bool). only_if (not t) (4 * set)) some in
          omega (arith, q, four)

      low-digits : (b b' : Bool) → 2 * only_if b 1 + only_if b' 1 < 4
      low-digits true true = omega arith
      low-digits true false = omega arith
      low-digits false true = omega arith
      low-digits false false = omega arith

      parts : (mark / 4 ≡ set) × (mark % 4 ≡ 2 * only_if hit 1 + only_if kept 1)
      parts = digits mark (2 * only_if hit 1 + only_if kept 1) (low-digits hit kept) mark-is

      adds-is : adds mark s ≡ only_if (eqb set s && eqb (2 * only_if hit 1 + only_if kept 1) 1) 1
      adds-is = ap₂ (λ (x y : ℕ). only_if (eqb x s && eqb y 1) 1) parts.0 parts.1

      takes-is : takes mark s ≡ only_if (eqb set s && eqb (2 * only_if hit 1 + only_if kept 1) 2) 1
      takes-is = ap₂ (λ (x y : ℕ). only_if (eqb x s && eqb y 2) 1) parts.0 parts.1

      turn : useful_before place ways l n (e + 1) s + only_if (eqb set s && hit) 1 ≡ useful_before place ways l n e s + only_if (eqb set s && kept) 1
      turn =
          sym (ap (λ (t : Bool). useful_before place ways l n (e + 1) s + only_if (t && hit) 1) own)
          ∙ useful-position place ways l n e s h ∙ ap (λ (t : Bool). useful_before place ways l n e s + only_if (t && kept) 1) own

      table : (b b' t : Bool) → only_if (t && eqb (2 * only_if b 1 + only_if b' 1) 2) 1 + only_if (t && b') 1 ≡ only_if (t && eqb (2 * only_if b 1 + only_if b' 1) 1) 1 + only_if (t && b) 1
      table true true true = refl
      table true true false = refl
      table true false true = refl
      table true false false = refl
      table false true true = refl
      table false true false = refl
      table false false true = refl
      table false false false = refl

      go : (b b' : Bool) → hit ≡ b → kept ≡ b' → useful_before place ways l n (e + 1) s + takes mark s ≡ useful_before place ways l n e s + adds mark s
      go b b' p r = omega (arith, turn, adds-is, takes-is, table hit kept (eqb set s))

  -- the useful blocks of every set after the position
  pub mark-turn : (mark : ℕ) → mark ≡ mark_of place ways l n e → useful_before place ways l n (e + 1) s + takes mark s ≡ useful_before place ways l n e s + adds mark s
  mark-turn mark q = go (ℕ_discrete (l e) 0)
    where
      go : Dec (l e ≡ 0) → useful_before place ways l n (e + 1) s + takes mark s ≡ useful_before place ways l n e s + adds mark s
      go (yes z) = idle-turn z mark q
      go (no z) = load-turn z mark q
