-- The numbers of useful blocks over one position, and over the two positions of an instruction.
-- Assumes nothing.
use Prim.Native.Nat.{ℕ, ◌+◌, ◌*◌, ◌/◌, ◌%◌, ◌≤◌, ◌<◌}
use mathlib.Core.Bool.{Bool, false, ◌&&◌, and-false}
use mathlib.Core.List.{List}
use mathlib.Core.Path.{◌≡◌, refl, ap, ap₂, ◌∙◌}
use native.Mathlib.Nat.{le_refl}
use native.Mathlib.Numerals.{add-one}
use native.Mathlib.Omega.{arith}
use borrow.Author.Tests.{eq-eqb, ne_eqb}
use lib.Dec.{eqb}
use lib.ListN.{get_or}
use Rattle.folds.specs.Folds.{only_if}
use Rattle.folds.proofs.Folds.{sum_where-rise}
use Rattle.counts.specs.Planes.{sets_of, count_of, largest}
use Rattle.counts.specs.Turns.{adds, takes, MarkApplied}
use Rattle.scan.specs.Levels.{Turning, Shown, at_point}

-- ---- what a mark says of a set

moves-none : (a : Bool) {t : Bool} → t ≡ false → only_if (a && t) 1 ≡ 0
moves-none a e = ap (λ (t : Bool). only_if (a && t) 1) e ∙ ap (λ (t : Bool). only_if t 1) (and-false a)

moves-one : (mark k : ℕ) → mark % 4 ≡ k → only_if (eqb (mark / 4) (mark / 4) && eqb (mark % 4) k) 1 ≡ 1
moves-one mark k e = ap₂ (λ (t u : Bool). only_if (t && u) 1) (eq-eqb (mark / 4) (mark / 4) refl) (eq-eqb (mark % 4) k e)

-- ---- one position

module _ (c : ℕ) (f : ℕ → ℕ → ℕ) (marks : List ℕ) (n planes : ℕ) (turning : Turning c f marks n) (e : ℕ) (l : e < n) where
  abbrev mark : ℕ
  mark = get_or marks e 0

  turn : (s : ℕ) → s < sets_of c → f (e + 1) s + takes mark s ≡ f e s + adds mark s
  turn s h = ap (λ (k : ℕ). f k s + takes mark s) (add-one e) ∙ turning e s l h

  module _ (small : mark < 1024 * c) (live : List ℕ) (shown : Shown c f e planes live) where
    -- there is room for one more, and a block for one less
    pub position-grows : ((s : ℕ) → s < sets_of c → f (e + 1) s ≤ largest planes) → mark % 4 ≡ 1 → count_of c live 0 planes (mark / 4) < largest planes
    position-grows few k =
        let s : mark / 4 < sets_of c = omega arith in
        omega (arith, moves-one mark 1 k, moves-none (eqb (mark / 4) (mark / 4)) (ne_eqb (mark % 4) 2 (λ z. omega arith)), turn (mark / 4) s, shown (mark / 4) s, few (mark / 4) s)

    pub position-falls : mark % 4 ≡ 2 → 1 ≤ count_of c live 0 planes (mark / 4)
    position-falls k =
        let s : mark / 4 < sets_of c = omega arith in
        omega (arith, moves-one mark 2 k, moves-none (eqb (mark / 4) (mark / 4)) (ne_eqb (mark % 4) 1 (λ z. omega arith)), turn (mark / 4) s, shown (mark / 4) s)

  -- the numbers after it
  pub position-next : (live next : List ℕ) → Shown c f e planes live → MarkApplied c live planes mark next → Shown c f (e + 1) planes next
  position-next live next shown passed s h = omega (arith, passed s h, shown s h, turn s h)

  -- no number falls unless the mark takes one away, and none grows unless it adds one
  position-keeps : (mark % 4 ≡ 2 → ⊥) → (s : ℕ) → s < sets_of c → f e s ≤ f (e + 1) s
  position-keeps none s h = omega (arith, turn s h, moves-none (eqb (mark / 4) s) (ne_eqb (mark % 4) 2 none))

  position-adds : (mark % 4 ≡ 1 → ⊥) → (s : ℕ) → s < sets_of c → f (e + 1) s ≤ f e s
  position-adds none s h = omega (arith, turn s h, moves-none (eqb (mark / 4) s) (ne_eqb (mark % 4) 1 none))

-- ---- the two positions of an instruction

-- neither of its marks is k mod 4
abbrev pub Neither : List ℕ → ℕ → ℕ → Type 0
Neither marks p k = (get_or marks (2 * p) 0 % 4 ≡ k → ⊥) × (get_or marks (2 * p + 1) 0 % 4 ≡ k → ⊥)

module _ (c : ℕ) (f : ℕ → ℕ → ℕ) (marks : List ℕ) (n planes : ℕ) (turning : Turning c f marks n) (p : ℕ) (l : 2 * p + 1 < n) where
  abbrev fetch : ℕ
  fetch = get_or marks (2 * p) 0

  abbrev read : ℕ
  read = get_or marks (2 * p + 1) 0

  after : (s : ℕ) → f (2 * p + 1 + 1) s ≡ f (2 * (p + 1)) s
  after s = ap (λ (e : ℕ). f e s) (let z : 2 * p + 1 + 1 ≡ 2 * (p + 1) = omega arith in z)

  pub point-next : (live mid next : List ℕ) → Shown c f (2 * p) planes live → MarkApplied c live planes fetch mid → MarkApplied c mid planes read next → Shown c f (2 * (p + 1)) planes next
  point-next live mid next shown first second s h =
      position-next c f marks n planes turning (2 * p + 1) l mid next (position-next c f marks n planes turning (2 * p) (omega arith) live mid shown first) second s h ∙ after s

  -- the count at a point and at the next one
  pub point-keeps : (test : ℕ → Bool) → Neither marks p 2 → at_point c f test p ≤ at_point c f test (p + 1)
  point-keeps test none =
      sum_where-rise test test (f (2 * p)) (f (2 * (p + 1))) (sets_of c) (sets_of c) (le_refl (sets_of c))
      (λ s h t. (
        t,
        omega (
          arith,
          position-keeps c f marks n planes turning (2 * p) (omega arith) none.0 s h,
          position-keeps c f marks n planes turning (2 * p + 1) l none.1 s h,
          after s,
        ),
      ))

  pub point-adds : (test : ℕ → Bool) → Neither marks p 1 → at_point c f test (p + 1) ≤ at_point c f test p
  point-adds test none =
      sum_where-rise test test (f (2 * (p + 1))) (f (2 * p)) (sets_of c) (sets_of c) (le_refl (sets_of c))
      (λ s h t. (
        t,
        omega (
          arith,
          position-adds c f marks n planes turning (2 * p) (omega arith) none.0 s h,
          position-adds c f marks n planes turning (2 * p + 1) l none.1 s h,
          after s,
        ),
      ))
