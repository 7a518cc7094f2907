-- After the first plane the numbers have moved but for the carries that go into the others, and of one plane none is left.
use Rattle.std.proofs.Common.{List, ℕ, Bool, true, false, ◌≡◌, ◌+◌, ◌*◌, ◌/◌, ◌%◌, ◌≤◌, ◌<◌, ⊎_elim, eqb, ◌&&◌, refl, ap, subst, ◌∙◌, arith, length, get_or, bit_and}
use Rattle.std.proofs.Math.ListN.{set, length-set}
use lib.Bits.{bit_xor}
use borrow.Author.Tests.{ne_eqb}
use Rattle.folds.specs.Folds.{only_if}
use Rattle.folds.proofs.Numbers.{le-or-lt}
use Rattle.bitset.specs.Bits.{word_of}
use Rattle.counts.specs.Carries.{moves, falls, Rippled}
use Rattle.counts.specs.Planes.{count_of, largest}
use Rattle.counts.specs.Turns.{MarkApplied}
use Rattle.counts.proofs.Planes.{count-below}
use Rattle.counts.proofs.Carries.{ripple-start, ripple-on, ripple-end}
use Rattle.counts.proofs.move_number.Goals as goal

-- what the first plane leaves
rippled : (c planes mark at : ℕ) (live : List ℕ) (carry turned : ℕ) → 1 ≤ planes → mark < 1024 * c → 4 * c ≤ length live → at ≡ mark / 256
    → carry ≡ word_of (λ t. eqb t (mark / 4 % 64) && moves mark) 64 → turned ≡ word_of (λ t. falls mark) 64
    → Rippled c planes mark at live 1 (bit_and carry (bit_xor (get_or live at 0) turned)) (set live at (bit_xor (get_or live at 0) carry))
rippled c planes mark at live carry turned some inside room e is turns =
    let near : at < 4 * c = omega (arith, e, inside) in
    let there : at < length live = omega (arith, near, room) in
    let place : 4 * (0 * c) + at ≡ at = omega arith in
    subst
    (λ (p : ℕ). Rippled c planes mark at live 1 (bit_and carry (bit_xor (get_or live p 0) turned)) (set live p (bit_xor (get_or live p 0) carry))) place
    (ripple-on c planes mark at live live 0 carry turned some near (omega (arith, there)) turns (ripple-start c planes mark at live carry e is))

idle : (s t : Bool) → t ≡ false → only_if (s && t) 1 ≡ 0
idle true t e = ap (λ (u : Bool). only_if u 1) e
idle false t e = refl

-- of no plane every number is 0, and the mark moves none
none-applied : (c planes mark : ℕ) (old new : List ℕ) → planes ≡ 0 → (mark % 4 ≡ 1 → count_of c old 0 planes (mark / 4) < largest planes)
    → (mark % 4 ≡ 2 → 1 ≤ count_of c old 0 planes (mark / 4)) → MarkApplied c old planes mark new
none-applied c planes mark old new none room some s h =
    let empty : (words : List ℕ) (t : ℕ) → count_of c words 0 planes t ≤ 0 = λ words t. omega (arith, count-below c words 0 planes t, ap largest none) in
    omega (
      arith,
      empty old s,
      empty new s,
      idle (eqb (mark / 4) s) _ (ne_eqb (mark % 4) 1 (λ e. absurd (omega (arith, room e, ap largest none)))),
      idle (eqb (mark / 4) s) _ (ne_eqb (mark % 4) 2 (λ e. absurd (omega (arith, some e, empty old (mark / 4))))),
    )

pub returns-then-planes-le1 : goal.returns-then-planes-le1
returns-then-planes-le1 c =
    let a = c.args in
    let at = a.mark / 256 in
    let live : List ℕ = set a.live.now at (bit_xor (get_or a.live.now at 0) c.carry_of-carry.result) in (
      ⊎_elim
          (λ some. ripple-end a.caches a.planes a.mark at a.live.now live 1 _ (omega (arith, some, c.if-planes-le1.true)) c.requires.5 c.requires.6
          (rippled a.caches a.planes a.mark at a.live.now c.carry_of-carry.result (word_of (λ t. falls a.mark) 64) some c.requires.0 c.requires.1 refl
          c.carry_of-carry.ensures refl))
          (λ none. none-applied a.caches a.planes a.mark a.live.now live (omega (arith, none)) c.requires.5 c.requires.6)
          (le-or-lt 1 a.planes),
      length-set a.live.now at _,
    )

pub returns : goal.returns
returns c =
    let a = c.args in
    let at = a.mark / 256 in
    let carry = c.carry_of-carry.result in (
      c.carry_on.ensures.0 a.live.now c.requires.5 c.requires.6
          (rippled a.caches a.planes a.mark at a.live.now carry c.all_if-turned.result (omega arith) c.requires.0 c.requires.1 refl
          c.carry_of-carry.ensures c.all_if-turned.ensures),
      c.carry_on.ensures.1 ∙ length-set a.live.now at _,
    )
