-- What a mark does to the numbers, plane by plane: the carry, or the borrow, of a set goes into its bit by exclusive or, and on where the bit hands it on.
-- Assumes nothing.
use Prim.Native.Nat.{ℕ, ◌+◌, ◌*◌, ◌/◌, ◌%◌, ◌^◌, ◌≤◌, ◌<◌}
use mathlib.Core.Bool.{Bool, true, false, not, ◌&&◌, ◌||◌, xor, and-false}
use mathlib.Core.List.{List}
use mathlib.Core.Path.{◌≡◌, refl, sym, ap, ap₂, subst, ◌∙◌}
use native.Mathlib.Decide.{ℕ_discrete}
use native.Mathlib.Nat.{zero-add, pow-suc}
use native.Mathlib.Numerals.{add-one}
use native.Mathlib.Omega.{arith}
use borrow.Author.Tests.{eq-eqb, ne_eqb, eqb-true}
use lib.Bits.{bit_and, bit_xor}
use lib.Dec.{eqb}
use lib.ListN.{length, get_or, set}
use lib.Seq.{get_or-set_same, get_or-set_other}
use Rattle.folds.specs.Folds.{only_if}
use Rattle.folds.proofs.Numbers.{and_both}
use Rattle.folds.proofs.Folds.{sum_to-but}
use Rattle.bitset.specs.Bits.{bit, word_of}
use Rattle.bitset.proofs.Words.{bit-none, bit-and, bit-xor, bit-word_of}
use Rattle.counts.specs.Planes.{sets_of, in_plane, count_of, largest}
use Rattle.counts.specs.Turns.{adds, takes, MarkApplied}
use Rattle.counts.specs.Carries.{Balanced, carried, moves, falls, moved, Rippled}
use Rattle.counts.proofs.Planes.{same-plane, weight, count-sum, count-below, largest-power}

-- ---- one number

balanced-start : (down first : Bool) (old : ℕ) → Balanced down first first 1 old old
balanced-start true first old = omega arith
balanced-start false first old = omega arith

-- its bit of weight k was b and has the carry
moved_on : (down first rest b : Bool) (k k' old new new' : ℕ) → k' ≡ k * 2 → new' + only_if b k ≡ new + only_if (xor b rest) k
    → Balanced down first rest k old new → Balanced down first (rest && xor b down) k' old new'
unfolding xor
moved_on true first true true k k' old new new' w e m = omega arith
moved_on true first true false k k' old new new' w e m = omega arith
moved_on true first false true k k' old new new' w e m = omega arith
moved_on true first false false k k' old new new' w e m = omega arith
moved_on false first true true k k' old new new' w e m = omega arith
moved_on false first true false k k' old new new' w e m = omega arith
moved_on false first false true k k' old new new' w e m = omega arith
moved_on false first false false k k' old new new' w e m = omega arith

-- no carry stands
balanced-stop : (down first : Bool) (k old new : ℕ) → Balanced down first false k old new → new + only_if (down && first) 1 ≡ old + only_if (not down && first) 1
balanced-stop true first k old new m = omega arith
balanced-stop false first k old new m = omega arith

-- none can stand past the last bit
balanced-end : (down first rest : Bool) (most old new : ℕ) → new ≤ most → ((not down && first) ≡ true → old < most) → ((down && first) ≡ true → 1 ≤ old) → old ≤ most
    → Balanced down first rest (most + 1) old new → new + only_if (down && first) 1 ≡ old + only_if (not down && first) 1
balanced-end true first false most old new low room some l m = balanced-stop true first (most + 1) old new m
balanced-end false first false most old new low room some l m = balanced-stop false first (most + 1) old new m
balanced-end true true true most old new low room some l m = absurd (omega (arith, some refl))
balanced-end true false true most old new low room some l m = absurd (omega arith)
balanced-end false true true most old new low room some l m = absurd (omega (arith, room refl))
balanced-end false false true most old new low room some l m = absurd (omega arith)

-- ---- the carries of one word of each plane

module _ (c : ℕ) (live : List ℕ) (i at carry : ℕ) (room : 4 * (i * c) + at < length live) (near : at < 4 * c) where
  abbrev word : ℕ
  word = get_or live (4 * (i * c) + at) 0

  abbrev next : List ℕ
  next = set live (4 * (i * c) + at) (bit_xor word carry)

  -- planes but this one are as they were, and this one has the carries
  plane-other : (j s : ℕ) → s < sets_of c → (j ≡ i → ⊥) → in_plane c next j s ≡ in_plane c live j s
  plane-other j s h other =
      ap (λ (w : ℕ). bit w (s % 64))
      (get_or-set_other live (4 * (i * c) + at) (4 * (j * c) + s / 64) (bit_xor word carry) 0 (λ e. other (same-plane c j i (s / 64) at (omega arith) near e)))

  plane-here : (s : ℕ) → s < sets_of c → in_plane c next i s ≡ xor (in_plane c live i s) (carried carry at s)
  unfolding xor
  plane-here s h = go (ℕ_discrete (s / 64) at)
    where
      same : (t : Bool) → t ≡ xor t false
      same true = refl
      same false = refl

      go : Dec (s / 64 ≡ at) → in_plane c next i s ≡ xor (in_plane c live i s) (carried carry at s)
      go (yes e) =
          ap (λ (k : ℕ). bit (get_or next (4 * (i * c) + k) 0) (s % 64)) e
          ∙ ap (λ (w : ℕ). bit w (s % 64)) (get_or-set_same live (4 * (i * c) + at) (bit_xor word carry) 0 room)
          ∙ bit-xor word carry (s % 64)
          ∙ ap₂ xor
          (sym (ap (λ (k : ℕ). bit (get_or live (4 * (i * c) + k) 0) (s % 64)) e))
          (sym (ap (λ (t : Bool). t && bit carry (s % 64)) (eq-eqb (s / 64) at e)))
      go (no n) =
          ap (λ (w : ℕ). bit w (s % 64)) (get_or-set_other live (4 * (i * c) + at) (4 * (i * c) + s / 64) (bit_xor word carry) 0 (λ e. n (omega arith)))
          ∙ same (in_plane c live i s)
          ∙ ap (λ (t : Bool). xor (in_plane c live i s) (t && bit carry (s % 64))) (sym (ne_eqb (s / 64) at n))

  -- the carries that go on
  carry-on : (turned : ℕ) (down : Bool) → ((j : ℕ) → j < 64 → bit turned j ≡ down) → (s : ℕ) → s < sets_of c
      → carried (bit_and carry (bit_xor word turned)) at s ≡ (carried carry at s && xor (in_plane c live i s) down)
  carry-on turned down all s h = go (ℕ_discrete (s / 64) at)
    where
      go : Dec (s / 64 ≡ at) → carried (bit_and carry (bit_xor word turned)) at s ≡ (carried carry at s && xor (in_plane c live i s) down)
      go (yes e) =
          rw (eq-eqb (s / 64) at e)
          (bit-and carry (bit_xor word turned) (s % 64)
          ∙ ap (λ (t : Bool). bit carry (s % 64) && t)
          (bit-xor word turned (s % 64)
          ∙ ap₂ xor (sym (ap (λ (k : ℕ). bit (get_or live (4 * (i * c) + k) 0) (s % 64)) e)) (all (s % 64) (omega arith))))
      go (no n) = rw (ne_eqb (s / 64) at n) refl

  -- the number of a set after its bit of plane i has changed
  count-on : (n s : ℕ) → s < sets_of c → i < n
      → count_of c next 0 n s + only_if (in_plane c live i s) (2 ^ i) ≡ count_of c live 0 n s + only_if (xor (in_plane c live i s) (carried carry at s)) (2 ^ i)
  count-on n s h l =
      let but = sum_to-but (weight c live 0 s) (weight c next 0 s) n i l (λ j m o. ap (λ (t : Bool). only_if t (2 ^ j)) (sym (plane-other (0 + j) s h (λ e. o (sym (zero-add j) ∙ e))))) in
      let was : weight c live 0 s i ≡ only_if (in_plane c live i s) (2 ^ i) = ap (λ (k : ℕ). only_if (in_plane c live k s) (2 ^ i)) (zero-add i) in
      let is : weight c next 0 s i ≡ only_if (xor (in_plane c live i s) (carried carry at s)) (2 ^ i) =
      ap (λ (k : ℕ). only_if (in_plane c next k s) (2 ^ i)) (zero-add i) ∙ ap (λ (t : Bool). only_if t (2 ^ i)) (plane-here s h) in
      omega (arith, but, was, is, count-sum c next 0 n s, count-sum c live 0 n s)

-- ---- the code: after i planes the numbers have moved but for the carries

-- before the first plane: the carry of the mark's set alone
pub ripple-start : (c planes mark at : ℕ) (live : List ℕ) (carry : ℕ) → at ≡ mark / 256 → carry ≡ word_of (λ t. eqb t (mark / 4 % 64) && moves mark) 64
    → Rippled c planes mark at live 0 carry live
ripple-start c planes mark at live carry place e s h =
    ap (λ (t : Bool). count_of c live 0 planes s + only_if (not (falls mark) && t) 1 + only_if (falls mark && moved mark s) 1) first
    ∙ balanced-start (falls mark) (moved mark s) (count_of c live 0 planes s)
    ∙ ap (λ (t : Bool). count_of c live 0 planes s + only_if (falls mark && t) 1 + only_if (not (falls mark) && moved mark s) 1) (sym first)
  where
    its : bit carry (s % 64) ≡ (eqb (s % 64) (mark / 4 % 64) && moves mark)
    its = ap (λ (w : ℕ). bit w (s % 64)) e ∙ bit-word_of 64 (λ t. eqb t (mark / 4 % 64) && moves mark) (s % 64) (omega arith)

    split : Dec (mark / 4 ≡ s) → Dec (s / 64 ≡ at) → (eqb (s / 64) at && (eqb (s % 64) (mark / 4 % 64) && moves mark)) ≡ moved mark s
    split (yes q) d =
        rw (eq-eqb (mark / 4) s q, eq-eqb (s / 64) at (omega arith), eq-eqb (s % 64) (mark / 4 % 64) (ap (λ (k : ℕ). k % 64) (sym q))) refl
    split (no n) (yes d) = rw (ne_eqb (mark / 4) s n, eq-eqb (s / 64) at d, ne_eqb (s % 64) (mark / 4 % 64) (λ q. n (omega arith))) refl
    split (no n) (no d) = rw (ne_eqb (mark / 4) s n, ne_eqb (s / 64) at d) refl

    first : carried carry at s ≡ moved mark s
    first = ap (λ (t : Bool). eqb (s / 64) at && t) its ∙ split (ℕ_discrete (mark / 4) s) (ℕ_discrete (s / 64) at)

-- one plane more
pub ripple-on : (c planes mark at : ℕ) (live₀ live : List ℕ) (i carry turned : ℕ) → i < planes → at < 4 * c → 4 * (i * c) + at < length live
    → turned ≡ word_of (λ t. falls mark) 64 → Rippled c planes mark at live₀ i carry live
    → Rippled c planes mark at live₀ (i + 1) (bit_and carry (bit_xor (get_or live (4 * (i * c) + at) 0) turned)) (set live (4 * (i * c) + at) (bit_xor (get_or live (4 * (i * c) + at) 0) carry))
ripple-on c planes mark at live₀ live i carry turned l near room e so_far s h =
    subst
    (λ (t : Bool). Balanced (falls mark) (moved mark s) t (2 ^ (i + 1)) (count_of c live₀ 0 planes s) (count_of c (next c live i at carry room near) 0 planes s))
    (sym (carry-on c live i at carry room near turned (falls mark) (λ j k. ap (λ (w : ℕ). bit w j) e ∙ bit-word_of 64 (λ t. falls mark) j k) s h))
    (moved_on (falls mark) (moved mark s) (carried carry at s) (in_plane c live i s) (2 ^ i) (2 ^ (i + 1)) (count_of c live₀ 0 planes s) (count_of c live 0 planes s) _
    (ap (λ (k : ℕ). 2 ^ k) (add-one i) ∙ pow-suc 2 i) (count-on c live i at carry room near planes s h l) (so_far s h))

-- what a mark moves, by what it adds and takes
module _ (mark s : ℕ) where
  less' : (a o z : Bool) → (z && (a && (o || z))) ≡ (a && z)
  less' true true true = refl
  less' true true false = refl
  less' true false true = refl
  less' true false false = refl
  less' false true true = refl
  less' false true false = refl
  less' false false true = refl
  less' false false false = refl

  more' : (a o z : Bool) → (z ≡ true → o ≡ false) → (not z && (a && (o || z))) ≡ (a && o)
  more' true true true n = sym (n refl)
  more' true true false n = refl
  more' true false true n = refl
  more' true false false n = refl
  more' false true true n = refl
  more' false true false n = refl
  more' false false true n = refl
  more' false false false n = refl

  less : (falls mark && moved mark s) ≡ (eqb (mark / 4) s && eqb (mark % 4) 2)
  less = less' (eqb (mark / 4) s) (eqb (mark % 4) 1) (eqb (mark % 4) 2)

  more : (not (falls mark) && moved mark s) ≡ (eqb (mark / 4) s && eqb (mark % 4) 1)
  more = more' (eqb (mark / 4) s) (eqb (mark % 4) 1) (eqb (mark % 4) 2) (λ q. ne_eqb (mark % 4) 1 (λ k. let z : mark % 4 ≡ 2 = eqb-true (mark % 4) 2 q in omega arith))

  as-marked : (old new : ℕ) → new + only_if (falls mark && moved mark s) 1 ≡ old + only_if (not (falls mark) && moved mark s) 1
      → new + takes mark s ≡ old + adds mark s
  as-marked old new e = ap (λ (t : Bool). new + only_if t 1) (sym less) ∙ e ∙ ap (λ (t : Bool). old + only_if t 1) more

-- past the last plane
pub ripple-end : (c planes mark at : ℕ) (live₀ live : List ℕ) (i carry : ℕ) → i ≡ planes
    → (mark % 4 ≡ 1 → count_of c live₀ 0 planes (mark / 4) < largest planes) → (mark % 4 ≡ 2 → 1 ≤ count_of c live₀ 0 planes (mark / 4))
    → Rippled c planes mark at live₀ i carry live → MarkApplied c live₀ planes mark live
ripple-end c planes mark at live₀ live i carry e room some all s h =
    as-marked mark s (count_of c live₀ 0 planes s) (count_of c live 0 planes s)
    (balanced-end (falls mark) (moved mark s) (carried carry at s) (largest planes) (count_of c live₀ 0 planes s) (count_of c live 0 planes s)
    (count-below c live 0 planes s)
    (λ q. let both = and_both (eqb (mark / 4) s) (eqb (mark % 4) 1) (sym (more mark s) ∙ q) in
    subst (λ (k : ℕ). count_of c live₀ 0 planes k < largest planes) (eqb-true (mark / 4) s both.0) (room (eqb-true (mark % 4) 1 both.1)))
    (λ q. let both = and_both (eqb (mark / 4) s) (eqb (mark % 4) 2) (sym (less mark s) ∙ q) in
    subst (λ (k : ℕ). 1 ≤ count_of c live₀ 0 planes k) (eqb-true (mark / 4) s both.0) (some (eqb-true (mark % 4) 2 both.1)))
    (count-below c live₀ 0 planes s)
    (subst (λ (k : ℕ). Balanced (falls mark) (moved mark s) (carried carry at s) k (count_of c live₀ 0 planes s) (count_of c live 0 planes s))
    (ap (λ (k : ℕ). 2 ^ k) e ∙ sym (largest-power planes)) (all s h)))

-- where no carry stands, before it
pub ripple-stop : (c planes mark at : ℕ) (live₀ live : List ℕ) (i carry : ℕ) → carry ≡ 0
    → Rippled c planes mark at live₀ i carry live → MarkApplied c live₀ planes mark live
ripple-stop c planes mark at live₀ live i carry none all s h =
    as-marked mark s (count_of c live₀ 0 planes s) (count_of c live 0 planes s)
    (balanced-stop (falls mark) (moved mark s) (2 ^ i) (count_of c live₀ 0 planes s) (count_of c live 0 planes s)
    (subst (λ (t : Bool). Balanced (falls mark) (moved mark s) t (2 ^ i) (count_of c live₀ 0 planes s) (count_of c live 0 planes s)) gone (all s h)))
  where
    gone : carried carry at s ≡ false
    gone = ap (λ (w : ℕ). eqb (s / 64) at && bit w (s % 64)) none ∙ ap (λ (t : Bool). eqb (s / 64) at && t) (bit-none (s % 64)) ∙ and-false (eqb (s / 64) at)
