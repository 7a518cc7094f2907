-- Laws of bytes put into a lent buffer: one byte, one after the other; put at its start, what it then begins with, and what stays.
-- Assumes nothing.
use Prim.Native.Nat.{ℕ, suc, ◌+◌, ◌≤◌, ◌<◌}
use mathlib.Core.List.{List, [], ◌∷◌, ◌++◌}
use mathlib.Core.Path.{◌≡◌, refl, sym, ap, subst, ◌∙◌}
use native.Mathlib.Nat.{add-zero, add-suc, suc-add}
use native.Mathlib.Numerals.{add-one}
use native.Mathlib.Omega.{arith}
use lib.ListN.{length, get_or, take, drop, set, length-append}
use lib.Seq.{sets-eq, length-sets, length-take-le, take-suc, take_at, drop_at}
use Rattle.io.specs.Counts.{IsPrefixLen}
use Rattle.text.specs.Text.{line}
use Rattle.text.specs.Buffer.{laid, Put}

pub laid-append : (xs ys : List ℕ) (at : ℕ) (old : List ℕ) → laid ys (at + length xs) (laid xs at old) ≡ laid (xs ++ ys) at old
unfolding laid
laid-append [] ys at old = rw add-zero
laid-append (x ∷ xs) ys at old = rw (add-suc, ← suc-add) (laid-append xs ys (suc at) (set old at x))

pub length-laid : (xs : List ℕ) (at : ℕ) (old : List ℕ) → length (laid xs at old) ≡ length old
unfolding laid
length-laid xs at old = length-sets old at xs

-- one byte put
pub put_one : (old : List ℕ) (at x : ℕ) → at < length old → Put old at (x ∷ []) (set old at x) (at + 1)
unfolding laid
put_one old at x h = record { buffer = refl; place = refl; fits = omega arith }

-- one after the other
pub put_then : {old mid new xs ys : List ℕ} {at next end : ℕ} → Put old at xs mid next → Put mid next ys new end → Put old at (xs ++ ys) new end
put_then {old} {mid} {new} {xs} {ys} {at} {next} {end} p q =
    let size : length mid ≡ length old = ap length p.buffer ∙ length-laid xs at old in
    record {
      buffer = q.buffer ∙ rw (p.place, p.buffer) (laid-append xs ys at old);
      place = omega (arith, length-append xs ys, p.place, q.place);
      fits = omega (arith, q.fits);
    }

-- equal bytes
pub put_same : {old new xs ys : List ℕ} {at next : ℕ} → xs ≡ ys → Put old at xs new next → Put old at ys new next
put_same {old} {new} {at = at} {next} e p = subst (λ (bytes : List ℕ). Put old at bytes new next) e p

-- one byte more of a text
pub put_next : (text : List ℕ) (i : ℕ) {old mid new : List ℕ} {at next end : ℕ} → i < length text
    → Put old at (take i text) mid next → Put mid next (get_or text i 0 ∷ []) new end → Put old at (take (i + 1) text) new end
put_next text i l p q = rw (add-one, take-suc text i 0 l) (put_then p q)

-- the place after the bytes counts bytes at the start of the buffer
pub put-counts : {old new bytes : List ℕ} {at next : ℕ} → Put old at bytes new next → IsPrefixLen next new
put-counts {old} {new} {bytes} {at} {next} p =
    let size : length new ≡ length old = ap length p.buffer ∙ length-laid bytes at old in
    let room : next ≤ length new = omega (arith, p.fits) in
    (room, sym (length-take-le next new room))

-- the last field of a line
pub put_last : (field : List ℕ) {old new : List ℕ} {at end : ℕ} → Put old at (field ++ (10 ∷ [])) new end → Put old at (line (field ∷ [])) new end
unfolding line
put_last field p = p

-- bytes laid in at the start: before what the buffer has after them
laid_first : (old bytes : List ℕ) → length bytes ≤ length old → laid bytes 0 old ≡ bytes ++ drop (length bytes) old
unfolding laid
laid_first old bytes h =
    let none : 0 + length bytes ≡ length bytes = omega arith in
    sets-eq bytes old 0 (omega arith) ∙ ap (λ (n : ℕ). bytes ++ drop n old) none

pub put_first : (old bytes part : List ℕ) (size : ℕ) → length bytes ≤ length old → part ≡ bytes → size ≡ length bytes
    → Put old 0 bytes (part ++ drop size old) size
put_first old bytes part size h e s = record {
  buffer = rw (e, s) (sym (laid_first old bytes h));
  place = omega arith;
  fits = omega arith;
}

module _ {old new bytes : List ℕ} {next : ℕ} (p : Put old 0 bytes new next) where
  count : next ≡ length bytes
  count = omega (arith, p.place)

  whole : new ≡ bytes ++ drop (length bytes) old
  whole = p.buffer ∙ laid_first old bytes (omega (arith, p.fits, p.place))

  -- the bytes are what the buffer begins with, and the rest is as it was
  pub put-take : take next new ≡ bytes
  put-take = rw whole (take_at bytes (drop (length bytes) old) next (sym count))

  pub put-drop : drop next new ≡ drop next old
  put-drop = rw whole (drop_at bytes (drop (length bytes) old) next (sym count) ∙ ap (λ (n : ℕ). drop n old) (sym count))

pub ruleset started = (put-counts, put-take, put-drop)
