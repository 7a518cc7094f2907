-- What a loop knows that fills a list from its start: one record and three laws. Then a list whose front was replaced.
-- Assumes nothing.
use Prim.Native.Nat.{ℕ, ◌+◌, ◌-◌, ◌≤◌, ◌<◌}
use mathlib.Core.List.{List, ◌++◌}
use mathlib.Core.Path.{◌≡◌, refl, sym, ap, ◌∙◌}
use native.Mathlib.Omega.{arith}
use lib.ListN.{length, get_or, take, drop, replicate, set, length-set, length-append, length-drop, length-replicate, get_or-replicate}
use lib.Seq.{length-take-le, get_or-take, get_or-drop, ext_get_or}
use Rattle.std.proofs.lemmas.List.{get_or_append_left, get_or-append_right}
use Rattle.folds.specs.Folds.{fill_to}
use Rattle.folds.proofs.Lists.{fill_to-none, length-fill_to, fill_to-below, fill_to-is}
use Rattle.folds.proofs.Loops.{fill_to-turn, at-end}

-- l is xs with f 0 .. f (k - 1) in its first k places, of n
pub record Filled (f : ℕ → ℕ) (n : ℕ) (xs l : List ℕ) (k : ℕ) : Type 0 where
  pub upto : k ≤ n
  pub size : length l ≡ length xs
  pub holds : l ≡ fill_to f k xs

module _ {f : ℕ → ℕ} {n : ℕ} {xs : List ℕ} where
  pub filled_none : Filled f n xs xs 0
  filled_none = record { upto = omega arith; size = refl; holds = sym (fill_to-none f xs) }

  module _ {l : List ℕ} {k : ℕ} (so_far : Filled f n xs l k) where
    pub filled_next : {v : ℕ} → k < n → v ≡ f k → Filled f n xs (set l k v) (k + 1)
    filled_next {v} h e = record {
      upto = omega arith;
      size = length-set l k v ∙ so_far.size;
      holds = fill_to-turn f xs k so_far.holds e;
    }

    pub filled-all : n ≤ k → l ≡ fill_to f n xs
    filled-all h = at-end (λ j. fill_to f j xs) so_far.holds so_far.upto h

-- the front of a list that was filled
pub take-filled : {f : ℕ → ℕ} {n : ℕ} {l : List ℕ} (xs front : List ℕ) → l ≡ fill_to f n xs → n ≤ length xs → length front ≡ n
    → ((i : ℕ) → i < n → get_or front i 0 ≡ f i) → take n l ≡ front
take-filled {f} {n} {l} xs front e room size all =
    let same : length l ≡ length xs = ap length e ∙ length-fill_to f xs n in
    let long : length (take n l) ≡ n = length-take-le n l (omega arith) in
    ext_get_or 0 (take n l) front (long ∙ sym size)
    (λ i h.
    let below : i < n = omega arith in
    get_or-take n l i 0 below ∙ ap (λ (w : List ℕ). get_or w i 0) e ∙ fill_to-below f xs 0 n i below (omega arith) ∙ sym (all i below))

-- a list whose front was replaced, by zeros or by the front of another list
pub front-filled : {f : ℕ → ℕ} {n : ℕ} (front xs : List ℕ) → length front ≡ n → n ≤ length xs → ((k : ℕ) → k < n → get_or front k 0 ≡ f k) → front ++ drop n xs ≡ fill_to f n xs
front-filled {f} {n} front xs size room all =
    fill_to-is f xs 0 n (front ++ drop n xs) (omega (arith, length-append front (drop n xs), length-drop n xs))
    (λ k h _. get_or_append_left front (drop n xs) 0 k (omega arith) ∙ all k h)
    (λ k h.
    let place : n + (k - n) ≡ k = omega arith in
    get_or-append_right front (drop n xs) n k 0 size h ∙ get_or-drop n xs (k - n) 0 ∙ ap (λ (j : ℕ). get_or xs j 0) place)

pub zeros-filled : (n : ℕ) {front : List ℕ} (xs : List ℕ) → n ≤ length xs → front ≡ replicate (length (take n xs)) 0 → front ++ drop n xs ≡ fill_to (λ k. 0) n xs
zeros-filled n {front} xs room cleared =
    let zeros : front ≡ replicate n 0 = cleared ∙ ap (λ (m : ℕ). replicate m 0) (length-take-le n xs room) in
    front-filled front xs (ap length zeros ∙ length-replicate {A = ℕ} n 0) room (λ k h. ap (λ (l : List ℕ). get_or l k 0) zeros ∙ get_or-replicate {A = ℕ} n k 0 0 h)

pub copied-filled : (n : ℕ) {front : List ℕ} (from xs : List ℕ) → n ≤ length from → n ≤ length xs → front ≡ take n from → front ++ drop n xs ≡ fill_to (λ k. get_or from k 0) n xs
copied-filled n {front} from xs long room copied =
    front-filled front xs (ap length copied ∙ length-take-le n from long) room (λ k h. ap (λ (l : List ℕ). get_or l k 0) copied ∙ get_or-take n from k 0 h)
