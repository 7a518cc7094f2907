-- Laws of loads position by position: what one position more does to the misses and to the useful blocks of a set.
-- Assumes nothing.
use Prim.Native.Nat.{ℕ, zero, suc, ◌+◌, ◌-◌, ◌≤◌, ◌<◌}
use mathlib.Core.Bool.{Bool, not, ◌&&◌}
use mathlib.Core.List.{List, [], ◌++◌, append_assoc, reverse, reverse-append}
use mathlib.Core.Path.{◌≡◌, refl, sym, ap, ap₂, ◌∙◌}
use native.Mathlib.Nat.{add-zero}
use native.Mathlib.Numerals.{add-one}
use native.Mathlib.Omega.{arith}
use lib.Dec.{eqb, eqb-suc-zero}
use Rattle.folds.specs.Folds.{only_if, count_to}
use Rattle.folds.proofs.Folds.{count_to-none, count_to-next}
use Rattle.lru_cache.specs.Recency.{hits, miss_count, next_hits, useful_in}
use Rattle.lru_cache.specs.Positions.{with_load, before, next_loads, loads_into, position_hits, position_misses, position_kept, useful_before}
use Rattle.lru_cache.proofs.Useful.{useful-turn, useful-first, useful-bound}

module _ (l : ℕ → ℕ) where
  pub before-none : before l 0 ≡ []
  unfolding before
  before-none = refl

  pub before-next : (e : ℕ) → before l (e + 1) ≡ with_load (l e) (before l e)
  unfolding before
  before-next e = ap (before l) (add-one e)

  pub next_loads-none : (e : ℕ) → next_loads l e 0 ≡ []
  unfolding next_loads
  next_loads-none e = refl

  -- in a run of n positions
  pub next_loads-next : (n e : ℕ) → e < n → next_loads l e (n - e) ≡ with_load (l e) (next_loads l (e + 1) (n - (e + 1)))
  unfolding next_loads
  next_loads-next n e h =
      let z : n - e ≡ suc (n - (e + 1)) = omega arith in
      ap (next_loads l e) z ∙ ap (λ (k : ℕ). with_load (l e) (next_loads l k (n - (e + 1)))) (sym (add-one e))

  pub next_loads-end : (n : ℕ) → next_loads l n (n - n) ≡ []
  next_loads-end n = let z : n - n ≡ 0 = omega arith in ap (next_loads l n) z ∙ next_loads-none n

module _ (place : ℕ → ℕ) (ways : ℕ) (l : ℕ → ℕ) where
  -- ---- useful blocks

  module _ (n e s : ℕ) (h : e < n) where
    abbrev kept : Bool
    kept = position_kept place ways l e (n - (e + 1))

    -- a position takes from its set the block that it hits, and adds it again where its next load hits
    pub useful-position : useful_before place ways l n (e + 1) s + only_if (loads_into place s (l e) && position_hits place ways l e) 1
        ≡ useful_before place ways l n e s + only_if (loads_into place s (l e) && kept) 1
    unfolding useful_before position_hits position_kept
    useful-position =
        ap (λ (ms : List ℕ). useful_in place ways ms (next_loads l (e + 1) (n - (e + 1))) s + only_if (loads_into place s (l e) && (not (eqb (l e) 0) && hits place ways (before l e) (l e - 1))) 1) (before-next l e)
        ∙ go (l e) refl
        ∙ sym (ap₂ (λ (ms ms' : List ℕ). useful_in place ways (before l e) ms s + only_if (loads_into place s (l e) && (not (eqb (l e) 0) && next_hits place ways ms' (next_loads l (suc e) (n - (e + 1))) (l e - 1))) 1) (next_loads-next l n e h) (sym (ap (before l) (add-one e)) ∙ before-next l e)
        ∙ ap (λ (k : ℕ). useful_in place ways (before l e) (with_load (l e) (next_loads l (e + 1) (n - (e + 1)))) s + only_if (loads_into place s (l e) && (not (eqb (l e) 0) && next_hits place ways (with_load (l e) (before l e)) (next_loads l k (n - (e + 1))) (l e - 1))) 1) (sym (add-one e)))
      where
        go : (x : ℕ) → l e ≡ x
            → useful_in place ways (with_load x (before l e)) (next_loads l (e + 1) (n - (e + 1))) s + only_if (loads_into place s x && (not (eqb x 0) && hits place ways (before l e) (x - 1))) 1
            ≡ useful_in place ways (before l e) (with_load x (next_loads l (e + 1) (n - (e + 1)))) s + only_if (loads_into place s x && (not (eqb x 0) && next_hits place ways (with_load x (before l e)) (next_loads l (e + 1) (n - (e + 1))) (x - 1))) 1
        go zero q = refl
        go (suc m) q =
            let less : suc m - 1 ≡ m = omega arith in
            rw (eqb-suc-zero m, less) (useful-turn place ways (before l e) (next_loads l (e + 1) (n - (e + 1))) m s)

  pub useful-start : (n s : ℕ) → useful_before place ways l n 0 s ≡ 0
  unfolding useful_before
  useful-start n s = ap (λ (ms : List ℕ). useful_in place ways ms (next_loads l 0 (n - 0)) s) (before-none l) ∙ useful-first place ways (next_loads l 0 (n - 0)) s

  pub useful-few : (n e s : ℕ) → useful_before place ways l n e s ≤ ways
  unfolding useful_before
  useful-few n e s = useful-bound place ways (before l e) (next_loads l e (n - e)) s

  -- ---- misses

  miss-step : (e : ℕ) (later : List ℕ)
      → miss_count place ways (before l e) (with_load (l e) later) ≡ only_if (position_misses place ways l e) 1 + miss_count place ways (with_load (l e) (before l e)) later
  unfolding position_misses miss_count
  miss-step e later = go (l e)
    where
      go : (x : ℕ) → miss_count place ways (before l e) (with_load x later)
          ≡ only_if (not (eqb x 0) && not (hits place ways (before l e) (x - 1))) 1 + miss_count place ways (with_load x (before l e)) later
      go zero = omega arith
      go (suc m) = let less : suc m - 1 ≡ m = omega arith in rw (eqb-suc-zero m, less)

  misses-left : (n e : ℕ) → e ≤ n → count_to (position_misses place ways l) e + miss_count place ways (before l e) (next_loads l e (n - e)) ≡ miss_count place ways [] (next_loads l 0 n)
  misses-left n zero h = omega (arith, count_to-none (position_misses place ways l), ap₂ (λ (ms : List ℕ) (k : ℕ). miss_count place ways ms (next_loads l 0 k)) (before-none l) whole)
    where
      whole : n - 0 ≡ n
      whole = omega arith
  misses-left n (suc e) h =
      let next : e + 1 ≡ suc e = add-one e in
      let less : e < n = omega arith in
      omega (
        arith,
        misses-left n e (omega arith),
        ap (count_to (position_misses place ways l)) (sym next) ∙ count_to-next (position_misses place ways l) e,
        ap (λ (ms : List ℕ). miss_count place ways (before l e) ms) (next_loads-next l n e less) ∙ miss-step e (next_loads l (e + 1) (n - (e + 1))),
        ap₂ (λ (ms : List ℕ) (k : ℕ). miss_count place ways ms (next_loads l k (n - k))) (sym (ap (before l) (sym next) ∙ before-next l e)) next,
      )

  -- the misses of n positions are those of the loads in them
  pub misses-positions : (n : ℕ) → count_to (position_misses place ways l) n ≡ miss_count place ways [] (next_loads l 0 n)
  unfolding miss_count
  misses-positions n = omega (arith, misses-left n n (omega arith), ap (miss_count place ways (before l n)) (next_loads-end l n))

-- ---- the loads before a position are those from the first on, backwards

with_load-list : (x : ℕ) (ms : List ℕ) → with_load x ms ≡ with_load x [] ++ ms
with_load-list zero ms = refl
with_load-list (suc m) ms = refl

reverse-position : (x : ℕ) → reverse (with_load x []) ≡ with_load x []
reverse-position zero = refl
reverse-position (suc m) = refl

next_loads-last : (l : ℕ → ℕ) (e k : ℕ) → next_loads l e (suc k) ≡ next_loads l e k ++ with_load (l (e + k)) []
unfolding next_loads
next_loads-last l e zero = ap (λ (j : ℕ). with_load (l j) []) (sym (add-zero e))
next_loads-last l e (suc k) =
    let next : suc e + k ≡ e + suc k = omega arith in
    with_load-list (l e) (next_loads l (suc e) (suc k))
    ∙ ap (λ (ms : List ℕ). with_load (l e) [] ++ ms) (next_loads-last l (suc e) k)
    ∙ sym (append_assoc (with_load (l e) []) (next_loads l (suc e) k) (with_load (l (suc e + k)) []))
    ∙ ap₂ (λ (ms : List ℕ) (j : ℕ). ms ++ with_load (l j) []) (sym (with_load-list (l e) (next_loads l (suc e) k))) next

pub before-is : (l : ℕ → ℕ) (e : ℕ) → before l e ≡ reverse (next_loads l 0 e)
unfolding before next_loads
before-is l zero = refl
before-is l (suc e) =
    let here : 0 + e ≡ e = omega arith in
    with_load-list (l e) (before l e)
    ∙ ap₂ (λ (ms ms' : List ℕ). ms ++ ms') (sym (reverse-position (l e))) (before-is l e)
    ∙ sym (reverse-append (next_loads l 0 e) (with_load (l e) []))
    ∙ ap reverse (sym (next_loads-last l 0 e ∙ ap (λ (j : ℕ). next_loads l 0 e ++ with_load (l j) []) here))
