-- What the marks of a trace say of its useful blocks.
-- Assumes nothing.
use Prim.Native.Nat.{ℕ, ◌+◌, ◌-◌, ◌*◌, ◌≤◌, ◌<◌}
use mathlib.Core.Bool.{Bool, not}
use mathlib.Core.List.{List}
use mathlib.Core.Logic.{◌⊎◌, inl, inr}
use mathlib.Core.Path.{◌≡◌, sym, ap, ◌∙◌}
use native.Mathlib.Numerals.{add-one}
use native.Mathlib.Omega.{arith}
use lib.Dec.{eqb}
use lib.ListN.{get_or}
use Rattle.folds.specs.Folds.{only_if, sum_where, max_to}
use Rattle.folds.proofs.Numbers.{only_if-bound, le-or-lt}
use Rattle.folds.proofs.Folds.{sum_to-cong, max_to-cong}
use Rattle.board.specs.Layout.{memory, cache_count, ways}
use Rattle.board.specs.Sound.{Sound}
use Rattle.counts.specs.Planes.{sets_of}
use Rattle.counts.specs.Turns.{takes}
use Rattle.lru_cache.specs.Positions.{load_set, position_hits, position_kept, useful_before}
use Rattle.lru_cache.proofs.Positions.{useful-start, useful-few}
use Rattle.entries.specs.Marks.{mark_of, Marked}
use Rattle.entries.proofs.Counting.{mark-turn}
use Rattle.trace.specs.Cache.{place_of}
use Rattle.trace.specs.Traces.{Trace, useful, useful_at, most_useful}
use Rattle.trace.specs.Positions.{load_at}
use Rattle.trace.proofs.Caches.{place-low, place-low-one}
use Rattle.trace.proofs.Sets.{useful_at-places, useful_at-one-cache, useful-position}
use Rattle.scan.specs.Levels.{Turning, at_point, Levels}

module _ (c : ℕ) (place : ℕ → ℕ) (ways : ℕ) (l : ℕ → ℕ) (low : (m : ℕ) → place m < sets_of c) where
  mark-small : (n e : ℕ) → mark_of place ways l n e < 1024 * c
  unfolding mark_of
  mark-small n e =
      omega (
        arith,
        low 0,
        only_if-bound (not (eqb (l e) 0)) {a = 4 * load_set place (l e)} {m = 1024 * c - 4} (omega (arith, low (l e - 1))),
        only_if-bound (position_hits place ways l e) {a = 1} {m = 1} (omega arith),
        only_if-bound (position_kept place ways l e (n - (e + 1))) {a = 1} {m = 1} (omega arith),
      )

  module _ (marks : List ℕ) (n : ℕ) (marked : Marked place ways l marks n) where
    pub marked-turning : Turning c (useful_before place ways l n) marks n
    marked-turning e s h k =
        sym (ap (λ (j : ℕ). useful_before place ways l n j s + takes (get_or marks e 0) s) (add-one e)) ∙ mark-turn place ways l n e s h (get_or marks e 0) (marked e h)

    pub marked-levels : Levels c marks n ways
    marked-levels = record {
      f = useful_before place ways l n;
      turning = marked-turning;
      first = λ s h. useful-start place ways l n s;
      few = useful-few place ways l n;
      small = λ e h. omega (arith, marked e h, mark-small n e);
    }

-- ---- a trace under c caches

module _ (t : Trace) (sound : Sound t.words) (c : ℕ) (known : c ≡ cache_count t.words) (some : 1 ≤ c) where
  -- the numbers before each position
  abbrev pub before : ℕ → ℕ → ℕ
  before = useful_before (place_of t.words) (ways t.words) (load_at t) (2 * t.len)

  cached : 2 ≤ memory t.words
  cached = omega (arith, known, some)

  -- memory 2 or memory 3
  one-or-two : ((c ≡ 1) × (memory t.words ≡ 2)) ⊎ (c ≡ 2)
  one-or-two = elim (le-or-lt c 1) [ inl one ↦ inl (omega arith, omega arith) | inr two ↦ inr (omega (arith, known, two, sound.memory)) ]

  pub place-few : (m : ℕ) → place_of t.words m < sets_of c
  place-few m = elim one-or-two [
    | inl e ↦ omega (arith, e.0, place-low-one t.words sound e.1 m)
    | inr e ↦ omega (arith, e, place-low t.words sound cached m)
  ]

  -- no useful block lies past the places of its caches
  useful-in : (test : ℕ → Bool) (p : ℕ) → sum_where test (useful t p) (sets_of c) ≡ useful_at t test p
  useful-in test p = elim one-or-two [
    | inl e ↦ ap (λ (c : ℕ). sum_where test (useful t p) (sets_of c)) e.0 ∙ sym (useful_at-one-cache t sound e.1 test p)
    | inr e ↦ ap (λ (c : ℕ). sum_where test (useful t p) (sets_of c)) e ∙ sym (useful_at-places t test p)
  ]

  pub most-useful : (test : ℕ → Bool) → max_to (at_point c before test) t.len ≡ most_useful t test
  unfolding most_useful
  most-useful test =
      max_to-cong (at_point c before test) (useful_at t test) t.len
      (λ p h. sum_to-cong _ _ (sets_of c) (λ s k. ap (only_if (test s)) (sym (useful-position t cached p s (omega arith)))) ∙ useful-in test p)
