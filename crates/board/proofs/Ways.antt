-- The ways of the caches: 1 .. 8.
-- Assumes nothing.
use Prim.Native.Nat.{ℕ, ◌≤◌, ◌<◌}
use mathlib.Core.Bool.{true, false, true≢false}
use mathlib.Core.List.{List}
use mathlib.Core.Logic.{inl, inr}
use mathlib.Core.Path.{◌≡◌, sym, ◌∙◌}
use native.Mathlib.Omega.{arith}
use borrow.Author.Tests.{ne_eqb}
use lib.Dec.{eqb}
use Rattle.folds.proofs.Numbers.{le-or-lt}
use Rattle.board.specs.Layout as at
use Rattle.board.specs.Layout.{word, is_ways}
use Rattle.board.specs.Sound.{Between, Sound}

module _ (x : ℕ) where
  differs : (k : ℕ) → k < x → eqb x k ≡ false
  differs k l = ne_eqb x k (λ (e : x ≡ k). omega arith)

  none_above : 8 < x → is_ways x ≡ false
  none_above l =
      rw (differs 0 (omega arith), differs 1 (omega arith), differs 2 (omega arith), differs 4 (omega arith), differs 8 l)

  pub ways-few : is_ways x ≡ true → x ≤ 8
  ways-few e = elim (le-or-lt x 8) [ inl few ↦ few | inr l ↦ absurd (true≢false (sym e ∙ none_above l)) ]

-- without a cache they are 1
pub ways-range : (b : List ℕ) → Sound b → Between 1 8 (at.ways b)
ways-range b s = elim (le-or-lt 2 (at.memory b)) [
  | inl m ↦ let few = ways-few (word b 15) (s.ways m) in (omega arith, omega arith)
  | inr n ↦ let none = s.no_ways n in (omega arith, omega arith)
]
