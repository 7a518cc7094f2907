-- Over all sets: the useful blocks of the sets that pass a test are the useful blocks whose set passes it. Each block lies in one set, so that the count by
-- sets has it once.
-- Assumes nothing.
use Prim.Native.Nat.{ℕ, ◌<◌}
use mathlib.Core.Bool.{Bool, true, ◌&&◌}
use mathlib.Core.List.{List}
use mathlib.Core.Path.{◌≡◌, refl, sym, ap, ◌∙◌}
use borrow.Author.Tests.{eq-eqb, ne_eqb}
use lib.Dec.{eqb}
use Rattle.folds.specs.Folds.{only_if, sum_where, count_to}
use Rattle.folds.proofs.Numbers.{only_if-zero, only_if-and}
use Rattle.folds.proofs.Folds.{sum_to-cong, sum_to-swap, sum_to-one, only_if-sum}
use Rattle.lru_cache.specs.Recency.{among, useful_block, useful_in}
use Rattle.lru_cache.proofs.Useful.{useful-count}

module _ (place : ℕ → ℕ) (ways : ℕ) (past later : List ℕ) (n : ℕ) (small : (m : ℕ) → among m past ≡ true → m < n) where
  abbrev useful : ℕ → Bool
  useful = useful_block place ways past later

  pub all_blocks : (test : ℕ → Bool) (sets : ℕ) → ((m : ℕ) → m < n → place m < sets)
      → sum_where test (useful_in place ways past later) sets ≡ count_to (λ m. test (place m) && useful m) n
  unfolding count_to
  all_blocks test sets low =
      sum_to-cong _ _ sets (λ s h. ap (only_if (test s)) (useful-count place ways past later n small s) ∙ only_if-sum (test s) (λ m. only_if (eqb (place m) s && useful m) 1) n)
      ∙ sum_to-swap share sets n
      ∙ sum_to-cong _ _ n (λ m h. sum_to-one (λ s. share s m) sets (place m) (low m h) (λ s k ne. apart s m ne) ∙ own m)
    where
      -- what block m adds to set s
      share : ℕ → ℕ → ℕ
      share s m = only_if (test s) (only_if (eqb (place m) s && useful m) 1)

      apart : (s m : ℕ) → (s ≡ place m → ⊥) → share s m ≡ 0
      apart s m ne = ap (λ (t : Bool). only_if (test s) (only_if (t && useful m) 1)) (ne_eqb (place m) s (λ e. ne (sym e))) ∙ only_if-zero (test s) 0 refl

      own : (m : ℕ) → share (place m) m ≡ only_if (test (place m) && useful m) 1
      own m =
          ap (λ (t : Bool). only_if (test (place m)) (only_if (t && useful m) 1)) (eq-eqb (place m) (place m) refl) ∙ sym (only_if-and (test (place m)) (useful m) 1)
