-- A set in which no block lies: nothing is held or useful in it, and no block of a list lies in it.
-- Assumes nothing.
use Prim.Native.Nat.{ℕ, zero, suc}
use mathlib.Core.Bool.{Bool, false, ◌||◌}
use mathlib.Core.List.{List, [], ◌∷◌}
use mathlib.Core.Path.{◌≡◌, refl, ap, ◌∙◌}
use borrow.Author.Tests.{ne_eqb}
use lib.ListN.{take}
use Rattle.lru_cache.specs.Recency.{some_in, recent, next_hits, useful_in, count_in}
use Rattle.lru_cache.proofs.Recent.{recent-none, recent-other}

module _ (place : ℕ → ℕ) (s : ℕ) (nowhere : (m : ℕ) → place m ≡ s → ⊥) where
  recent-nowhere : (past : List ℕ) → recent place s past ≡ []
  recent-nowhere [] = recent-none place s
  recent-nowhere (m ∷ past) = recent-other place s m past (nowhere m) ∙ recent-nowhere past

  pub useful-nowhere : (ways : ℕ) (past later : List ℕ) → useful_in place ways past later s ≡ 0
  unfolding useful_in count_in
  useful-nowhere ways past later =
      ap (λ (ms : List ℕ). count_in (next_hits place ways past later) (take ways ms)) (recent-nowhere past) ∙ go ways
    where
      go : (k : ℕ) → count_in (next_hits place ways past later) (take k []) ≡ 0
      go zero = refl
      go (suc k) = refl

  pub some_in-nowhere : (ms : List ℕ) → some_in place s ms ≡ false
  unfolding some_in
  some_in-nowhere [] = refl
  some_in-nowhere (m ∷ ms) = ap (λ (t : Bool). t || some_in place s ms) (ne_eqb (place m) s (nowhere m)) ∙ some_in-nowhere ms
