-- Sets that a loop joins, one after the other.
-- Assumes nothing.
use Prim.Native.Nat.{ℕ, ◌+◌}
use mathlib.Core.Bool.{Bool, false, ◌||◌}
use mathlib.Core.List.{List}
use mathlib.Core.Path.{◌≡◌, refl, sym, ap, ◌∙◌}
use Rattle.folds.specs.Folds.{any_to}
use Rattle.folds.proofs.Folds.{any_to-none}
use Rattle.folds.proofs.Loops.{any_to-turn}
use Rattle.bitset.specs.Bits.{member, words_of}
use Rattle.bitset.proofs.Sets.{words_of-cong, member-words_of}

module _ (f : ℕ → ℕ → Bool) where
  pub joined-none : words_of 8 (λ s. false) ≡ words_of 8 (λ s. any_to (λ i. f i s) 0)
  joined-none = words_of-cong 8 _ _ (λ s h. sym (any_to-none (λ i. f i s)))

  -- one set more
  pub joined-turn : (r : ℕ) (set : List ℕ) → set ≡ words_of 8 (λ s. any_to (λ i. f i s) r)
      → words_of 8 (λ s. member set s || f r s) ≡ words_of 8 (λ s. any_to (λ i. f i s) (r + 1))
  joined-turn r set e =
      words_of-cong 8 _ _ (λ s h. any_to-turn (λ i. f i s) r (ap (λ (w : List ℕ). member w s) e ∙ member-words_of 8 _ s h) refl)
