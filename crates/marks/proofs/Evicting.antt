-- The places that a trace touches, as words to which the scan adds them.
-- Assumes nothing.
use Prim.Native.Nat.{ℕ, ◌+◌, ◌<◌}
use mathlib.Core.Bool.{Bool, ◌||◌, or_assoc}
use mathlib.Core.List.{List}
use mathlib.Core.Path.{◌≡◌, sym, ap, ◌∙◌}
use mir.Syntax.{w64}
use mir.Val.{Fits}
use lib.ListN.{length, get_or}
use Rattle.folds.specs.Folds.{any_to}
use Rattle.folds.proofs.Folds.{any_to-none, any_to-next}
use Rattle.bitset.specs.Bits.{member, words_of}
use Rattle.bitset.proofs.Sets.{words_of-cong, member-words_of}
use Rattle.marks.proofs.Touched.{join-none}

-- ---- words with f 0 .. f (n - 1) added, one after the other

module _ (f : ℕ → ℕ → Bool) (out : List ℕ) where
  abbrev pub added : ℕ → List ℕ
  added n = words_of 8 (λ s. member out s || any_to (λ i. f i s) n)

  pub added_none : length out ≡ 8 → ((k : ℕ) → Fits w64 (get_or out k 0)) → out ≡ added 0
  added_none eight fit = join-none out (λ s. any_to (λ i. f i s) 0) eight fit (λ s. any_to-none (λ i. f i s))

  -- f n is added in two parts
  pub added-turn : (out' out'' out''' : List ℕ) (n : ℕ) (g h : ℕ → Bool) → out' ≡ added n → out'' ≡ words_of 8 (λ s. member out' s || g s)
      → out''' ≡ words_of 8 (λ s. member out'' s || h s) → ((s : ℕ) → (g s || h s) ≡ f n s) → out''' ≡ added (n + 1)
  added-turn out' out'' out''' n g h so_far e e' parts = e' ∙ words_of-cong 8 _ _ step
    where
      order : (m r a b : Bool) → (((m || r) || a) || b) ≡ (m || (r || (a || b)))
      order m r a b = or_assoc (m || r) a b ∙ or_assoc m r (a || b)

      step : (s : ℕ) → s < 512 → (member out'' s || h s) ≡ (member out s || any_to (λ i. f i s) (n + 1))
      step s k =
          let first : member out' s ≡ (member out s || any_to (λ i. f i s) n) = ap (λ (w : List ℕ). member w s) so_far ∙ member-words_of 8 _ s k in
          let second : member out'' s ≡ (member out' s || g s) = ap (λ (w : List ℕ). member w s) e ∙ member-words_of 8 _ s k in
          ap (λ (u : Bool). u || h s) (second ∙ ap (λ (u : Bool). u || g s) first)
          ∙ order (member out s) (any_to (λ i. f i s) n) (g s) (h s)
          ∙ ap (λ (u : Bool). member out s || u) (ap (λ (u : Bool). any_to (λ i. f i s) n || u) (parts s) ∙ sym (any_to-next (λ i. f i s) n))
