-- Laws of the sets evicted by each task, as records joined core by core.
-- Assumes nothing.
use Prim.Native.Nat.{ℕ, ◌+◌, ◌*◌, ◌≤◌}
use mathlib.Core.Bool.{Bool, ◌&&◌, ◌||◌, or-false}
use mathlib.Core.List.{List}
use mathlib.Core.Path.{◌≡◌, sym, ap, ◌∙◌}
use native.Mathlib.Omega.{arith}
use lib.ListN.{get_or, replicate, get_or-replicate}
use borrow.Author.Tests.{eq-eqb, ne_eqb}
use Rattle.folds.specs.Folds.{any_to}
use Rattle.folds.specs.Stored.{Stored}
use Rattle.folds.proofs.Folds.{any_to-next}
use Rattle.folds.proofs.Loops.{any_to-turn}
use Rattle.bitset.specs.Bits.{member, words_of}
use Rattle.bitset.specs.Records.{record_at}
use Rattle.bitset.proofs.Sets.{words_of-cong, member-words_of}
use Rattle.bitset.proofs.Buffers.{record-empty, records-next}
use Rattle.board.specs.Layout.{core}
use Rattle.figures.specs.Figures.{evicting}
use Rattle.figures.specs.Overhead.{evicted_by}
use Rattle.figures.specs.Rows.{on_core, Cores}
use Rattle.survey.proofs.Sets.{joined-none}

module _ (b : List ℕ) where
  pub cores-none : Cores b 0 (replicate 72 0)
  unfolding Cores
  cores-none x l = record-empty 8 (replicate 72 0) x (λ k h. get_or-replicate {A = ℕ} 72 (8 * x + k) 0 0 (omega arith)) ∙ joined-none (on_core b x)

  -- task j joined to its core
  pub joined-core : (j x : ℕ) (sets ecb : List ℕ) → Cores b j sets → x ≤ 8 → x ≡ core b j → ecb ≡ words_of 8 (evicting b j)
      → words_of 8 (λ s. member (record_at 8 sets x) s || member ecb s) ≡ words_of 8 (evicted_by b j)
  unfolding evicted_by Cores
  joined-core j x sets ecb all l e q =
      words_of-cong 8 _ _
      (λ s h. any_to-turn (λ h. on_core b x h s) j
      (ap (λ (w : List ℕ). member w s) (all x l) ∙ member-words_of 8 _ s h)
      (ap (λ (w : List ℕ). member w s) q ∙ member-words_of 8 _ s h ∙ ap (λ (t : Bool). t && evicting b j s) (sym (eq-eqb (core b j) x (sym e))))
      ∙ ap (λ (y : ℕ). any_to (λ h. on_core b y h s) (j + 1)) e)

  pub cores-next : (j x : ℕ) (sets sets' joined : List ℕ) → x ≡ core b j → joined ≡ words_of 8 (evicted_by b j)
      → Stored (λ k. get_or joined k 0) (8 * x) 8 sets sets' → Cores b j sets → Cores b (j + 1) sets'
  unfolding evicted_by Cores
  cores-next j x sets sets' joined e q stored all y h =
      records-next x stored (λ z s. any_to (λ h. on_core b z h s) (j + 1)) (q ∙ ap (λ (z : ℕ). words_of 8 (λ s. any_to (λ h. on_core b z h s) (j + 1))) (sym e)) y
      (λ n. all y h
      ∙ words_of-cong 8 _ _
      (λ s k. sym
      (any_to-next (λ h. on_core b y h s) j ∙ ap (λ (t : Bool). any_to (λ h. on_core b y h s) j || (t && evicting b j s)) (ne_eqb (core b j) y (λ r. n (sym (e ∙ r))))
      ∙ or-false (any_to (λ h. on_core b y h s) j))))
