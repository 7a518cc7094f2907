-- What one more store does, and a list that was filled.
-- Assumes nothing.
use Prim.Native.Nat.{ℕ, ◌+◌, ◌-◌, ◌≤◌, ◌<◌}
use mathlib.Core.List.{List}
use mathlib.Core.Logic.{⊎_elim}
use mathlib.Core.Path.{◌≡◌, refl, sym, ap, subst, ◌∙◌}
use native.Mathlib.Nat.{le_antisymm, zero-add}
use native.Mathlib.Omega.{arith}
use lib.ListN.{length, get_or, take, set, length-set}
use lib.Seq.{get_or-set_same, get_or-set_other, length-take-le, get_or-take, ext_get_or}
use Rattle.folds.specs.Folds.{fill_to}
use Rattle.folds.proofs.Lists.{length-fill_to, fill_to-below, fill_to-from}
use Rattle.folds.proofs.Numbers.{le-or-lt, below_suc}
use Rattle.folds.specs.Stored.{Stored}

module _ (f : ℕ → ℕ) (at : ℕ) (w : List ℕ) where
  pub stored-none : Stored f at 0 w w
  stored-none = record { size = refl; part = λ k h. absurd (omega arith); before = λ p h. refl; after = λ p h. refl }

  pub stored_next : {n v : ℕ} {w' : List ℕ} → Stored f at n w w' → at + n < length w → v ≡ f n → Stored f at (n + 1) w (set w' (at + n) v)
  stored_next {n} {v} {w'} so_far room e =
      record {
        size = length-set w' (at + n) v ∙ so_far.size;
        part = λ k h.
            below_suc (λ j. get_or (set w' (at + n) v) (at + j) 0 ≡ f j) n
            (λ j l. get_or-set_other w' (at + n) (at + j) v 0 (λ same. omega arith) ∙ so_far.part j l)
            (get_or-set_same w' (at + n) v 0 (omega (arith, so_far.size)) ∙ e)
            k (omega arith);
        before = λ p h. get_or-set_other w' (at + n) p v 0 (λ same. omega arith) ∙ so_far.before p h;
        after = λ p h. get_or-set_other w' (at + n) p v 0 (λ same. omega arith) ∙ so_far.after p (omega arith);
      }

  pub stored-all : {k n : ℕ} {w' : List ℕ} → Stored f at k w w' → k ≤ n → n ≤ k → Stored f at n w w'
  stored-all {k} {n} {w'} so_far p q = subst (λ (m : ℕ). Stored f at m w w') (le_antisymm p q) so_far

-- one run of stores after another
module _ (f : ℕ → ℕ) (at : ℕ) where
  pub stored_more : {n m : ℕ} {w w' w'' : List ℕ} → Stored f at n w w' → Stored (λ k. f (n + k)) (at + n) m w' w'' → Stored f at (n + m) w w''
  stored_more {n} {m} {w} {w'} {w''} first second = record {
    size = second.size ∙ first.size;
    part = λ k h.
        ⊎_elim
        (λ (l : n ≤ k). let e : n + (k - n) ≡ k = omega arith in
        subst (λ (j : ℕ). get_or w'' (at + j) 0 ≡ f j) e
        (ap (λ (p : ℕ). get_or w'' p 0) (let z : at + (n + (k - n)) ≡ at + n + (k - n) = omega arith in z) ∙ second.part (k - n) (omega arith)))
        (λ (l : k < n). second.before (at + k) (omega arith) ∙ first.part k l)
        (le-or-lt n k);
    before = λ p h. second.before p (omega arith) ∙ first.before p h;
    after = λ p h. second.after p (omega arith) ∙ first.after p (omega arith);
  }

-- the same words from the same place
pub stored_same : {f g : ℕ → ℕ} {at at' n : ℕ} {w w' : List ℕ} → at ≡ at' → ((k : ℕ) → k < n → f k ≡ g k) → Stored f at n w w' → Stored g at' n w w'
stored_same {f} {g} {at} {at'} {n} {w} {w'} e same stored =
    subst (λ (p : ℕ). Stored g p n w w') e
    (record { size = stored.size; part = λ k h. stored.part k h ∙ same k h; before = stored.before; after = stored.after })

-- a list that was filled from its start
pub filled-stored : {f : ℕ → ℕ} {n : ℕ} {w w' : List ℕ} → w' ≡ fill_to f n w → n ≤ length w → Stored f 0 n w w'
filled-stored {f} {n} {w} {w'} e room =
    rw e
    (record {
      size = length-fill_to f w n;
      part = λ k h. rw zero-add (fill_to-below f w 0 n k h (omega arith));
      before = λ k h. absurd (omega arith);
      after = λ k h. fill_to-from f w 0 n k (omega arith);
    })

-- the words before what was stored
pub take-before : {f : ℕ → ℕ} {at m n : ℕ} {w w' : List ℕ} → Stored f at m w w' → n ≤ at → n ≤ length w → take n w' ≡ take n w
take-before {n = n} {w = w} {w' = w'} stored low room =
    let size : length (take n w') ≡ n = length-take-le n w' (omega (arith, stored.size)) in
    ext_get_or 0 (take n w') (take n w) (size ∙ sym (length-take-le n w room))
    (λ i h.
    let below : i < n = omega arith in
    get_or-take n w' i 0 below ∙ stored.before i (omega arith) ∙ sym (get_or-take n w i 0 below))
