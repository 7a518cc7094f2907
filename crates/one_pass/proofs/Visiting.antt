-- Laws of one visit: the task has its next time, the others have theirs, and the tasks that are not due still have their next times.
-- Assumes nothing.
use Prim.Native.Nat.{ℕ, ◌≤◌, ◌<◌}
use mathlib.Core.Bool.{Bool, true, false, not, ◌&&◌, ◌||◌, false≢true}
use mathlib.Core.List.{List}
use mathlib.Core.Logic.{inl, ⊎_elim}
use mathlib.Core.Path.{◌≡◌, refl, sym, ap, subst, ◌∙◌}
use native.Mathlib.Decide.{ℕ_discrete}
use native.Mathlib.Nat.{le_refl, le_trans, eq-or-lt_of_le, add-zero}
use native.Mathlib.Omega.{arith}
use lib.Dec.{eqb}
use lib.ListN.{length, get_or, take, set, length-set}
use lib.Seq.{ext_get_or, get_or-take, length-take-le, get_or-set_same, get_or-set_other}
use borrow.Author.Tests.{ne_eqb}
use Rattle.folds.specs.Stored.{Stored}
use Rattle.folds.proofs.Stored.{stored-none, stored_next}
use Rattle.bitset.specs.Bits.{bit, word_of}
use Rattle.bitset.proofs.Words.{bit-word_of}
use Rattle.passes.specs.Passes.{capped, Capped}
use Rattle.passes.specs.Visits.{visit}
use Rattle.passes.proofs.Ascending.{Rising}
use Rattle.passes.proofs.Visits.{visit-raises, visit-rising}
use Rattle.scratch.specs.Scratch.{Prepared}
use Rattle.scratch.proofs.Prepared.{passable-kept, prepared-stored}
use Rattle.one_pass.specs.System.{system}
use Rattle.one_pass.proofs.Sums.{system-mono}
use Rattle.one_pass.specs.DueTasks.{Quiet, Reads, Joined}
use Rattle.one_pass.proofs.DueTasks.{neither, capped-reads}
use Rattle.one_pass.specs.Visiting.{Visitable, Visited}

-- ---- lists

-- the value that is there, stored again
set-again : (l : List ℕ) (i v : ℕ) → i < length l → get_or l i 0 ≡ v → set l i v ≡ l
set-again l i v room e =
    ext_get_or 0 (set l i v) l (length-set l i v)
    (λ k h. elim (ℕ_discrete k i) [ yes same ↦ rw same (get_or-set_same l i v 0 room ∙ sym e) | no other ↦ get_or-set_other l i k v 0 other ])

-- the front of a list with a value stored in it
take-set : (n : ℕ) (l : List ℕ) (i v : ℕ) → i < n → n ≤ length l → take n (set l i v) ≡ set (take n l) i v
take-set n l i v below room =
    let long : length (take n (set l i v)) ≡ n = length-take-le n (set l i v) (omega (arith, length-set l i v)) in
    let front : length (take n l) ≡ n = length-take-le n l room in
    ext_get_or 0 (take n (set l i v)) (set (take n l) i v) (long ∙ sym (length-set (take n l) i v ∙ front))
    (λ k h.
    let low : k < n = omega arith in
    get_or-take n (set l i v) k 0 low
    ∙ elim (ℕ_discrete k i) [
      | yes same ↦ rw same (get_or-set_same l i v 0 (omega arith) ∙ sym (get_or-set_same (take n l) i v 0 (omega arith)))
      | no other ↦ get_or-set_other l i k v 0 other ∙ sym (get_or-set_other (take n l) i k v 0 other ∙ get_or-take n l k 0 low)
    ])

-- nothing is changed
pub visited-nothing : (n : ℕ) (w : List ℕ) → Visited n (take n w) w w false
visited-nothing n w = record { size = refl; times = refl; raises = λ k h. le_refl _; still = λ _. refl; higher = λ no. absurd (false≢true no) }

-- ---- one visit, to task i

module _ {b : List ℕ} {n due : ℕ} {w : List ℕ} (ready : Visitable b n due w) where
  tasks : n ≡ (system b).count
  tasks = ready.startable.room.tasks

  room : n ≤ length w
  room = omega (arith, ready.startable.room.words)

  long : length (take n w) ≡ n
  long = length-take-le n w room

  rising : Rising (system b) (take n w)
  rising = record { size = long ∙ tasks; rises = λ i h. ready.rises i (rw tasks h) }

  module _ {i : ℕ} (task : i < n) where
    here : get_or (take n w) i 0 ≡ get_or w i 0
    here = get_or-take n w i 0 task

    -- its time is its next time already
    pub visited-none : get_or w i 0 ≡ capped (system b) (take n w) i → Visited n (visit (system b) (take n w) i) w w false
    visited-none e =
        subst (λ (R : List ℕ). Visited n R w w false) (sym (set-again (take n w) i (capped (system b) (take n w) i) (omega (arith, long)) (here ∙ e))) (visited-nothing n w)

    -- it is not due any more
    pub visitable-done : {due' : ℕ} → n ≤ 64 → due' ≡ word_of (λ t. not (eqb t i) && bit due t) 64 → get_or w i 0 ≡ capped (system b) (take n w) i → Visitable b n due' w
    visitable-done {due'} few made e = record { startable = ready.startable; prepared = ready.prepared; rises = ready.rises; quiet = quiet }
      where
        quiet : Quiet b n due' w
        quiet j h clear =
            elim (ℕ_discrete j i) [
              | yes same ↦ rw same e
              | no other ↦ ready.quiet j h
                  (ap (λ (t : Bool). not t && bit due j) (sym (ne_eqb j i other)) ∙ sym (bit-word_of 64 (λ t. not (eqb t i) && bit due t) j (omega arith)) ∙ ap (λ (v : ℕ). bit v j) (sym made) ∙ clear)
            ]

    -- it is another one
    module _ {next : ℕ} (time : next ≡ capped (system b) (take n w) i) (differ : get_or w i 0 ≡ next → ⊥) where
      abbrev new : List ℕ
      new = set w i next

      front : take n new ≡ visit (system b) (take n w) i
      front = take-set n w i next task room ∙ ap (set (take n w) i) time

      raised : (k : ℕ) → k < n → get_or (take n w) k 0 ≤ get_or (take n new) k 0
      raised k h = rw front (visit-raises (system b) (system-mono b) (take n w) rising i k (rw (← tasks) h))

      value : get_or (take n new) i 0 ≡ next
      value = get_or-take n new i 0 task ∙ get_or-set_same w i next 0 (omega (arith, room))

      other-time : (k : ℕ) → k < n → (k ≡ i → ⊥) → get_or (take n new) k 0 ≡ get_or (take n w) k 0
      other-time k h other = get_or-take n new k 0 h ∙ get_or-set_other w i k next 0 other ∙ sym (get_or-take n w k 0 h)

      stored_one : Visited n (visit (system b) (take n w) i) w new true
      stored_one =
          record {
            size = length-set w i next;
            times = front;
            raises = raised;
            still = λ no. absurd (false≢true (sym no));
            higher = λ _. (i, task, ⊎_elim (λ e. absurd (differ (sym here ∙ e ∙ value))) (λ (l : get_or (take n w) i 0 < get_or (take n new) i 0). l) (eq-or-lt_of_le (raised i task)));
          }

      new-capped : Capped (system b) (take n new)
      new-capped k h =
          elim (ℕ_discrete k i) [
            | yes same ↦ rw same (omega (arith, value, time))
            | no other ↦ omega (arith, other-time k (rw tasks h) other, ready.startable.capped k h)
          ]

      new-quiet : (due' : ℕ) → Joined b due i due' → Quiet b n due' new
      new-quiet due' joined k h clear =
          let kept = joined k (rw (← tasks) h) clear in
          get_or-set_other w i k next 0 (λ same. kept.1 (inl (sym same))) ∙ ready.quiet k h kept.0
          ∙ capped-reads b (take n w) (take n new) k (rw (← tasks) h)
          (λ j l reads. sym (other-time j (rw tasks l) (λ same. kept.1 (subst (Reads b k) same reads))))

      new-prepared : Prepared b n new
      new-prepared =
          prepared-stored ready.prepared
          (subst (λ (p : ℕ). Stored (λ k. next) i 1 w (set w p next)) (add-zero i)
          (stored_next (λ k. next) i w {n = 0} (stored-none (λ k. next) i w) (omega (arith, room)) refl)) (omega arith)

      visitable-moved : (due' : ℕ) → Joined b due i due' → Visitable b n due' new
      visitable-moved due' joined =
          record {
            startable = record { room = passable-kept ready.startable.room stored_one.size; capped = new-capped };
            prepared = new-prepared;
            rises = λ k h. rw front ((visit-rising (system b) (system-mono b) (take n w) rising i).rises k (rw (← tasks) h));
            quiet = new-quiet due' joined;
          }

      -- it is stored, and the tasks that read it are due
      pub visited-one : {stored : List ℕ} (due' : ℕ) → stored ≡ set w i next → Joined b due i due'
          → Visited n (visit (system b) (take n w) i) w stored true × Visitable b n due' stored
      visited-one due' e joined =
          subst (λ (v : List ℕ). Visited n (visit (system b) (take n w) i) w v true × Visitable b n due' v) (sym e) (stored_one, visitable-moved due' joined)

-- ---- visit after visit

-- what moved, by the scratch in the middle
pub visited-both : {n : ℕ} {R R' w w' w'' : List ℕ} {changed more : Bool} → Visited n R w w' changed → Visited n R' w' w'' more → Visited n R' w w'' (changed || more)
visited-both {n} {w = w} {w'} {w''} {changed} {more} first second =
    record {
      size = second.size ∙ first.size;
      times = second.times;
      raises = λ k h. le_trans (first.raises k h) (second.raises k h);
      still = λ e. let none = neither changed more e in second.still none.1 ∙ first.still none.0;
      higher = λ e. higher changed more refl refl e;
    }
  where
    higher : (s t : Bool) → changed ≡ s → more ≡ t → (s || t) ≡ true → (i : ℕ) × (i < n) × (get_or (take n w) i 0 < get_or (take n w'') i 0)
    higher true t p q e = let found = first.higher p in let l = found.2 in (found.0, found.1, omega (arith, second.raises found.0 found.1))
    higher false true p q e = let found = second.higher q in let l = found.2 in (found.0, found.1, omega (arith, first.raises found.0 found.1))
    higher false false p q e = absurd (false≢true e)
