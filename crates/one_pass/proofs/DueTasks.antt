-- The tasks that are due: the words of the cores, what a changed time adds, and what a task that is not due has.
-- Assumes nothing.
use Prim.Native.Nat.{ℕ, ◌+◌, ◌-◌, ◌^◌, ◌≤◌, ◌<◌, min}
use mathlib.Core.Bool.{Bool, true, false, not, ◌&&◌, ◌||◌, or-false, false≢true}
use mathlib.Core.List.{List}
use mathlib.Core.Logic.{inl, inr, ⊎_elim}
use mathlib.Core.Path.{◌≡◌, refl, sym, ap, ◌∙◌}
use native.Mathlib.Decide.{ℕ_discrete}
use native.Mathlib.Omega.{arith}
use lib.Dec.{eqb, ltb}
use lib.ListN.{get_or, take, set, length-set, replicate, get_or-replicate}
use lib.Seq.{get_or-take, get_or-set_same, get_or-set_other}
use borrow.Author.Tests.{eq-eqb, ne_eqb, eqb-true, eqb-false, lt-ltb, le-ltb, not-false}
use Rattle.folds.specs.Folds.{fill_to}
use Rattle.folds.specs.Stored.{Stored}
use Rattle.folds.proofs.Numbers.{below_suc, le-or-lt, and_both}
use Rattle.board.specs.Layout.{tasks, bus, core}
use Rattle.bitset.specs.Bits.{bit, word_of}
use Rattle.bitset.proofs.Words.{bit-none, bit-all, bit-word_of, word_of-is, word_of-cong}
use Rattle.sums.specs.Links.{is_on}
use Rattle.sums.specs.Limits.{most_cores}
use Rattle.sums.specs.Sums.{bound}
use Rattle.sums.proofs.TimesRead.{task_sum-reads}
use Rattle.passes.specs.Passes.{capped}
use Rattle.passes.proofs.Ascending.{get_d-pass}
use Rattle.scratch.specs.Scratch.{Passable}
use Rattle.one_pass.specs.System.{system}
use Rattle.one_pass.specs.DueTasks.{OnCores, Quiet, Reads, Joined, Unchanged}
use Rattle.one_pass.proofs.Halves.{advanced, still}

-- two tests of which neither holds
pub neither : (s t : Bool) → (s || t) ≡ false → (s ≡ false) × (t ≡ false)
neither false t e = (refl, e)
neither true t e = absurd (false≢true (sym e))

-- ---- task i changed

module _ (b : List ℕ) (due i : ℕ) {own : ℕ} (mine : own ≡ word_of (λ t. eqb t i || bit due t) 64) (few : tasks b ≤ 64) where
  own-false : (j : ℕ) → j < tasks b → bit own j ≡ false → (eqb j i ≡ false) × (bit due j ≡ false)
  own-false j h e = neither (eqb j i) (bit due j) (sym (bit-word_of 64 (λ t. eqb t i || bit due t) j (omega arith)) ∙ ap (λ (w : ℕ). bit w j) (sym mine) ∙ e)

  -- another task, on the same core unless the bus is TDMA, does not read its time
  unread : (j : ℕ) → eqb j i ≡ false → (bus b < 4 → core b i ≡ core b j) → Reads b j i → ⊥
  unread j other same = ⊎_elim (λ e. eqb-false j i other (sym e)) (λ off. off.1 (same off.0))

  -- on TDMA
  pub joined-own : bus b ≡ 4 → Joined b due i own
  joined-own tdma j h e = let both = own-false j h e in (both.1, unread j both.0 (λ other. absurd (omega arith)))

  -- on another bus
  pub joined-off : {on r : ℕ} → on ≡ word_of (λ k. ltb k (tasks b) && is_on b (core b i) k) 64 → r ≡ word_of (λ t. bit own t || not (bit on t)) 64 → Joined b due i r
  joined-off {on} {r} cores made j h e =
      let test : ℕ → Bool = λ k. ltb k (tasks b) && is_on b (core b i) k in
      let split = neither (bit own j) (not (bit on j)) (sym (bit-word_of 64 (λ t. bit own t || not (bit on t)) j (omega arith)) ∙ ap (λ (w : ℕ). bit w j) (sym made) ∙ e) in
      let both = own-false j h split.0 in
      let same = sym (bit-word_of 64 test j (omega arith)) ∙ ap (λ (w : ℕ). bit w j) (sym cores) ∙ not-false (bit on j) split.1 in
      (both.1, unread j both.0 (λ _. sym (eqb-true (core b j) (core b i) (and_both (ltb j (tasks b)) (is_on b (core b i) j) same).1)))

-- ---- a pass of all tasks together

-- times that agree where a task reads them give it the same next time
pub capped-reads : (b R R' : List ℕ) (j : ℕ) → j < tasks b → ((k : ℕ) → k < tasks b → Reads b j k → get_or R k 0 ≡ get_or R' k 0)
    → capped (system b) R j ≡ capped (system b) R' j
capped-reads b R R' j task same =
    ap (λ (s : ℕ). min s (bound b j + 1)) (task_sum-reads b R R' j task (same j task (inl refl)) (λ some k h off. same k h (inr (some, off))))

-- before the first pass, every task is due
pub quiet_none : (b : List ℕ) {n : ℕ} (w : List ℕ) → n ≤ 64 → Quiet b n (2 ^ 64 - 1) w
quiet_none b w few i h clear = absurd (false≢true (sym clear ∙ bit-all i (omega arith)))

-- while the next times move to the front: the time of task m stays, or changes
module _ {b : List ℕ} {n : ℕ} {w : List ℕ} where
  pub unchanged-none : {due : ℕ} → Unchanged b n w due 0
  unchanged-none = record { read = λ j task clear k h reads. absurd (omega arith) }

  module _ {due m : ℕ} (so_far : Unchanged b n w due m) where
    pub unchanged-still : get_or w m 0 ≡ get_or w (n + m) 0 → Unchanged b n w due (m + 1)
    unchanged-still e =
        record {
          read = λ j task clear k h. below_suc (λ k. Reads b j k → get_or w k 0 ≡ get_or w (n + k) 0) m (so_far.read j task clear) (λ _. e) k (omega arith);
        }

    pub unchanged-joined : (due' : ℕ) → Joined b due m due' → Unchanged b n w due' (m + 1)
    unchanged-joined due' joined =
        record {
          read = λ j task clear k h.
              let kept = joined j task clear in
              below_suc (λ k. Reads b j k → get_or w k 0 ≡ get_or w (n + k) 0) m (so_far.read j task kept.0) (λ reads. absurd (kept.1 reads)) k (omega arith);
        }

-- after that
pub quiet_next : {b : List ℕ} {n : ℕ} {old new w : List ℕ} {due : ℕ} → Passable b n old → Stored (capped (system b) (take n old)) n n old new
    → w ≡ fill_to (λ k. get_or new (n + k) 0) n new → Unchanged b n new due n → Quiet b n due w
quiet_next {b} {n} {old} {new} {w} room made moved unchanged i h clear =
    let S = system b in
    let task : i < tasks b = omega (arith, room.tasks) in
    sym (get_or-take n w i 0 h)
    ∙ ap (λ (R : List ℕ). get_or R i 0) (advanced S room.tasks room.words made moved)
    ∙ get_d-pass S (take n old) i task
    ∙ capped-reads b (take n old) (take n w) i task
    (λ k l reads. let low : k < n = omega (arith, room.tasks) in still S room.tasks room.words made moved k low (unchanged.read i task clear k low reads))

-- ---- the words of the cores

-- the test of the tasks below k + 1: task k apart
test-more : (s : ℕ → Bool) (k t : ℕ) → ((eqb t k && s k) || (ltb t k && s t)) ≡ (ltb t (k + 1) && s t)
test-more s k t = elim (ℕ_discrete t k) [ yes same ↦ here same | no other ↦ ⊎_elim (high other) (low other) (le-or-lt k t) ]
  where
    here : t ≡ k → ((eqb t k && s k) || (ltb t k && s t)) ≡ (ltb t (k + 1) && s t)
    here e = rw (e, eq-eqb k k refl, le-ltb k k (omega arith), lt-ltb k (k + 1) (omega arith)) (or-false (s k))

    high : (t ≡ k → ⊥) → k ≤ t → ((eqb t k && s k) || (ltb t k && s t)) ≡ (ltb t (k + 1) && s t)
    high other h = let past : k + 1 ≤ t = omega arith in rw (ne_eqb t k other, le-ltb t k h, le-ltb t (k + 1) past) refl

    low : (t ≡ k → ⊥) → t < k → ((eqb t k && s k) || (ltb t k && s t)) ≡ (ltb t (k + 1) && s t)
    low other h = rw (ne_eqb t k other, lt-ltb t k h, lt-ltb t (k + 1) (omega arith)) refl

pub cores-none : (b : List ℕ) → OnCores b 0 (replicate most_cores 0)
cores-none b = record { size = refl; tasks = λ y h. get_or-replicate {A = ℕ} most_cores y 0 0 h ∙ word_of-is 64 0 _ (omega arith) (λ j l. bit-none j ∙ sym (rw (le-ltb j 0 (omega arith)) refl)) }

-- task k joins the word of its core
module _ (b : List ℕ) {k y v : ℕ} {l : List ℕ} (so_far : OnCores b k l) (few : k < 64) (here : y + 1 ≡ core b k) (room : y < most_cores)
    (made : v ≡ word_of (λ t. eqb t k || bit (get_or l y 0) t) 64) where
  -- of the core of task k, and of another
  joins : v ≡ word_of (λ t. ltb t (k + 1) && is_on b (y + 1) t) 64
  joins =
      made
      ∙ word_of-cong _ _ 64
      (λ t h.
      ap (λ (w : Bool). eqb t k || w) (ap (λ (w : ℕ). bit w t) (so_far.tasks y room) ∙ bit-word_of 64 _ t h)
      ∙ ap (λ (w : Bool). w || (ltb t k && is_on b (y + 1) t)) (sym (and-here (eqb t k)))
      ∙ test-more (is_on b (y + 1)) k t)
    where
      and-here : (s : Bool) → (s && is_on b (y + 1) k) ≡ s
      and-here true = eq-eqb (core b k) (y + 1) (sym here)
      and-here false = refl

  stays : (x : ℕ) → x < most_cores → (x ≡ y → ⊥) → get_or l x 0 ≡ word_of (λ t. ltb t (k + 1) && is_on b (x + 1) t) 64
  stays x h other =
      so_far.tasks x h
      ∙ word_of-cong _ _ 64
      (λ t l. ap (λ (w : Bool). w || (ltb t k && is_on b (x + 1) t)) (sym (and-off (eqb t k))) ∙ test-more (is_on b (x + 1)) k t)
    where
      and-off : (s : Bool) → (s && is_on b (x + 1) k) ≡ false
      and-off true = ne_eqb (core b k) (x + 1) (λ e. other (omega arith))
      and-off false = refl

  pub cores-more : OnCores b (k + 1) (set l y v)
  cores-more =
      record {
        size = length-set l y v ∙ so_far.size;
        tasks = λ x h.
            elim (ℕ_discrete x y) [
              | yes same ↦ rw same (get_or-set_same l y v 0 (omega (arith, so_far.size)) ∙ joins)
              | no other ↦ get_or-set_other l y x v 0 other ∙ stays x h other
            ];
      }
