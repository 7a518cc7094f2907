-- The converse of `sound`: a board that is `Sound` passes rows 1 to 9. So `Sound` says no more and no less than the table.
-- Assumes nothing.
use Prim.Native.Nat.{ℕ, zero, suc, ◌+◌, ◌*◌, ◌-◌, ◌/◌, ◌%◌, ◌≤◌, ◌<◌}
use mathlib.Core.Path.{◌≡◌, refl, sym, ap, subst, ◌∙◌}
use mathlib.Core.Bool.{Bool, true, false, cond, ◌&&◌}
use mathlib.Core.List.{List}
use lib.ListN.{length}
use native.Mathlib.Nat.{le_of_eq}
use native.Mathlib.Omega.{arith}
use borrow.Author.Tests.{le-leb, lt-ltb, eq-eqb, eqb-false, eqb-true, leb-true, leb-false}
use lib.Dec.{leb, eqb}
use Rattle.std.specs.Prelude.{Ok}
use Rattle.board.specs.Layout as at
use Rattle.board.specs.Layout.{word, kind_of, block_of}
use Rattle.board.specs.Sound.{Between, Sound}
use Rattle.ranges.specs.Ranges.{within, test_if, range_if, sets_or_held, header_ranges, header_ok, task_ranges, task_ok, length_ok, fetch_ok, work_ok}
use Rattle.ranges.proofs.Rows.{header_spare, task_row}
use Rattle.refusals.specs.Refusals.{first_bad, refuse_first, refusal_of}
use Rattle.refusals.specs.declared.Row.{Row}
use Rattle.refusals.specs.declared.Row.TheVariants.{BoardSize, HeaderWord, BoardLength, TaskWord, TraceSum, TraceLength, LengthSum, FetchedBlock, WorkWord}
use Rattle.refusals.proofs.Searches.{first_bad-pass, first_bad-none}
use Rattle.refusals.proofs.Sound.{WorkOk}
use Rattle.refusals.proofs.Verdicts.{refuse_unless-true, refuse_first-none}

-- ---- from facts to tests

pub within-is : (low high x : ℕ) → Between low high x → within low high x ≡ true
within-is low high x h = rw (le-leb low x h.0, le-leb x high h.1)

test_if-is : (t : Bool) (test : ℕ → Bool) (x : ℕ) → (t ≡ true → test x ≡ true) → (t ≡ false → x ≡ 0) → test_if t test x ≡ true
test_if-is true test x h n = h refl
test_if-is false test x h n = eq-eqb x 0 (n refl)

range_if-is : (t : Bool) (low high x : ℕ) → (t ≡ true → Between low high x) → (t ≡ false → x ≡ 0) → range_if t low high x ≡ true
range_if-is t low high x h n = test_if-is t (within low high) x (λ u. within-is low high x (h u)) n

sets_or_held-is : (cached held : Bool) (x : ℕ) → (cached ≡ true → Between 1 at.most_sets x) → (held ≡ true → x ≤ at.first_data_block)
    → (cached ≡ false → held ≡ false → x ≡ 0) → sets_or_held cached held x ≡ true
sets_or_held-is true held x s h n = within-is 1 at.most_sets x (s refl)
sets_or_held-is false held x s h n = range_if-is held 0 at.first_data_block x (λ t. (omega arith, h t)) (n refl)

no-memory : (m : ℕ) → m < 2 → (m ≡ 1 → ⊥) → m ≡ 0
no-memory m l h = omega arith

one-or-more : (n : ℕ) → (n ≡ 0 → ⊥) → 1 ≤ n
one-or-more n h = omega arith

work_ok-is : (w : ℕ) → kind_of w ≤ 2 → (kind_of w ≡ 0 → block_of w ≡ 0) → (1 ≤ kind_of w → at.first_data_block ≤ block_of w) → WorkOk w
work_ok-is w k x d = go (eqb (kind_of w) 0) refl
  where
    go : (t : Bool) → eqb (kind_of w) 0 ≡ t → cond t (eqb (block_of w) 0) (leb (kind_of w) 2 && leb at.first_data_block (block_of w)) ≡ true
    go true e = eq-eqb _ 0 (x (eqb-true _ 0 e))
    go false e = rw (le-leb (kind_of w) 2 k, le-leb at.first_data_block _ (d (one-or-more (kind_of w) (eqb-false _ 0 e))))

-- a part of `count` words from `from` on, each of which passes by its place in it
refuse_first-is : (row : Row) (test : ℕ → Bool) (from count : ℕ) → ((p : ℕ) → p < count → test (from + p) ≡ true)
    → refuse_first row test from (from + count) ≡ Ok tt
refuse_first-is row test from count all =
    refuse_first-none row test from (from + count)
    (le_of_eq (sym (first_bad-none test from (from + count) (omega arith) (λ i l u.
    let there : from + (i - from) ≡ i = omega arith in
    subst (λ (j : ℕ). test j ≡ true) there (all (i - from) (omega arith))))))

module _ (b : List ℕ) (s : Sound b) where
  -- word i of the header passes
  next : (i : ℕ) → i < 20 → header_ok b i ≡ true → first_bad (header_ok b) i 20 ≡ first_bad (header_ok b) (i + 1) 20
  next i l t = sym (first_bad-pass (header_ok b) i 20 l t)

  header : first_bad (header_ok b) 0 20 ≡ 20
  unfolding header_ok header_ranges
  header =
      next 0 (omega arith) (within-is 1 8 _ s.cores)
      ∙ next 1 (omega arith) (within-is 1 at.most_tasks _ s.tasks)
      ∙ next 2 (omega arith) (within-is 1 512 _ s.traces)
      ∙ next 3 (omega arith) (within-is 1 8192 _ s.instructions)
      ∙ next 4 (omega arith) (within-is 0 3 _ (omega arith, s.memory))
      ∙ next 5 (omega arith) (within-is 0 4 _ (omega arith, s.bus))
      ∙ next 6 (omega arith) (range_if-is _ 1 8 _ (λ t. s.slots (leb-true 3 _ t)) (λ t. s.no_slots (leb-false 3 _ t)))
      ∙ next 7 (omega arith) (within-is 1 255 _ s.access)
      ∙ next 8 (omega arith) (within-is 0 2 _ (omega arith, s.refresh))
      ∙ next 9 (omega arith) (range_if-is _ 1 at.longest _ (λ t. s.interval (leb-true 1 _ t)) (λ t. (s.no_refresh (leb-false 1 _ t)).0))
      ∙ next 10 (omega arith) (range_if-is _ 1 at.most_refresh_rows _ (λ t. s.rows (leb-true 1 _ t)) (λ t. (s.no_refresh (leb-false 1 _ t)).1))
      ∙ next 11 (omega arith) (range_if-is _ 0 255 _ (λ t. (omega arith, s.refresh_cycles)) (λ t. (s.no_refresh (leb-false 1 _ t)).2))
      ∙ next 12 (omega arith) (le-leb 1 _ s.limit)
      ∙ next 13 (omega arith) (sets_or_held-is (leb 2 (at.memory b)) (eqb (at.memory b) 1) _
      (λ t. s.sets (leb-true 2 _ t)) (λ t. s.held (eqb-true _ 1 t)) (λ t u. s.no_memory (no-memory _ (leb-false 2 _ t) (eqb-false _ 1 u))))
      ∙ next 14 (omega arith) (sets_or_held-is (eqb (at.memory b) 3) (eqb (at.memory b) 1) _
      (λ t. s.data_sets (eqb-true _ 3 t)) (λ t. s.held_data) (λ t u. s.no_data (eqb-false _ 1 u) (eqb-false _ 3 t)))
      ∙ next 15 (omega arith) (test_if-is (leb 2 (at.memory b)) at.is_ways _ (λ t. s.ways (leb-true 2 _ t)) (λ t. s.no_ways (leb-false 2 _ t)))
      ∙ next 16 (omega arith) (range_if-is _ 0 at.most_put_off _ (λ t. (omega arith, s.put_off)) (λ t. s.no_put_off (eqb-false _ 2 t)))
      ∙ first_bad-none (header_ok b) 17 20 (omega arith) (λ i l u. sym (header_spare b i l) ∙ eq-eqb _ 0 (s.spare i l u))

  task : (k f : ℕ) → k < at.tasks b → f < 5 → task_ok b (20 + 5 * k + f) ≡ true
  unfolding task_ranges
  task k zero l u = sym (task_row b (20 + 5 * k + 0) {k = 0} (omega arith)) ∙ within-is 1 _ _ (s.core k l)
  task k (suc zero) l u = sym (task_row b (20 + 5 * k + 1) {k = 1} (omega arith)) ∙ within-is 1 at.longest _ (s.period k l)
  task k (suc (suc zero)) l u =
      let before : 20 + 5 * k + 2 - 1 ≡ 20 + 5 * k + 1 = omega arith in
      sym (task_row b (20 + 5 * k + 2) {k = 2} (omega arith))
      ∙ ap (λ (i : ℕ). within 1 (word b i) (at.deadline b k)) before
      ∙ within-is 1 _ _ (s.deadline k l)
  task k (suc (suc (suc zero))) l u = sym (task_row b (20 + 5 * k + 3) {k = 3} (omega arith)) ∙ within-is 1 8 _ (s.trace_count k l)
  task k (suc (suc (suc (suc zero)))) l u =
      let before : 20 + 5 * k + 4 - 2 ≡ 20 + 5 * k + 2 = omega arith in
      sym (task_row b (20 + 5 * k + 4) {k = 4} (omega arith))
      ∙ ap (λ (i : ℕ). within 0 (word b i) (at.jitter b k)) before
      ∙ within-is 0 _ _ (omega arith, s.jitter k l)
  task k (suc (suc (suc (suc (suc f))))) l u = absurd (omega arith)

  task-word : (p : ℕ) → p < 5 * at.tasks b → task_ok b (20 + p) ≡ true
  task-word p l =
      let there : 20 + 5 * (p / 5) + p % 5 ≡ 20 + p = omega arith in
      subst (λ (j : ℕ). task_ok b j ≡ true) there (task (p / 5) (p % 5) (omega arith) (omega arith))

  work : (p : ℕ) → p < at.instructions b → work_ok b (at.works_at b + p) ≡ true
  unfolding work_ok
  work p l = work_ok-is (word b (at.works_at b + p)) (s.kind p l) (s.execute p l) (s.data_block p l)

  pub passes : refusal_of b ≡ Ok tt
  unfolding refusal_of
  passes =
      rw (
        refuse_unless-true BoardSize (length b) (within-is 20 at.most_words (length b) (omega arith, s.small)),
        refuse_first-none HeaderWord (header_ok b) 0 20 (le_of_eq (sym header)),
        refuse_unless-true BoardLength (at.board_words b) (eq-eqb _ _ s.words),
        refuse_first-is TaskWord (task_ok b) 20 (5 * at.tasks b) task-word,
        refuse_unless-true TraceSum {test = eqb (at.first_trace b (at.tasks b)) (at.traces b)} 20 (eq-eqb _ _ s.trace_sum),
        refuse_first-is TraceLength (length_ok b) (at.lengths_at b) (at.traces b) (λ t l. within-is 1 1024 _ (s.trace_length t l)),
        refuse_unless-true LengthSum {test = eqb (at.first_instruction b (at.traces b)) (at.instructions b)} (at.lengths_at b) (eq-eqb _ _ s.length_sum),
        refuse_first-is FetchedBlock (fetch_ok b) (at.fetches_at b) (at.instructions b) (λ p l. lt-ltb _ at.first_data_block (s.fetch p l)),
        refuse_first-is WorkWord (work_ok b) (at.works_at b) (at.instructions b) work,
      )
