-- A board that passes rows 1 to 9 is `Sound`.
-- Assumes nothing.
use Prim.Native.Nat.{ℕ, ◌+◌, ◌*◌, ◌-◌, ◌≤◌, ◌<◌}
use mathlib.Core.Path.{◌≡◌, refl, subst, ◌∙◌}
use mathlib.Core.Bool.{Bool, true, false, cond, ◌&&◌}
use mathlib.Core.List.{List}
use native.Mathlib.Omega.{arith}
use borrow.Author.Tests.{leb-true, ltb-true, eqb-true, eqb-false, eq-eqb, ne_eqb, le-leb, lt-leb}
use lib.Dec.{leb, eqb}
use lib.ListN.{length, get_or}
use Rattle.std.specs.Prelude.{Ok}
use Rattle.folds.proofs.Numbers.{and_both}
use Rattle.board.specs.Layout as at
use Rattle.board.specs.Layout.{word, board_words, kind_of, block_of}
use Rattle.board.specs.Sound.{Between, Sound}
use Rattle.ranges.specs.Ranges.{within, is_zero, test_if, range_if, sets_or_held, header_ranges, header_ok, task_ranges, task_ok, length_ok, fetch_ok, work_ok}
use Rattle.ranges.proofs.Rows.{header_spare, task_row}
use Rattle.refusals.specs.Refusals.{Verdict, refuse_unless, first_bad, refuse_first, ◌or_else◌, refusal_of}
use Rattle.refusals.specs.declared.Row.{Row}
use Rattle.refusals.specs.declared.Row.TheVariants.{BoardSize, HeaderWord, BoardLength, TaskWord, TraceSum, TraceLength, LengthSum, FetchedBlock, WorkWord}
use Rattle.refusals.proofs.Searches.{first_bad-all}
use Rattle.refusals.proofs.Verdicts.{or_else-passed, refuse_unless-passed}

-- from tests to facts
pub within-true : (low high x : ℕ) → within low high x ≡ true → Between low high x
within-true low high x e =
    let both = and_both (leb low x) (leb x high) e in
    (leb-true low x both.0, leb-true x high both.1)

module _ (t : Bool) (test : ℕ → Bool) (x : ℕ) where
  used-test : t ≡ true → test_if t test x ≡ true → test x ≡ true
  used-test u e = subst (λ (s : Bool). test_if s test x ≡ true) u e

  unused : t ≡ false → test_if t test x ≡ true → x ≡ 0
  unused u e = eqb-true x 0 (subst (λ (s : Bool). test_if s test x ≡ true) u e)

used : (t : Bool) (low high x : ℕ) → t ≡ true → range_if t low high x ≡ true → Between low high x
used t low high x u e = within-true low high x (used-test t (within low high) x u e)

bounded : (t : Bool) (high x : ℕ) → range_if t 0 high x ≡ true → x ≤ high
bounded true high x e = (within-true 0 high x e).1
bounded false high x e =
    let none : x ≡ 0 = eqb-true x 0 e in
    omega arith

-- words 13 and 14
module _ (cached held : Bool) (x : ℕ) where
  sets-in : cached ≡ true → sets_or_held cached held x ≡ true → Between 1 at.most_sets x
  sets-in u e = within-true 1 at.most_sets x (subst (λ (t : Bool). sets_or_held t held x ≡ true) u e)

  none_in : cached ≡ false → held ≡ false → sets_or_held cached held x ≡ true → x ≡ 0
  none_in u n e = unused held (within 0 at.first_data_block) x n (subst (λ (t : Bool). sets_or_held t held x ≡ true) u e)

held_in : (cached held : Bool) (x : ℕ) → sets_or_held cached held x ≡ true → x ≤ at.first_data_block
held_in true held x e = let few = within-true 1 at.most_sets x e in omega arith
held_in false held x e = bounded held at.first_data_block x e

abbrev pub WorkOk : ℕ → Type 0
WorkOk w = cond (eqb (kind_of w) 0) (eqb (block_of w) 0) (leb (kind_of w) 2 && leb at.first_data_block (block_of w)) ≡ true

work-true : (w : ℕ) → WorkOk w → (kind_of w ≤ 2) × (kind_of w ≡ 0 → block_of w ≡ 0) × (1 ≤ kind_of w → at.first_data_block ≤ block_of w)
work-true w e = go (eqb (kind_of w) 0) refl e
  where
    go : (t : Bool) → eqb (kind_of w) 0 ≡ t → cond t (eqb (block_of w) 0) (leb (kind_of w) 2 && leb at.first_data_block (block_of w)) ≡ true → (kind_of w ≤ 2) × (kind_of w ≡ 0 → block_of w ≡ 0) × (1 ≤ kind_of w → at.first_data_block ≤ block_of w)
    go true k f =
        let kind : kind_of w ≡ 0 = eqb-true _ 0 k in
        (omega arith, (λ _. eqb-true _ 0 f), λ h. absurd (omega arith))
    go false k f =
        let both = and_both (leb (kind_of w) 2) (leb at.first_data_block (block_of w)) f in
        (leb-true _ 2 both.0, (λ h. absurd (eqb-false _ 0 k h)), λ _. leb-true at.first_data_block _ both.1)

-- from rows that pass to tests
pub refuse_first-passed : (row : Row) (test : ℕ → Bool) (from end : ℕ) → refuse_first row test from end ≡ Ok tt
    → (i : ℕ) → from ≤ i → i < end → test i ≡ true
unfolding refuse_first
refuse_first-passed row test from end e i l u =
    first_bad-all test from end (leb-true end (first_bad test from end) (refuse_unless-passed row _ _ e)) i l u

nine : (r1 r2 r3 r4 r5 r6 r7 r8 r9 : Verdict) → (r1 or_else r2 or_else r3 or_else r4 or_else r5 or_else r6 or_else r7 or_else r8 or_else r9) ≡ Ok tt
    → (r1 ≡ Ok tt) × (r2 ≡ Ok tt) × (r3 ≡ Ok tt) × (r4 ≡ Ok tt) × (r5 ≡ Ok tt) × (r6 ≡ Ok tt) × (r7 ≡ Ok tt) × (r8 ≡ Ok tt) × (r9 ≡ Ok tt)
nine r1 r2 r3 r4 r5 r6 r7 r8 r9 e =
    let a = or_else-passed r1 (r2 or_else r3 or_else r4 or_else r5 or_else r6 or_else r7 or_else r8 or_else r9) e in
    let b = or_else-passed r2 (r3 or_else r4 or_else r5 or_else r6 or_else r7 or_else r8 or_else r9) a.1 in
    let c = or_else-passed r3 (r4 or_else r5 or_else r6 or_else r7 or_else r8 or_else r9) b.1 in
    let d = or_else-passed r4 (r5 or_else r6 or_else r7 or_else r8 or_else r9) c.1 in
    let f = or_else-passed r5 (r6 or_else r7 or_else r8 or_else r9) d.1 in
    let g = or_else-passed r6 (r7 or_else r8 or_else r9) f.1 in
    let h = or_else-passed r7 (r8 or_else r9) g.1 in
    let i = or_else-passed r8 r9 h.1 in
    (a.0, b.0, c.0, d.0, f.0, g.0, h.0, i.0, i.1)

module _ (b : List ℕ) (e : refusal_of b ≡ Ok tt) where
  rows :
      (refuse_unless BoardSize (within 20 at.most_words (length b)) (length b) ≡ Ok tt)
      × (refuse_first HeaderWord (header_ok b) 0 20 ≡ Ok tt)
      × (refuse_unless BoardLength (eqb (length b) (board_words b)) (board_words b) ≡ Ok tt)
      × (refuse_first TaskWord (task_ok b) 20 (at.lengths_at b) ≡ Ok tt)
      × (refuse_unless TraceSum (eqb (at.first_trace b (at.tasks b)) (at.traces b)) 20 ≡ Ok tt)
      × (refuse_first TraceLength (length_ok b) (at.lengths_at b) (at.fetches_at b) ≡ Ok tt)
      × (refuse_unless LengthSum (eqb (at.first_instruction b (at.traces b)) (at.instructions b)) (at.lengths_at b) ≡ Ok tt)
      × (refuse_first FetchedBlock (fetch_ok b) (at.fetches_at b) (at.works_at b) ≡ Ok tt)
      × (refuse_first WorkWord (work_ok b) (at.works_at b) (board_words b) ≡ Ok tt)
  unfolding refusal_of
  rows = nine _ _ _ _ _ _ _ _ _ e

  size : Between 20 at.most_words (length b)
  size = within-true 20 at.most_words (length b) (refuse_unless-passed BoardSize _ _ rows.0)

  -- word i of the header passes its test
  header : (i : ℕ) → i < 20 → header_ok b i ≡ true
  header i l = refuse_first-passed HeaderWord (header_ok b) 0 20 rows.1 i (omega arith) l

  spare-word : (i : ℕ) → 17 ≤ i → i < 20 → word b i ≡ 0
  spare-word i l u = eqb-true _ 0 (header_spare b i l ∙ header i u)

  -- field f of task k passes its test
  task : (k f : ℕ) → k < at.tasks b → f < 5 → task_ok b (20 + 5 * k + f) ≡ true
  task k f l u = refuse_first-passed TaskWord (task_ok b) 20 (at.lengths_at b) rows.3 (20 + 5 * k + f) (omega arith) (omega arith)

  field : (k f : ℕ) → k < at.tasks b → f < 5 → get_or (task_ranges b (20 + 5 * k + f)) f is_zero (word b (20 + 5 * k + f)) ≡ true
  field k f l u = task_row b (20 + 5 * k + f) (omega arith) ∙ task k f l u

  work : (p : ℕ) → p < at.instructions b → WorkOk (word b (at.works_at b + p))
  unfolding work_ok
  work p l = refuse_first-passed WorkWord (work_ok b) (at.works_at b) (board_words b) rows.8 (at.works_at b + p) (omega arith) (omega arith)

  pub sound : Sound b
  unfolding header_ok header_ranges task_ranges
  sound = record {
    small = size.1;
    words = eqb-true _ _ (refuse_unless-passed BoardLength _ _ rows.2);
    cores = within-true 1 8 _ (header 0 (omega arith));
    tasks = within-true 1 at.most_tasks _ (header 1 (omega arith));
    traces = within-true 1 512 _ (header 2 (omega arith));
    instructions = within-true 1 8192 _ (header 3 (omega arith));
    memory = (within-true 0 3 _ (header 4 (omega arith))).1;
    bus = (within-true 0 4 _ (header 5 (omega arith))).1;
    slots = λ h. used (leb 3 (at.bus b)) 1 8 _ (le-leb 3 _ h) (header 6 (omega arith));
    no_slots = λ h. unused (leb 3 (at.bus b)) (within 1 8) _ (lt-leb 3 _ h) (header 6 (omega arith));
    access = within-true 1 255 _ (header 7 (omega arith));
    refresh = (within-true 0 2 _ (header 8 (omega arith))).1;
    interval = λ h. used (leb 1 (at.refresh b)) 1 at.longest _ (le-leb 1 _ h) (header 9 (omega arith));
    rows = λ h. used (leb 1 (at.refresh b)) 1 at.most_refresh_rows _ (le-leb 1 _ h) (header 10 (omega arith));
    refresh_cycles = bounded (leb 1 (at.refresh b)) 255 _ (header 11 (omega arith));
    no_refresh = λ h. (
      unused (leb 1 (at.refresh b)) (within 1 at.longest) _ (lt-leb 1 _ h) (header 9 (omega arith)),
      unused (leb 1 (at.refresh b)) (within 1 at.most_refresh_rows) _ (lt-leb 1 _ h) (header 10 (omega arith)),
      unused (leb 1 (at.refresh b)) (within 0 255) _ (lt-leb 1 _ h) (header 11 (omega arith)),
    );
    limit = leb-true 1 _ (header 12 (omega arith));
    held = λ m. held_in (leb 2 (at.memory b)) (eqb (at.memory b) 1) (word b 13) (header 13 (omega arith));
    held_data = held_in (eqb (at.memory b) 3) (eqb (at.memory b) 1) (word b 14) (header 14 (omega arith));
    sets = λ m. sets-in (leb 2 (at.memory b)) (eqb (at.memory b) 1) (word b 13) (le-leb 2 _ m) (header 13 (omega arith));
    data_sets = λ m. sets-in (eqb (at.memory b) 3) (eqb (at.memory b) 1) (word b 14) (eq-eqb _ 3 m) (header 14 (omega arith));
    no_memory = λ m.
        none_in (leb 2 (at.memory b)) (eqb (at.memory b) 1) (word b 13)
        (lt-leb 2 (at.memory b) (omega arith)) (ne_eqb (at.memory b) 1 (λ (e : at.memory b ≡ 1). omega arith)) (header 13 (omega arith));
    no_data = λ h d. none_in (eqb (at.memory b) 3) (eqb (at.memory b) 1) (word b 14) (ne_eqb _ 3 d) (ne_eqb _ 1 h) (header 14 (omega arith));
    ways = λ m. used-test (leb 2 (at.memory b)) at.is_ways (word b 15) (le-leb 2 _ m) (header 15 (omega arith));
    no_ways = λ h. unused (leb 2 (at.memory b)) at.is_ways (word b 15) (lt-leb 2 _ h) (header 15 (omega arith));
    put_off = bounded (eqb (at.refresh b) 2) at.most_put_off _ (header 16 (omega arith));
    no_put_off = λ h. unused (eqb (at.refresh b) 2) (within 0 at.most_put_off) _ (ne_eqb _ 2 h) (header 16 (omega arith));
    spare = spare-word;
    core = λ k l. within-true 1 (at.cores b) _ (field k 0 l (omega arith));
    period = λ k l. within-true 1 at.longest _ (field k 1 l (omega arith));
    deadline = λ k l.
        let before : 20 + 5 * k + 2 - 1 ≡ 20 + 5 * k + 1 = omega arith in
        subst (λ (i : ℕ). Between 1 (word b i) (at.deadline b k)) before
        (within-true 1 _ _ (field k 2 l (omega arith)));
    trace_count = λ k l. within-true 1 8 _ (field k 3 l (omega arith));
    jitter = λ k l.
        let before : 20 + 5 * k + 4 - 2 ≡ 20 + 5 * k + 2 = omega arith in
        subst (λ (i : ℕ). at.jitter b k ≤ word b i) before (within-true 0 _ _ (field k 4 l (omega arith))).1;
    trace_sum = eqb-true _ _ (refuse_unless-passed TraceSum _ _ rows.4);
    trace_length = λ t l. within-true 1 1024 _ (refuse_first-passed TraceLength (length_ok b) (at.lengths_at b) (at.fetches_at b) rows.5 (at.lengths_at b + t) (omega arith) (omega arith));
    length_sum = eqb-true _ _ (refuse_unless-passed LengthSum _ _ rows.6);
    fetch = λ p l. ltb-true _ at.first_data_block (refuse_first-passed FetchedBlock (fetch_ok b) (at.fetches_at b) (at.works_at b) rows.7 (at.fetches_at b + p) (omega arith) (omega arith));
    kind = λ p l. (work-true _ (work p l)).0;
    execute = λ p l. (work-true _ (work p l)).1;
    data_block = λ p l. (work-true _ (work p l)).2;
  }
