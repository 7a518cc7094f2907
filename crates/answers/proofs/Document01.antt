-- The theorem of document 01: on every board that it takes, the tool has its figures, overheads and sums, settles at its times in its passes, its four calls
-- answer and leave what it says, and what keeps Analyse's contract keeps its promises, demand 3 among them. So no change of document 02 changes what is said of
-- such a board.
-- Assumes nothing.
use Prim.Native.Nat.{ℕ, ◌+◌, ◌-◌, ◌≤◌, ◌<◌}
use mathlib.Core.Bool.{Bool, true, false, not, cond, false≢true}
use mathlib.Core.List.{List}
use Rattle.std.specs.Prelude.{Result, Ok, Err}
use mathlib.Core.Path.{◌≡◌, refl, sym, ap, ap₂, ◌∙◌, fun_ext}
use native.Mathlib.Omega.{arith}
use lib.Dec.{leb, ltb}
use lib.ListN.{length, get_or}
use Rattle.folds.specs.Folds.{first_from, fill_to}
use Rattle.folds.proofs.Searches.{first_from-cong}
use Rattle.board.specs.Layout.{word, tasks, memory, pass_limit, scratch_words, jitter}
use Rattle.ranges.specs.Ranges.{within}
use Rattle.document01.specs.Document01 as old
use Rattle.document01.specs.Document01.{Board, Reply, value, times, late, spent, refused, is_refused, unless}
use Rattle.document01.proofs.Boards.{sound, one_way, board}
use Rattle.refusals.specs.Refusals.{Verdict, refuse_unless, first_bad, refuse_first, ◌or_else◌, refusal_of, row_number}
use Rattle.refusals.specs.declared.Refusal.{Refusal}
use Rattle.refusals.specs.declared.Row.{Row}
use Rattle.refusals.specs.declared.Row.TheVariants.{TaskNumber, TimesBuffer, Scratch, FiguresTable, GivenTime}
use Rattle.refusals.proofs.Passes as through
use Rattle.refusals.proofs.Sound as taken
use Rattle.refusals.proofs.Sound.{within-true}
use Rattle.figures.specs.declared.Figure.{Figure}
use Rattle.figures.specs.Figures.{figure_of}
use Rattle.figures.specs.Overhead.{γ}
use Rattle.figures.proofs.Document01.{today, figure_of-01}
use Rattle.sums.specs.Sums.{task_sum}
use Rattle.sums.proofs.Document01.{bound-01, overhead-01, task_sum-01}
use Rattle.passes.specs.Passes.{passes_needed, settled, first_late}
use Rattle.checks.specs.CallRefusals.{times_row, time_ok, time_row, figures_refusal, overhead_refusal, weigh_refusal, analyse_refusal}
use Rattle.answers.specs.declared.Answer.{Answer}
use Rattle.answers.specs.declared.Answer.TheVariants.{Times, Late, Spent}
use Rattle.answers.specs.declared.MadeUp.TheVariants.{Spent as MadeUp-as-Spent}
use Rattle.answers.specs.MakeUp.{made_up_at, settled_made_up}
use Rattle.answers.specs.Answers.{system, unless_refused, figures_answer, overhead_answer, weigh_answer, settled_answer, answer_by, analyse_answer, times_left, times_after, table_after, ScratchAfter}
use Rattle.answers.specs.Demand.{Analysed}
use Rattle.answers.proofs.Demand.{times-room}
use Rattle.answers.proofs.Passes01.{passes-01, settled-01, late-01, demand3-01}

-- the answers as document 01 has them
abbrev pub of_outcome : Result ℕ Refusal → Reply
of_outcome (Ok x) = value x
of_outcome (Err refusal) = refused (row_number refusal.row) refusal.place

abbrev pub of_answer : Result Answer Refusal → Reply
of_answer (Ok (Times passes)) = times passes
of_answer (Ok (Late task passes)) = late task passes
of_answer (Ok Spent) = spent
of_answer (Err refusal) = refused (row_number refusal.row) refusal.place

-- what is said of a board of document 01
pub record As01 (b : List ℕ) : Type 0 where
  pub taken : refusal_of b ≡ Ok tt
  pub figure : (k : ℕ) → figure_of b k ≡ today (old.figure b k)
  pub overhead : (i j : ℕ) → γ b i j ≡ old.γ b i j
  pub sum : (R : List ℕ) (i : ℕ) → i < tasks b → task_sum b R i ≡ old.Sum b R i
  pub passes : passes_needed (system b) ≡ old.passes_needed b
  pub settled-times : settled (system b) ≡ old.settled b
  -- the four calls, whatever they are given beside the board, and the tables that they leave
  pub figures-call : (table : ℕ) → of_outcome (figures_answer b table) ≡ old.figures b table
  pub figures-table : (records : List Figure)
      → table_after b (figures_refusal b (length records)) records ≡ old.table_after b (λ k. today (old.figure b k)) (old.figures b (length records)) records
  pub overhead-call : (i j : ℕ) → of_outcome (overhead_answer b i j) ≡ old.overhead b i j
  pub weigh-call : (R : List ℕ) (i : ℕ) → of_outcome (weigh_answer b R i) ≡ old.weigh b R i
  pub analyse-call : (room scratch table : ℕ) → of_answer (analyse_answer b room scratch table) ≡ old.analyse b room scratch table
  pub analyse-table : (room scratch : ℕ) (records : List Figure)
      → table_after b (analyse_refusal b room scratch (length records)) records
      ≡ old.table_after b (λ k. today (old.figure b k)) (old.analyse b room scratch (length records)) records
  -- an answer and buffers that keep Analyse's contract keep all that document 01 promises of them
  pub analysed : {R scratch : List ℕ} {table : ℕ} {r : Result Answer Refusal} {R' scratch' : List ℕ}
      → Analysed b R scratch table r R' scratch' → old.Analysed b R scratch table (of_answer r) R' scratch'

-- a row of the refusal table, and the last one
outcome-row : (row : Row) (test : Bool) (place : ℕ) (rest : Verdict) (x : ℕ)
    → of_outcome (unless_refused (refuse_unless row test place or_else rest) x) ≡ unless (row_number row) test place (of_outcome (unless_refused rest x))
unfolding refuse_unless
outcome-row row true place rest x = refl
outcome-row row false place rest x = refl

outcome-last : (row : Row) (test : Bool) (place x : ℕ) → of_outcome (unless_refused (refuse_unless row test place) x) ≡ unless (row_number row) test place (value x)
unfolding refuse_unless
outcome-last row true place x = refl
outcome-last row false place x = refl

answer-row : (b : List ℕ) (row : Row) (test : Bool) (place : ℕ) (rest : Verdict)
    → of_answer (answer_by (refuse_unless row test place or_else rest) b) ≡ unless (row_number row) test place (of_answer (answer_by rest b))
unfolding refuse_unless
answer-row b row true place rest = refl
answer-row b row false place rest = refl

answer-last : (b : List ℕ) (row : Row) (test : Bool) (place : ℕ)
    → of_answer (answer_by (refuse_unless row test place) b) ≡ unless (row_number row) test place (of_answer (answer_by (Ok tt) b))
unfolding refuse_unless
answer-last b row true place = refl
answer-last b row false place = refl

-- by the passes: what is answered, and that it is no refusal
settled-row : (over last : Bool) (i p : ℕ) → of_answer (Ok (cond over Spent (cond last (Late i p) (Times p)))) ≡ cond over spent (cond last (late i p) (times p))
settled-row true last i p = refl
settled-row false true i p = refl
settled-row false false i p = refl

not-refused : (over last : Bool) (i p : ℕ) → is_refused (of_answer (Ok (cond over Spent (cond last (Late i p) (Times p))))) ≡ false
not-refused true last i p = refl
not-refused false true i p = refl
not-refused false false i p = refl

module _ (b : List ℕ) where
  -- whether an answer refuses is told by the verdict of its checks
  passed-taken : is_refused (of_answer (answer_by (Ok tt) b)) ≡ false
  unfolding settled_answer
  passed-taken =
      let S = system b in
      let late = first_late S (settled S) in
      not-refused (ltb (pass_limit b) (passes_needed S)) (ltb late (tasks b)) (late + 1) (passes_needed S)

  taken-passed : (v : Verdict) → is_refused (of_answer (answer_by v b)) ≡ false → v ≡ Ok tt
  taken-passed (Ok _) e = refl
  taken-passed (Err refusal) e = absurd (false≢true (sym e))

  scratch-kept : (v : Verdict) {scratch scratch' : List ℕ} → ScratchAfter v scratch scratch' → is_refused (of_answer (answer_by v b)) ≡ true → scratch' ≡ scratch
  scratch-kept (Ok _) left e = absurd (false≢true (sym passed-taken ∙ e))
  scratch-kept (Err refusal) left e = left

module _ (b : List ℕ) (board : Board b) where
  passed : refusal_of b ≡ Ok tt
  passed = through.passes b (sound b board)

  -- ---- Figures, Overhead, Weigh

  figures-of : (k : ℕ) → figure_of b k ≡ today (old.figure b k)
  figures-of = figure_of-01 b (sound b board) board.word_4 (one_way b board)

  table_filled : (records : List Figure) → fill_to (figure_of b) (tasks b) records ≡ fill_to (λ k. today (old.figure b k)) (tasks b) records
  table_filled records = ap (λ (f : ℕ → Figure). fill_to f (tasks b) records) (fun_ext figures-of)

  figures-01 : (table : ℕ) → of_outcome (figures_answer b table) ≡ old.figures b table
  unfolding figures_answer figures_refusal old.figures
  figures-01 table = rw passed (outcome-last FiguresTable (leb (tasks b) table) table (tasks b))

  outcome-table : (v : Verdict) (x : ℕ) (records : List Figure)
      → table_after b v records ≡ old.table_after b (λ k. today (old.figure b k)) (of_outcome (unless_refused v x)) records
  unfolding table_after
  outcome-table (Ok _) x records = table_filled records
  outcome-table (Err refusal) x records = refl

  figures-table-01 : (records : List Figure)
      → table_after b (figures_refusal b (length records)) records ≡ old.table_after b (λ k. today (old.figure b k)) (old.figures b (length records)) records
  unfolding figures_answer
  figures-table-01 records =
      outcome-table (figures_refusal b (length records)) (tasks b) records
      ∙ ap (λ (r : Reply). old.table_after b (λ k. today (old.figure b k)) r records) (figures-01 (length records))

  overhead-call-01 : (i j : ℕ) → of_outcome (overhead_answer b i j) ≡ old.overhead b i j
  unfolding overhead_answer overhead_refusal old.overhead
  overhead-call-01 i j =
      rw passed
      (outcome-row TaskNumber (within 1 (tasks b) i) i _ _
      ∙ ap (unless 10 (within 1 (tasks b) i) i)
      (outcome-last TaskNumber (within 1 (tasks b) j) j _ ∙ ap (λ (x : ℕ). unless 10 (within 1 (tasks b) j) j (value x)) (overhead-01 b board (i - 1) (j - 1))))

  above-01 : (R : List ℕ) → first_bad (time_ok b R) 0 (tasks b) ≡ old.first_above b R
  unfolding first_bad
  above-01 R =
      let all : tasks b - 0 ≡ tasks b = omega arith in
      ap (λ (n : ℕ). first_from (λ k. not (time_ok b R k)) n 0) all
      ∙ first_from-cong _ _ (tasks b) 0 (λ k _ h. ap (λ (d : ℕ). not (leb (get_or R k 0) (d + 1))) (bound-01 b board k (omega arith)))

  abbrev short : List ℕ → Reply → Reply
  short R = unless 11 (leb (tasks b) (length R)) (length R)

  abbrev above : ℕ → Reply → Reply
  above k = unless 14 (leb (tasks b) k) k

  weigh-01 : (R : List ℕ) (i : ℕ) → of_outcome (weigh_answer b R i) ≡ old.weigh b R i
  unfolding weigh_answer weigh_refusal refuse_first old.weigh
  weigh-01 R i = rw passed (outcome-row TaskNumber (within 1 (tasks b) i) i _ _ ∙ go (within 1 (tasks b) i) refl)
    where
      go : (test : Bool) → within 1 (tasks b) i ≡ test
          → unless 10 test i (of_outcome (unless_refused (times_row (tasks b) (length R) or_else time_row b R (tasks b)) (task_sum b R (i - 1))))
          ≡ unless 10 test i (short R (above (old.first_above b R) (value (old.Sum b R (i - 1)))))
      go false e = refl
      go true e =
          let task : i - 1 < tasks b = omega (arith, within-true 1 (tasks b) i e) in
          outcome-row TimesBuffer (leb (tasks b) (length R)) (length R) _ _
          ∙ ap (short R)
          (outcome-last GivenTime (leb (tasks b) (first_bad (time_ok b R) 0 (tasks b))) (first_bad (time_ok b R) 0 (tasks b)) _
          ∙ ap₂ (λ (k x : ℕ). above k (value x)) (above-01 R) (task_sum-01 b board R (i - 1) task))

  -- ---- Analyse

  settled-reply : of_answer (answer_by (Ok tt) b) ≡ old.settled_reply b
  unfolding settled_answer old.settled_reply
  settled-reply =
      rw (passes-01 b board, late-01 b board)
      (settled-row (ltb (pass_limit b) (old.passes_needed b)) (ltb (old.first_late b) (tasks b)) (old.first_late b + 1) (old.passes_needed b))

  analyse-01 : (room scratch table : ℕ) → of_answer (analyse_answer b room scratch table) ≡ old.analyse b room scratch table
  unfolding analyse_answer analyse_refusal old.analyse
  analyse-01 room scratch table =
      rw passed
      (answer-row b TimesBuffer (leb (tasks b) room) room _
      ∙ ap (unless 11 (leb (tasks b) room) room)
      (answer-row b Scratch (leb (scratch_words (tasks b)) scratch) scratch _
      ∙ ap (unless 12 (leb (scratch_words (tasks b)) scratch) scratch)
      (answer-last b FiguresTable (leb (tasks b) table) table ∙ ap (unless 13 (leb (tasks b) table) table) settled-reply)))

  answer-table : (v : Verdict) (records : List Figure)
      → table_after b v records ≡ old.table_after b (λ k. today (old.figure b k)) (of_answer (answer_by v b)) records
  unfolding table_after
  answer-table (Ok _) records = rw (passed-taken b) (table_filled records)
  answer-table (Err refusal) records = refl

  analyse-table-01 : (room scratch : ℕ) (records : List Figure)
      → table_after b (analyse_refusal b room scratch (length records)) records
      ≡ old.table_after b (λ k. today (old.figure b k)) (old.analyse b room scratch (length records)) records
  unfolding analyse_answer
  analyse-table-01 room scratch records =
      answer-table (analyse_refusal b room scratch (length records)) records
      ∙ ap (λ (r : Reply). old.table_after b (λ k. today (old.figure b k)) r records) (analyse-01 room scratch (length records))

  times-left-01 : (r : Result Answer Refusal) (buffer : List ℕ) → times_after b r buffer ≡ old.times_after b (of_answer r) buffer
  unfolding times_left
  times-left-01 (Ok (Times passes)) buffer = ap (λ (R : List ℕ). fill_to (λ k. get_or R k 0) (tasks b) buffer) (settled-01 b board)
  times-left-01 (Ok (Late task passes)) buffer = refl
  times-left-01 (Ok Spent) buffer = refl
  times-left-01 (Err refusal) buffer = refl

  module _ {R scratch : List ℕ} {table : ℕ} {r : Result Answer Refusal} {R' scratch' : List ℕ} (kept : Analysed b R scratch table r R' scratch') where
    verdict : Verdict
    verdict = analyse_refusal b (length R) (length scratch) table

    by-verdict : r ≡ answer_by verdict b
    unfolding analyse_answer verdict
    by-verdict = kept.answer

    left : R' ≡ old.times_after b (of_answer r) R
    left = kept.given ∙ times-left-01 r R

    demand3-kept : is_refused (of_answer r) ≡ false → old.Demand3 b (of_answer r) R'
    unfolding verdict
    demand3-kept e =
        let taken = taken-passed b verdict (ap (λ (a : Result Answer Refusal). is_refused (of_answer a)) (sym by-verdict) ∙ e) in
        let is : of_answer r ≡ old.settled_reply b = ap of_answer (by-verdict ∙ ap (λ (v : Verdict). answer_by v b) taken) ∙ settled-reply in
        rw (left, is) (demand3-01 b board R (times-room b R (length scratch) table taken))

    analysed-01 : old.Analysed b R scratch table (of_answer r) R' scratch'
    unfolding verdict
    analysed-01 = record {
      answer = ap of_answer kept.answer ∙ analyse-01 (length R) (length scratch) table;
      given = left;
      scratch_left = λ e. scratch-kept b verdict kept.scratch_left (ap (λ (a : Result Answer Refusal). is_refused (of_answer a)) (sym by-verdict) ∙ e);
      demand3 = demand3-kept;
    }

  -- how a time is made up, which document 01 does not ask: at its settled times, of its numbers (`six_parts-01`)
  pub settled_made_up-01 : (i : ℕ) → settled_made_up b i ≡ cond (ltb (pass_limit b) (old.passes_needed b)) MadeUp-as-Spent (made_up_at b (old.settled b) i)
  unfolding settled_made_up
  settled_made_up-01 i = rw (passes-01 b board, settled-01 b board)

  pub document-01 : As01 b
  document-01 = record {
    taken = passed;
    figure = figures-of;
    overhead = overhead-01 b board;
    sum = task_sum-01 b board;
    passes = passes-01 b board;
    settled-times = settled-01 b board;
    figures-call = figures-01;
    figures-table = figures-table-01;
    overhead-call = overhead-call-01;
    weigh-call = weigh-01;
    analyse-call = analyse-01;
    analyse-table = analyse-table-01;
    analysed = analysed-01;
  }

-- of the boards that use nothing which came later, these alone are taken
pub taken-01 : (b : List ℕ) → memory b ≤ 2 → word b 15 ≡ 0 → word b 16 ≡ 0 → ((k : ℕ) → k < tasks b → jitter b k ≡ 0) → refusal_of b ≡ Ok tt → Board b
taken-01 b few no-ways none-put-off punctual passes = board b (taken.sound b passes) few no-ways none-put-off punctual
