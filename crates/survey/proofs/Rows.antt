-- Laws of a row of overheads, raised trace by trace and task by task.
-- Assumes nothing.
use Prim.Native.Nat.{ℕ, ◌+◌, ◌≤◌, ◌<◌, max}
use mathlib.Core.Bool.{Bool, true, false, ◌&&◌, false≢true}
use mathlib.Core.List.{List}
use mathlib.Core.Logic.{⊎_elim}
use mathlib.Core.Path.{◌≡◌, refl, sym, ap, subst, ◌∙◌}
use Rattle.std.proofs.Common.{Option, Some, None, is_some, option_map}
use Rattle.std.specs.Bool.{then_some}
use native.Mathlib.Omega.{arith}
use lib.Dec.{eqb}
use lib.ListN.{length, get_or, replicate, length-replicate, get_or-replicate}
use borrow.Author.Tests.{lt-ltb, le-ltb}
use Rattle.folds.specs.Folds.{only_if, max_to}
use Rattle.folds.proofs.Numbers.{le-or-lt, only_if-zero}
use Rattle.folds.proofs.Folds.{max_to-none, max_to-next}
use Rattle.folds.proofs.Lists.{length-fill_to, fill_to-below, fill_to-from}
use Rattle.folds.proofs.Loops.{max_to-turn}
use Rattle.board.specs.Layout.{core}
use Rattle.trace.specs.Traces.{most_useful}
use Rattle.figures.specs.Figures.{task_trace}
use Rattle.figures.specs.Overhead.{evicted_by, reloads, γ}
use Rattle.figures.specs.Rows.{on_core_of, raised}
use Rattle.figures.proofs.Overhead.{reloads_below}
use Rattle.figures.proofs.Rows.{raised-none, raised-more}

-- what the first r traces of task i add, and one trace more
module _ (b : List ℕ) (i : ℕ) where
  abbrev pub added_by : ℕ → ℕ → ℕ
  added_by r = on_core_of b i (λ j. max_to (λ q. most_useful (task_trace b i q) (evicted_by b j)) r)

  pub added_none : (row : List ℕ) → row ≡ raised (added_by 0) i row
  added_none row = raised-none (added_by 0) i row (λ j h. only_if-zero (eqb (core b i) (core b j)) _ (max_to-none _))

  pub added-turn : (r : ℕ) (row out next : List ℕ) → out ≡ raised (added_by r) i row
      → next ≡ raised (on_core_of b i (λ j. most_useful (task_trace b i r) (evicted_by b j))) i out
      → next ≡ raised (added_by (r + 1)) i row
  added-turn r row out next e q =
      raised-more b i (λ j. max_to (λ q. most_useful (task_trace b i q) (evicted_by b j)) r) _ _ row out next e q
      (λ j. sym (max_to-next (λ q. most_useful (task_trace b i q) (evicted_by b j)) r))

-- ---- the row of all tasks below k

pub record Row (b : List ℕ) (k : ℕ) (row : List ℕ) : Type 0 where
  pub long : length row ≡ 64
  pub each : (j : ℕ) → j < 64 → get_or row j 0 ≡ max_to (reloads_below b j) k

pub row-none : (b : List ℕ) → Row b 0 (replicate 64 0)
row-none b = record {
  long = length-replicate {A = ℕ} 64 0;
  each = λ j h. get_or-replicate {A = ℕ} 64 j 0 0 h ∙ sym (max_to-none (reloads_below b j));
}

pub row_next : (b : List ℕ) (k : ℕ) (row row' : List ℕ) → Row b k row
    → row' ≡ raised (on_core_of b k (λ j. reloads b j k)) k row → Row b (k + 1) row'
row_next b k row row' below e = record {
  long = ap length e ∙ length-fill_to _ row k ∙ below.long;
  each = λ j h. ap (λ l. get_or l j 0) e ∙ ⊎_elim (past j h) (passed j h) (le-or-lt k j);
}
  where
    more : ℕ → ℕ
    more = on_core_of b k (λ q. reloads b q k)

    past : (j : ℕ) → j < 64 → k ≤ j → get_or (raised more k row) j 0 ≡ max_to (reloads_below b j) (k + 1)
    past j h l =
        let none : reloads_below b j k ≡ 0 = ap (λ (t : Bool). only_if (t && eqb (core b k) (core b j)) (reloads b j k)) (le-ltb j k l) in
        omega (arith, fill_to-from (λ q. max (get_or row q 0) (more q)) row 0 k j l, below.each j h, max_to-next (reloads_below b j) k)

    passed : (j : ℕ) → j < 64 → j < k → get_or (raised more k row) j 0 ≡ max_to (reloads_below b j) (k + 1)
    passed j h l =
        let one : more j ≡ reloads_below b j k = ap (λ (t : Bool). only_if (t && eqb (core b k) (core b j)) (reloads b j k)) (sym (lt-ltb j k l)) in
        fill_to-below (λ q. max (get_or row q 0) (more q)) row 0 k j l (omega (arith, below.long)) ∙ max_to-turn (reloads_below b j) k (below.each j h) one

-- a row that is there is that of all tasks below k
abbrev pub RowOf : List ℕ → ℕ → Option (List ℕ) → Type 0
RowOf b k row = (l : List ℕ) → row ≡ Some l → Row b k l

pub row_of-none : (b : List ℕ) (rows : Bool) {row : Option (List ℕ)} → row ≡ then_some rows (replicate 64 0) → (is_some row ≡ rows) × RowOf b 0 row
row_of-none b true e = (ap is_some e, λ l q. subst (Row b 0) (let same : replicate 64 0 ≡ l = cc in same) (row-none b))
row_of-none b false e = (ap is_some e, λ l q. absurd (let none : ⊥ = cc in none))

pub row_of-next : (b : List ℕ) (k : ℕ) (row row' : Option (List ℕ)) → row' ≡ option_map (raised (on_core_of b k (λ j. reloads b j k)) k) row → RowOf b k row
    → (is_some row' ≡ is_some row) × RowOf b (k + 1) row'
row_of-next b k None row' e below = (ap is_some e, λ l q. absurd (let none : ⊥ = cc in none))
row_of-next b k (Some m) row' e below =
    (ap is_some e, λ l q. row_next b k m l (below m refl) (let same : l ≡ raised (on_core_of b k (λ j. reloads b j k)) k m = cc in same))

-- a row that is there
pub row-there : (row : Option (List ℕ)) → is_some row ≡ true → (l : List ℕ) × (row ≡ Some l)
row-there None e = absurd (false≢true e)
row-there (Some l) e = (l, refl)

-- a row raised is there only where the row was
pub row-was : (raise : List ℕ → List ℕ) (entry row : Option (List ℕ)) → row ≡ option_map raise entry → (l : List ℕ) → row ≡ Some l → is_some entry ≡ true
row-was raise None row e l is = absurd (let none : ⊥ = cc in none)
row-was raise (Some m) row e l is = refl

-- the row of the tasks up to i
pub row-overhead : (b : List ℕ) (i : ℕ) (row : List ℕ) → Row b (i + 1) row → (j : ℕ) → j < 64 → get_or row j 0 ≡ γ b i j
unfolding γ
row-overhead b i row all j h = all.each j h
