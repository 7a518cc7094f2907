-- What a walk over the traces of one task has found after the first r of them.
-- Assumes nothing.
use Prim.Native.Nat.{ℕ, ◌+◌, max}
use mathlib.Core.Bool.{false, ◌||◌}
use mathlib.Core.List.{List}
use mathlib.Core.Path.{◌≡◌, refl, sym, ap, subst, ◌∙◌}
use Rattle.std.proofs.Common.{Option, option_map}
use Rattle.folds.specs.Folds.{max_to, any_to}
use Rattle.folds.proofs.Folds.{max_to-none}
use Rattle.folds.proofs.Loops.{max_to-turn}
use Rattle.bitset.specs.Bits.{member, words_of}
use Rattle.board.specs.Layout.{trace_count}
use Rattle.trace.specs.Traces.{Trace, trace_of, trace_pd, trace_md, evicts, most_useful}
use Rattle.trace.specs.Starts.{At}
use Rattle.figures.specs.Figures.{task_trace, task_pd, task_md, evicting}
use Rattle.figures.specs.Overhead.{evicted_by, reloads}
use Rattle.figures.specs.Rows.{on_core_of, raised}
use Rattle.figures.proofs.Rows.{row-stays, row-twice}
use Rattle.survey.proofs.Sets.{joined-none, joined-turn}
use Rattle.survey.proofs.Rows.{added_by, added_none, added-turn}

-- the largest number of one trace more
largest-turn : (F : Trace → ℕ) (b : List ℕ) (k r trace start : ℕ) {acc x : ℕ} → At b k r trace start
    → acc ≡ max_to (λ i. F (task_trace b k i)) r → x ≡ F (trace_of b trace)
    → max acc x ≡ max_to (λ i. F (task_trace b k i)) (r + 1)
largest-turn F b k r trace start at e h = max_to-turn (λ i. F (task_trace b k i)) r e (h ∙ ap (λ (i : ℕ). F (trace_of b i)) at.known)

-- the largest PD and MD, the sets joined and, where there is one, the row raised
pub record Gathered (b : List ℕ) (i r pd md : ℕ) (ecb : List ℕ) (entry row : Option (List ℕ)) : Type 0 where
  pub largest-pd : pd ≡ max_to (λ q. trace_pd (task_trace b i q)) r
  pub largest-md : md ≡ max_to (λ q. trace_md (task_trace b i q)) r
  pub joined : ecb ≡ words_of 8 (λ s. any_to (λ q. evicts (task_trace b i q) s) r)
  pub higher : row ≡ option_map (raised (added_by b i r) i) entry

module _ (b : List ℕ) (i : ℕ) (entry : Option (List ℕ)) where
  pub gathered_none : (ecb : List ℕ) → ecb ≡ words_of 8 (λ s. false) → Gathered b i 0 0 0 ecb entry entry
  gathered_none ecb e = record {
    largest-pd = sym (max_to-none _);
    largest-md = sym (max_to-none _);
    joined = e ∙ joined-none (λ q s. evicts (task_trace b i q) s);
    higher = row-stays (raised (added_by b i 0) i) entry (added_none b i);
  }

  -- one trace more
  pub gathered_next : (r trace start pd md pd' md' : ℕ) (ecb ecb' : List ℕ) (row row' : Option (List ℕ)) {x y : ℕ} → At b i r trace start
      → Gathered b i r pd md ecb entry row → x ≡ trace_pd (trace_of b trace) → y ≡ trace_md (trace_of b trace)
      → ecb' ≡ words_of 8 (λ s. member ecb s || evicts (trace_of b trace) s)
      → row' ≡ option_map (raised (on_core_of b i (λ j. most_useful (trace_of b trace) (evicted_by b j))) i) row
      → pd' ≡ max pd x → md' ≡ max md y
      → Gathered b i (r + 1) pd' md' ecb' entry row'
  gathered_next r trace start pd md pd' md' ecb ecb' row row' at before x y e q p m = record {
    largest-pd = p ∙ largest-turn trace_pd b i r trace start at before.largest-pd x;
    largest-md = m ∙ largest-turn trace_md b i r trace start at before.largest-md y;
    joined =
        e ∙ ap (λ (t : ℕ). words_of 8 (λ s. member ecb s || evicts (trace_of b t) s)) at.known
        ∙ joined-turn (λ i' s. evicts (task_trace b i i') s) r ecb before.joined;
    higher =
        row-twice (raised (added_by b i r) i) (raised (on_core_of b i (λ j. most_useful (task_trace b i r) (evicted_by b j))) i) (raised (added_by b i (r + 1)) i) entry
        before.higher (q ∙ ap (λ (t : ℕ). option_map (raised (on_core_of b i (λ j. most_useful (trace_of b t) (evicted_by b j))) i) row) at.known)
        (λ l. added-turn b i r l _ _ refl refl);
  }

  -- all of them
  pub gathered-all : (r pd md : ℕ) (ecb : List ℕ) (row : Option (List ℕ)) → r ≡ trace_count b i → Gathered b i r pd md ecb entry row
      → (pd ≡ task_pd b i) × (md ≡ task_md b i) × (ecb ≡ words_of 8 (evicting b i)) × (row ≡ option_map (raised (on_core_of b i (λ j. reloads b j i)) i) entry)
  unfolding task_pd task_md evicting reloads
  gathered-all r pd md ecb row end all =
      let done : Gathered b i (trace_count b i) pd md ecb entry row = subst (λ (k : ℕ). Gathered b i k pd md ecb entry row) end all in
      (done.largest-pd, done.largest-md, done.joined, done.higher)
