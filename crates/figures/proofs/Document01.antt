-- The figures and the overheads of a board whose memory is one of document 01's, the cache of one way, are document 01's; and where there is no data cache, whatever
-- the ways, the second ECB is empty.
-- Assumes nothing.
use Prim.Native.Nat.{ℕ, ◌+◌, ◌≤◌}
use mathlib.Core.Bool.{Bool, true, false, ◌&&◌}
use mathlib.Core.List.{List}
use mathlib.Core.Path.{◌≡◌, refl, sym, ap, ◌∙◌, fun_ext}
use native.Mathlib.Decide.{ℕ_discrete}
use native.Mathlib.Omega.{arith}
use lib.Dec.{ltb, eqb}
use Rattle.folds.specs.Folds.{only_if, any_to, tabulate}
use Rattle.folds.proofs.Folds.{max_to-cong, any_to-cong, any_to-false}
use Rattle.bitset.specs.Bits.{word_of, words_of}
use Rattle.bitset.proofs.Sets.{words_of-cong, empty-words}
use Rattle.board.specs.Layout.{core, period, deadline, memory, ways, most_sets, trace_count, first_trace}
use Rattle.board.specs.Sound.{Sound}
use Rattle.document01.specs.Document01 as old
use Rattle.trace.specs.Traces.{trace_of, evicts, most_useful}
use Rattle.trace.proofs.Sets.{evicts-plain, evicts-one-cache}
use Rattle.trace.proofs.Document01.{trace_pd-01, trace_md-01, evicts-01, most_useful-01}
use Rattle.figures.specs.declared.Figure.{Figure}
use Rattle.figures.specs.Figures.{task_trace, task_pd, task_md, evicting, figure_of}
use Rattle.figures.specs.Overhead.{evicted_by, reloads, γ}

-- the words of an empty set; and a record of document 01 as today's, the second ECB empty
abbrev pub no_words : List ℕ
no_words = tabulate (λ w. 0) 4

abbrev pub today : old.Figure → Figure
today f = record { core = f.core; period = f.period; deadline = f.deadline; pd = f.pd; md = f.md; ecb = f.ecb; data_ecb = no_words }

module _ (b : List ℕ) where
  pub task_pd-01 : (k : ℕ) → task_pd b k ≡ old.PD b k
  unfolding task_pd old.PD
  task_pd-01 k = max_to-cong _ _ (trace_count b k) (λ r h. trace_pd-01 b (first_trace b k + r))

  module _ (sound : Sound b) (few : memory b ≤ 2) where
    -- "its sets in the first ECB, the second empty"
    pub second_empty : (k : ℕ) → (figure_of b k).data_ecb ≡ no_words
    unfolding figure_of evicting trace_of
    second_empty k =
        words_of-cong 4 _ (λ s. false) (λ s h. any_to-false _ (trace_count b k) (λ r l. none r s (ℕ_discrete (memory b) 2))) ∙ sym (empty-words 4)
      where
        none : (r s : ℕ) → Dec (memory b ≡ 2) → evicts (task_trace b k r) (most_sets + s) ≡ false
        none r s (yes two) = evicts-one-cache (task_trace b k r) sound two (most_sets + s) (omega arith)
        none r s (no n) = evicts-plain (task_trace b k r) (omega arith) (most_sets + s)

    module _ (one : ways b ≡ 1) where
      pub task_md-01 : (k : ℕ) → task_md b k ≡ old.MD b k
      unfolding task_md old.MD
      task_md-01 k = max_to-cong _ _ (trace_count b k) (λ r h. trace_md-01 b (first_trace b k + r) few one)

      any-and : (c : Bool) (f : ℕ → Bool) (n : ℕ) → any_to (λ r. c && f r) n ≡ (c && any_to f n)
      any-and true f n = refl
      any-and false f n = any_to-false _ n (λ k h. refl)

      pub evicting-01 : (k s : ℕ) → evicting b k s ≡ old.ECB b k s
      unfolding evicting old.ECB
      evicting-01 k s =
          any_to-cong _ _ (trace_count b k) (λ r h. evicts-01 b (first_trace b k + r) few one s)
          ∙ any-and (eqb (memory b) 2) _ (trace_count b k)

      pub figure_of-01 : (k : ℕ) → figure_of b k ≡ today (old.figure b k)
      unfolding figure_of words_of word_of old.figure old.ecb_word
      figure_of-01 k = λ i. record {
        core = core b k;
        period = period b k;
        deadline = deadline b k;
        pd = task_pd-01 k i;
        md = task_md-01 k i;
        ecb = ap (words_of 4) (fun_ext (evicting-01 k)) i;
        data_ecb = second_empty k i;
      }

      evicted_by-01 : (j : ℕ) → evicted_by b j ≡ old.evicted b j
      unfolding evicted_by old.evicted
      evicted_by-01 j = fun_ext (λ s. any_to-cong _ _ (j + 1) (λ h l. ap (λ (t : Bool). eqb (core b h) (core b j) && t) (evicting-01 h s)))

      pub γ-01 : (i j : ℕ) → γ b i j ≡ old.γ b i j
      unfolding γ old.γ reloads old.most_useful
      γ-01 i j =
          max_to-cong _ _ (i + 1)
          (λ k h. ap (only_if (ltb j k && eqb (core b k) (core b j)))
          (max_to-cong _ _ (trace_count b k)
          (λ r l. ap (most_useful (task_trace b k r)) (evicted_by-01 j) ∙ most_useful-01 b (first_trace b k + r) few one sound (old.evicted b j))))
