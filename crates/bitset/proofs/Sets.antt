-- Laws of words as a set of numbers: the words of a test, what each operation makes of them, and the count of two sets' common numbers.
-- Assumes nothing.
use mathlib.Core.Path.{◌≡◌, sym, ap, ap₂, ◌∙◌}
use mathlib.Core.Bool.{Bool, false, ◌&&◌, ◌||◌}
use mathlib.Core.List.{List}
use Prim.Native.Nat.{ℕ, ◌+◌, ◌*◌, ◌/◌, ◌%◌, ◌^◌, ◌<◌}
use native.Mathlib.Nat.{lt_of_le_of_lt}
use native.Mathlib.Omega.{arith}
use native.Mathlib.Decide.{ℕ_discrete}
use mir.Syntax.{w64}
use mir.Val.{Fits}
use lib.Dec.{eqb}
use lib.ListN.{length, get_or, set, length-set}
use lib.Seq.{ext_get_or, get_or-set_same, get_or-set_other}
use lib.Bits.{bit_and, bit_or, or_lt, and_le_l}
use lib.Count.{ones}
use borrow.Author.Tests.{ne_eqb}
use Rattle.folds.specs.Folds.{count_to, tabulate}
use Rattle.folds.proofs.Numbers.{eqb-iff}
use Rattle.folds.proofs.Folds.{count_to-none, count_to-cong, count_to-split}
use Rattle.folds.proofs.Lists.{get_d-set-all, length-tabulate, get_d_tabulate, tabulate-cong}
use Rattle.bitset.specs.Bits.{bit, member, set_word, words_of}
use Rattle.bitset.proofs.Words.{bit-none, bit-or, bit-and, one_at, bit-one_at, ones-count, bit-word_of, word_of-is, word_of-cong}

-- ---- the words of a test

pub words_of-length : (n : ℕ) (test : ℕ → Bool) → length (words_of n test) ≡ n
unfolding words_of
words_of-length n test = length-tabulate (set_word test) 0 n

pub words_of-at : (n : ℕ) (test : ℕ → Bool) (i : ℕ) → i < n → get_or (words_of n test) i 0 ≡ set_word test i
unfolding words_of
words_of-at n test i h = get_d_tabulate (set_word test) 0 n i h

words_of-each : (n : ℕ) (word : ℕ → ℕ) (test : ℕ → Bool) → ((i : ℕ) → i < n → word i ≡ set_word test i) → tabulate word n ≡ words_of n test
unfolding words_of
words_of-each n word test same = tabulate-cong word (set_word test) n same

pub words_of-cong : (n : ℕ) (test test' : ℕ → Bool) → ((s : ℕ) → s < 64 * n → test s ≡ test' s) → words_of n test ≡ words_of n test'
unfolding words_of
words_of-cong n test test' same =
    tabulate-cong (set_word test) (set_word test') n
    (λ i h. word_of-cong (λ j. test (64 * i + j)) (λ j. test' (64 * i + j)) 64 (λ j l. same (64 * i + j) (omega arith)))

-- a number's word and its bit there
place : (s : ℕ) → 64 * (s / 64) + s % 64 ≡ s
place s = omega arith

member-at : (ws : List ℕ) (i j : ℕ) → j < 64 → member ws (64 * i + j) ≡ bit (get_or ws i 0) j
unfolding member
member-at ws i j h =
    let word : (64 * i + j) / 64 ≡ i = omega arith in
    let rest : (64 * i + j) % 64 ≡ j = omega arith in
    ap₂ (λ (x y : ℕ). bit (get_or ws x 0) y) word rest

-- they hold what passes the test
pub member-words_of : (n : ℕ) (test : ℕ → Bool) (s : ℕ) → s < 64 * n → member (words_of n test) s ≡ test s
unfolding member
member-words_of n test s h =
    ap (λ (w : ℕ). bit w (s % 64)) (words_of-at n test (s / 64) (omega arith))
    ∙ bit-word_of 64 (λ j. test (64 * (s / 64) + j)) (s % 64) (omega arith) ∙ ap test (place s)

-- and are the only n words of 64 bits that do
pub words-ext : (n : ℕ) (ws : List ℕ) (test : ℕ → Bool) → length ws ≡ n → ((i : ℕ) → Fits w64 (get_or ws i 0))
    → ((s : ℕ) → s < 64 * n → member ws s ≡ test s) → ws ≡ words_of n test
words-ext n ws test size fit same =
    ext_get_or 0 ws (words_of n test) (size ∙ sym (words_of-length n test))
    (λ i h. let low : i < n = rw size at h in
    word_of-is 64 (get_or ws i 0) (λ j. test (64 * i + j)) (fit i).fits (λ j l. sym (member-at ws i j l) ∙ same (64 * i + j) (omega arith))
    ∙ sym (words_of-at n test i low))

-- ---- none, and those of two sets

pub empty-words : (n : ℕ) → tabulate (λ i. 0) n ≡ words_of n (λ t. false)
empty-words n = words_of-each n (λ i. 0) (λ t. false) (λ i h. word_of-is 64 0 (λ j. false) (omega arith) (λ j l. bit-none j))

pub union-words : (n : ℕ) (ms ns : List ℕ) → ((k : ℕ) → Fits w64 (get_or ms k 0)) → ((k : ℕ) → Fits w64 (get_or ns k 0))
    → tabulate (λ i. bit_or (get_or ms i 0) (get_or ns i 0)) n ≡ words_of n (λ t. member ms t || member ns t)
union-words n ms ns fitm fitn =
    words_of-each n (λ i. bit_or (get_or ms i 0) (get_or ns i 0)) (λ t. member ms t || member ns t)
    (λ i h. word_of-is 64 (bit_or (get_or ms i 0) (get_or ns i 0)) (λ j. member ms (64 * i + j) || member ns (64 * i + j))
    (or_lt 64 (get_or ms i 0) (get_or ns i 0) (fitm i).fits (fitn i).fits)
    (λ j l. bit-or (get_or ms i 0) (get_or ns i 0) j ∙ ap₂ ◌||◌ (sym (member-at ms i j l)) (sym (member-at ns i j l))))

-- ---- one number more, and one less

module _ (n : ℕ) (ws : List ℕ) (size : length ws ≡ n) (fit : (k : ℕ) → Fits w64 (get_or ws k 0)) where
  -- word i replaced by v
  replace-words : (i v : ℕ) (test : ℕ → Bool) → i < n → v < 2 ^ 64 → ((j : ℕ) → j < 64 → bit v j ≡ test (64 * i + j))
      → ((t : ℕ) → (t / 64 ≡ i → ⊥) → member ws t ≡ test t) → set ws i v ≡ words_of n test
  unfolding member
  replace-words i v test hi hv inside outside =
      words-ext n (set ws i v) test (length-set ws i v ∙ size) (get_d-set-all (Fits w64) ws i v 0 (omega arith) (record { fits = hv }) fit)
      (λ s h. go s (ℕ_discrete (s / 64) i))
    where
      go : (s : ℕ) → Dec (s / 64 ≡ i) → member (set ws i v) s ≡ test s
      go s (yes e) =
          ap (λ (k : ℕ). bit (get_or (set ws i v) k 0) (s % 64)) e ∙ ap (λ (x : ℕ). bit x (s % 64)) (get_or-set_same ws i v 0 (omega arith))
          ∙ inside (s % 64) (omega arith) ∙ ap test (ap (λ (k : ℕ). 64 * k + s % 64) (sym e) ∙ place s)
      go s (no n) = ap (λ (x : ℕ). bit x (s % 64)) (get_or-set_other ws i (s / 64) v 0 n) ∙ outside s n

  module _ (s : ℕ) (h : s < 64 * n) where
    one-here : (j : ℕ) → bit (one_at (s % 64)) j ≡ eqb (64 * (s / 64) + j) s
    one-here j = bit-one_at (s % 64) j (omega arith) ∙ eqb-iff j (s % 64) (64 * (s / 64) + j) s (λ e. omega arith) (λ e. omega arith)

    one-there : (t : ℕ) → (t / 64 ≡ s / 64 → ⊥) → false ≡ eqb t s
    one-there t n = sym (ne_eqb t s (λ e. n (ap (λ (x : ℕ). x / 64) e)))

    pub insert-words : set ws (s / 64) (bit_or (one_at (s % 64)) (get_or ws (s / 64) 0)) ≡ words_of n (λ t. eqb t s || member ws t)
    insert-words =
        replace-words (s / 64) (bit_or (one_at (s % 64)) (get_or ws (s / 64) 0)) (λ t. eqb t s || member ws t) (omega arith)
        (or_lt 64 (one_at (s % 64)) (get_or ws (s / 64) 0) (omega arith) (fit (s / 64)).fits)
        (λ j k. bit-or (one_at (s % 64)) (get_or ws (s / 64) 0) j ∙ ap₂ ◌||◌ (one-here j) (sym (member-at ws (s / 64) j k)))
        (λ t n. ap (λ (b : Bool). b || member ws t) (one-there t n))

-- ---- how many numbers two sets have in common

module _ (ms ns : List ℕ) where
  abbrev pub both : ℕ → Bool
  both s = member ms s && member ns s

  -- one word more
  pub both-next : (i : ℕ) → Fits w64 (get_or ms i 0) → count_to both (64 * i) + ones (bit_and (get_or ms i 0) (get_or ns i 0)) ≡ count_to both (64 * i + 64)
  both-next i fit =
      let word : ones (bit_and (get_or ms i 0) (get_or ns i 0)) ≡ count_to (λ j. both (64 * i + j)) 64 =
      ones-count 64 (bit_and (get_or ms i 0) (get_or ns i 0)) (lt_of_le_of_lt (and_le_l (get_or ms i 0) (get_or ns i 0)) fit.fits)
      ∙ count_to-cong (bit (bit_and (get_or ms i 0) (get_or ns i 0))) (λ j. both (64 * i + j)) 64
      (λ j k. bit-and (get_or ms i 0) (get_or ns i 0) j ∙ ap₂ ◌&&◌ (sym (member-at ms i j k)) (sym (member-at ns i j k))) in
      omega (arith, word, count_to-split both (64 * i) 64)

  -- those of four words
  pub both_words : ((k : ℕ) → k < 4 → Fits w64 (get_or ms k 0))
      → ones (bit_and (get_or ms 0 0) (get_or ns 0 0)) + ones (bit_and (get_or ms 1 0) (get_or ns 1 0)) + ones (bit_and (get_or ms 2 0) (get_or ns 2 0))
      + ones (bit_and (get_or ms 3 0) (get_or ns 3 0)) ≡ count_to (λ s. member ms s && member ns s) 256
  both_words fit =
      omega (
        arith,
        count_to-none both,
        both-next 0 (fit 0 (omega arith)),
        both-next 1 (fit 1 (omega arith)),
        both-next 2 (fit 2 (omega arith)),
        both-next 3 (fit 3 (omega arith)),
      )
