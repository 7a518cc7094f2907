-- Laws of a buffer of records: what two of them have in common; one record written holds its words, and every other is as it was.
-- Assumes nothing.
use Prim.Native.Nat.{ℕ, ◌+◌, ◌*◌, ◌≤◌, ◌<◌}
use mathlib.Core.Path.{◌≡◌, sym, ap, ap₂, subst, ◌∙◌}
use mathlib.Core.Bool.{Bool, false, ◌&&◌}
use mathlib.Core.List.{List}
use mathlib.Core.Logic.{⊎_elim}
use native.Mathlib.Decide.{ℕ_discrete}
use native.Mathlib.Omega.{arith}
use mir.Syntax.{w64}
use mir.Val.{Fits}
use lib.Bits.{bit_and}
use lib.Count.{ones}
use lib.ListN.{length, get_or, take, drop, length-take, length-drop}
use lib.Seq.{ext_get_or, get_or-take, get_or-drop}
use Rattle.folds.specs.Folds.{count_to}
use Rattle.folds.specs.Stored.{Stored}
use Rattle.folds.proofs.Numbers.{le-or-lt}
use Rattle.folds.proofs.Lists.{length-tabulate, get_d_tabulate, tabulate-cong}
use Rattle.bitset.specs.Bits.{member, set_word, words_of}
use Rattle.bitset.specs.Records.{record_at}
use Rattle.bitset.proofs.Words.{word_of-cong}
use Rattle.bitset.proofs.Sets.{empty-words, words_of-at, both-next}

-- ---- a record

pub record-empty : (n : ℕ) (buffer : List ℕ) (q : ℕ) → ((k : ℕ) → k < n → get_or buffer (n * q + k) 0 ≡ 0) → record_at n buffer q ≡ words_of n (λ s. false)
record-empty n buffer q none = tabulate-cong (λ k. get_or buffer (n * q + k) 0) (λ k. 0) n none ∙ empty-words n

-- the words of a record as a part of the buffer
pub record-part : (n : ℕ) (buffer : List ℕ) (q : ℕ) → n * q + n ≤ length buffer → take n (drop (n * q) buffer) ≡ record_at n buffer q
record-part n buffer q room =
    ext_get_or 0 _ _ (simp (length-take, length-drop, length-tabulate) (omega arith))
    (λ k h. let low : k < n = omega (arith, length-take n (drop (n * q) buffer)) in
    get_or-take n (drop (n * q) buffer) k 0 low ∙ get_or-drop (n * q) buffer k 0 ∙ sym (get_d_tabulate (λ j. get_or buffer (n * q + j) 0) 0 n k low))

-- what two records of four words have in common, one word more
pub both-more : (ms ns : List ℕ) (i j k : ℕ) → ((k : ℕ) → Fits w64 (get_or ms k 0)) → k < 4
    → count_to (λ s. member (record_at 4 ms i) s && member (record_at 4 ns j) s) (64 * k) + ones (bit_and (get_or ms (4 * i + k) 0) (get_or ns (4 * j + k) 0))
    ≡ count_to (λ s. member (record_at 4 ms i) s && member (record_at 4 ns j) s) (64 * (k + 1))
both-more ms ns i j k fit h =
    let a = get_d_tabulate (λ l. get_or ms (4 * i + l) 0) 0 4 k h in
    let b = get_d_tabulate (λ l. get_or ns (4 * j + l) 0) 0 4 k h in
    let both = λ (s : ℕ). member (record_at 4 ms i) s && member (record_at 4 ns j) s in
    let next : 64 * k + 64 ≡ 64 * (k + 1) = omega arith in
    ap₂ (λ (x y : ℕ). count_to both (64 * k) + ones (bit_and x y)) (sym a) (sym b)
    ∙ both-next (record_at 4 ms i) (record_at 4 ns j) k (subst (Fits w64) (sym a) (fit (4 * i + k))) ∙ ap (count_to both) next

-- ---- a set of eight words stored as record m

record-other : {f : ℕ → ℕ} {m : ℕ} {w w' : List ℕ} → Stored f (8 * m) 8 w w' → (q : ℕ) → (q ≡ m → ⊥) → record_at 8 w' q ≡ record_at 8 w q
record-other {f} {m} stored q other =
    tabulate-cong _ _ 8
    (λ k h. ⊎_elim (λ l. stored.after (8 * q + k) (omega (arith, other))) (λ l. stored.before (8 * q + k) (omega arith)) (le-or-lt m q))

module _ (m : ℕ) {words w w' : List ℕ} (stored : Stored (λ k. get_or words k 0) (8 * m) 8 w w') where
  record-words : (test : ℕ → Bool) → words ≡ words_of 8 test → record_at 8 w' m ≡ words_of 8 test
  unfolding words_of
  record-words test e = tabulate-cong _ _ 8 (λ k h. stored.part k h ∙ ap (λ (ws : List ℕ). get_or ws k 0) e ∙ words_of-at 8 test k h)

  -- record h of the sets g, after record m of them was written
  pub records-next : (g : ℕ → ℕ → Bool) → words ≡ words_of 8 (g m) → (h : ℕ) → ((h ≡ m → ⊥) → record_at 8 w h ≡ words_of 8 (g h)) → record_at 8 w' h ≡ words_of 8 (g h)
  records-next g e h other = go (ℕ_discrete h m)
    where
      go : Dec (h ≡ m) → record_at 8 w' h ≡ words_of 8 (g h)
      go (yes r) = ap (record_at 8 w') r ∙ record-words (g m) e ∙ ap (λ (k : ℕ). words_of 8 (g k)) (sym r)
      go (no n) = record-other stored h n ∙ other n

-- ---- the halves of a record of eight words

module _ (buffer : List ℕ) (q : ℕ) (test : ℕ → Bool) (is : record_at 8 buffer q ≡ words_of 8 test) where
  word_of : (k : ℕ) → k < 8 → get_or buffer (8 * q + k) 0 ≡ set_word test k
  word_of k h =
      sym (get_d_tabulate (λ j. get_or buffer (8 * q + j) 0) 0 8 k h) ∙ ap (λ (ws : List ℕ). get_or ws k 0) is ∙ words_of-at 8 test k h

  -- numbers below 256, and those from there on
  pub first-half : record_at 4 buffer (2 * q) ≡ words_of 4 test
  unfolding words_of
  first-half =
      tabulate-cong _ _ 4
      (λ k h. ap (λ (p : ℕ). get_or buffer p 0) (let e : 4 * (2 * q) + k ≡ 8 * q + k = omega arith in e) ∙ word_of k (omega arith))

  pub second-half : record_at 4 buffer (2 * q + 1) ≡ words_of 4 (λ s. test (256 + s))
  unfolding words_of
  second-half =
      tabulate-cong _ _ 4
      (λ k h. ap (λ (p : ℕ). get_or buffer p 0) (let e : 4 * (2 * q + 1) + k ≡ 8 * q + (4 + k) = omega arith in e) ∙ word_of (4 + k) (omega arith)
      ∙ word_of-cong _ _ 64 (λ j l. ap test (let e : 64 * (4 + k) + j ≡ 256 + (64 * k + j) = omega arith in e)))
