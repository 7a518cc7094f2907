-- The numbers of sets as sums over planes, how large they are, and their sum over given sets, plane by plane.
-- Assumes nothing.
use Prim.Native.Nat.{ℕ, zero, suc, ◌+◌, ◌-◌, ◌*◌, ◌/◌, ◌%◌, ◌^◌, ◌≤◌, ◌<◌}
use mathlib.Core.Bool.{Bool, true, false, ◌&&◌}
use mathlib.Core.List.{List}
use mathlib.Core.Logic.{⊎_elim}
use mathlib.Core.Path.{◌≡◌, refl, sym, ap, ap₂, ◌∙◌}
use native.Mathlib.Nat.{le_refl, mul-le-mul, suc-mul, add-zero, pow-suc, eq-or-lt_of_le}
use native.Mathlib.Omega.{arith}
use lib.ListN.{get_or}
use Rattle.folds.specs.Folds.{only_if, sum_to, sum_where, count_to}
use Rattle.folds.proofs.Numbers.{le-or-lt, only_if-bound, only_if-zero}
use Rattle.folds.proofs.Folds.{sum_to-none, sum_to-zero, sum_to-cong, sum_to-first, sum_to-add, sum_to-scale, sum_where-bound, sum_where-none, sum_where-joined, sum_where-rise, count_to-cong, count_to-split}
use Rattle.folds.proofs.Lists.{get_d_tabulate}
use Rattle.bitset.specs.Bits.{bit, member}
use Rattle.bitset.specs.Records.{record_at}
use Rattle.bitset.proofs.Words.{bit-none}
use Rattle.counts.specs.Planes.{sets_of, in_plane, count_of, largest}
use Rattle.counts.specs.Counted.{count_by, most_counted, Counted}

-- record q of n lies before those from m on
pub apart : (q m n : ℕ) → q < m → q * n + n ≤ m * n
apart q m n h = omega (arith, suc-mul q n, mul-le-mul {n₁ = suc q} {m₁ = n} {n₂ = m} {m₂ = n} h (le_refl n))

-- ---- the words of a plane

-- a word of a plane is in no other
pub same-plane : (c i j k l : ℕ) → k < 4 * c → l < 4 * c → 4 * (i * c) + k ≡ 4 * (j * c) + l → i ≡ j
same-plane c i j k l hk hl e =
    ⊎_elim (λ (h : i ≤ j). ⊎_elim (λ (q : i ≡ j). q) (λ (less : i < j). absurd (omega (arith, apart i j c less))) (eq-or-lt_of_le h))
    (λ (less : j < i). absurd (omega (arith, apart j i c less))) (le-or-lt i j)

-- what a plane has in common with the sets of a record, four words at a time
abbrev quad_common : List ℕ → ℕ → List ℕ → ℕ → ℕ
quad_common live q ecbs k = count_to (λ s. member (record_at 4 live q) s && member (record_at 4 ecbs k) s) 256

abbrev pub plane_common : ℕ → List ℕ → ℕ → List ℕ → ℕ → ℕ
plane_common c live i ecbs j = count_to (λ s. in_plane c live i s && member (record_at 8 ecbs j) s) (sets_of c)

-- a record of n words as a set
record-member : (n : ℕ) (words : List ℕ) (q s : ℕ) → s < 64 * n → member (record_at n words q) s ≡ bit (get_or words (n * q + s / 64) 0) (s % 64)
unfolding member
record-member n words q s h = ap (λ (w : ℕ). bit w (s % 64)) (get_d_tabulate (λ k. get_or words (n * q + k) 0) 0 n (s / 64) (omega arith))

module _ (live : List ℕ) (i : ℕ) (ecbs : List ℕ) (j : ℕ) where
  -- the halves of a record
  low_half : (s : ℕ) → s < 256 → member (record_at 4 ecbs (2 * j)) s ≡ member (record_at 8 ecbs j) s
  low_half s h =
      let word : 4 * (2 * j) + s / 64 ≡ 8 * j + s / 64 = omega arith in
      record-member 4 ecbs (2 * j) s h ∙ ap (λ (k : ℕ). bit (get_or ecbs k 0) (s % 64)) word ∙ sym (record-member 8 ecbs j s (omega arith))

  high_half : (s : ℕ) → s < 256 → member (record_at 4 ecbs (2 * j + 1)) s ≡ member (record_at 8 ecbs j) (256 + s)
  high_half s h =
      let word : 4 * (2 * j + 1) + s / 64 ≡ 8 * j + (256 + s) / 64 = omega arith in
      let rest : s % 64 ≡ (256 + s) % 64 = omega arith in
      record-member 4 ecbs (2 * j + 1) s h ∙ ap₂ (λ (k l : ℕ). bit (get_or ecbs k 0) l) word rest ∙ sym (record-member 8 ecbs j (256 + s) (omega arith))

  pub common-one : quad_common live (i * 1) ecbs (2 * j) ≡ plane_common 1 live i ecbs j
  common-one = count_to-cong _ _ 256 (λ s h. ap₂ ◌&&◌ (record-member 4 live (i * 1) s h) (low_half s h))

  pub common-two : (m n : ℕ) → m ≡ quad_common live (i * 2) ecbs (2 * j) → n ≡ quad_common live (i * 2 + 1) ecbs (2 * j + 1) → m + n ≡ plane_common 2 live i ecbs j
  common-two m n low high =
      let both : ℕ → Bool = λ s. in_plane 2 live i s && member (record_at 8 ecbs j) s in
      let first : quad_common live (i * 2) ecbs (2 * j) ≡ count_to both 256 =
      count_to-cong _ both 256 (λ s h. ap₂ ◌&&◌ (record-member 4 live (i * 2) s h) (low_half s h)) in
      let second : quad_common live (i * 2 + 1) ecbs (2 * j + 1) ≡ count_to (λ s. both (256 + s)) 256 =
      count_to-cong _ (λ s. both (256 + s)) 256
      (λ s h.
      let word : 4 * (i * 2 + 1) + s / 64 ≡ 4 * (i * 2) + (256 + s) / 64 = omega arith in
      let rest : s % 64 ≡ (256 + s) % 64 = omega arith in
      ap₂ ◌&&◌ (record-member 4 live (i * 2 + 1) s h ∙ ap₂ (λ (k l : ℕ). bit (get_or live k 0) l) word rest) (high_half s h)) in
      omega (arith, low, high, first, second, count_to-split both 256 256)

-- ---- a number as a sum over its planes

abbrev pub weight : ℕ → List ℕ → ℕ → ℕ → ℕ → ℕ
weight c words from s j = only_if (in_plane c words (from + j) s) (2 ^ j)

pub count-sum : (c : ℕ) (words : List ℕ) (from n s : ℕ) → count_of c words from n s ≡ sum_to (weight c words from s) n
unfolding count_of
count-sum c words from zero s = sym (sum_to-none (weight c words from s))
count-sum c words from (suc n) s =
    let here : weight c words from s 0 ≡ only_if (in_plane c words from s) 1 = ap (λ (i : ℕ). only_if (in_plane c words i s) 1) (add-zero from) in
    let rest : sum_to (λ j. weight c words from s (suc j)) n ≡ sum_to (λ j. weight c words (suc from) s j * 2) n =
    sum_to-cong _ _ n (λ j h. ap₂ (λ (i k : ℕ). only_if (in_plane c words i s) k) (omega arith) (pow-suc 2 j) ∙ double (in_plane c words (suc from + j) s) (2 ^ j)) in
    omega (
      arith,
      here,
      rest,
      sum_to-first (weight c words from s) n,
      sum_to-scale (weight c words (suc from) s) 2 n,
      count-sum c words (suc from) n s,
    )
  where
    double : (t : Bool) (k : ℕ) → only_if t (k * 2) ≡ only_if t k * 2
    double true k = refl
    double false k = refl

-- a plane whose words are 0
pub plane-empty : (c : ℕ) (words : List ℕ) (i : ℕ) → ((k : ℕ) → k < 4 * c → get_or words (4 * (i * c) + k) 0 ≡ 0)
    → (s : ℕ) → s < sets_of c → in_plane c words i s ≡ false
plane-empty c words i none s h = ap (λ (w : ℕ). bit w (s % 64)) (none (s / 64) (omega arith)) ∙ bit-none (s % 64)

-- words that are 0 have no number
pub count_none : (c : ℕ) (words : List ℕ) → ((k : ℕ) → get_or words k 0 ≡ 0) → (from n s : ℕ) → s < sets_of c → count_of c words from n s ≡ 0
unfolding count_of
count_none c words none from zero s h = refl
count_none c words none from (suc n) s h =
    omega (arith, ap (λ (t : Bool). only_if t 1) (plane-empty c words from (λ k l. none (4 * (from * c) + k)) s h), count_none c words none (suc from) n s h)

-- ---- how large the numbers are

pub count-below : (c : ℕ) (words : List ℕ) (from n s : ℕ) → count_of c words from n s ≤ largest n
unfolding count_of
count-below c words from zero s = omega arith
count-below c words from (suc n) s = omega (arith, count-below c words (suc from) n s, only_if-bound (in_plane c words from s) {a = 1} {m = 1} (omega arith))

pub largest-power : (n : ℕ) → largest n + 1 ≡ 2 ^ n
largest-power zero = refl
largest-power (suc n) = omega (arith, largest-power n, pow-suc 2 n)

largest-few : (n : ℕ) → n ≤ 4 → largest n ≤ 15
largest-few zero h = omega arith
largest-few (suc zero) h = omega arith
largest-few (suc (suc zero)) h = omega arith
largest-few (suc (suc (suc zero))) h = omega arith
largest-few (suc (suc (suc (suc zero)))) h = omega arith
largest-few (suc (suc (suc (suc (suc n))))) h = absurd (omega arith)

pub count-bound : (c : ℕ) (live : List ℕ) (test : ℕ → Bool) (from n : ℕ) → c ≤ 2 → n ≤ 4 → sum_where test (count_of c live from n) (sets_of c) ≤ most_counted
count-bound c live test from n k h =
    omega (arith, sum_where-bound test (count_of c live from n) (sets_of c) 15 (λ s l. omega (arith, count-below c live from n s, largest-few n h)))

-- ---- one plane more

module _ (c : ℕ) (live : List ℕ) (test : ℕ → Bool) where
  pub sum-none : (from : ℕ) → sum_where test (count_of c live from 0) (sets_of c) ≡ 0
  unfolding count_of
  sum-none from = sum_to-zero (λ s. only_if (test s) 0) (sets_of c) (λ s h. only_if-zero (test s) 0 refl)

  sum-plane : (from n : ℕ)
      → sum_where test (count_of c live from (suc n)) (sets_of c) ≡ 2 * sum_where test (count_of c live (suc from) n) (sets_of c) + count_to (λ s. in_plane c live from s && test s) (sets_of c)
  unfolding count_of count_to
  sum-plane from n =
      omega (
        arith,
        sum_to-cong _ _ (sets_of c) (λ s h. parts (test s) (in_plane c live from s) (count_of c live (suc from) n s)),
        sum_to-add (λ s. only_if (in_plane c live from s && test s) 1) (λ s. only_if (test s) (count_of c live (suc from) n s) * 2) (sets_of c),
        sum_to-scale (λ s. only_if (test s) (count_of c live (suc from) n s)) 2 (sets_of c),
      )
    where
      parts : (t b : Bool) (k : ℕ) → only_if t (only_if b 1 + 2 * k) ≡ only_if (b && t) 1 + only_if t k * 2
      parts true true k = omega arith
      parts true false k = omega arith
      parts false true k = omega arith
      parts false false k = omega arith

  -- the code goes over the planes from the last to the first
  pub plane-on : (planes i : ℕ) → i < planes → (sum n : ℕ) → sum ≡ sum_where test (count_of c live (i + 1) (planes - (i + 1))) (sets_of c)
      → n ≡ count_to (λ s. in_plane c live i s && test s) (sets_of c) → 2 * sum + n ≡ sum_where test (count_of c live i (planes - i)) (sets_of c)
  plane-on planes i h sum n e k =
      let next : i + 1 ≡ suc i = omega arith in
      let more : planes - i ≡ suc (planes - (i + 1)) = omega arith in
      omega (
        arith,
        e ∙ ap (λ (from : ℕ). sum_where test (count_of c live from (planes - (i + 1))) (sets_of c)) next,
        k,
        sum-plane i (planes - (i + 1)),
        ap (λ (m : ℕ). sum_where test (count_of c live i m) (sets_of c)) more,
      )

-- ---- the sum over the sets of an ECB

-- what is promised of it: no set, and one set more
pub counted : (c : ℕ) (live : List ℕ) (planes : ℕ) (ecb : List ℕ) (r : ℕ) → r ≡ sum_where (member ecb) (count_of c live 0 planes) (sets_of c) → Counted c live planes ecb r
unfolding count_by
counted c live planes ecb r e = record {
  is = e;
  none = λ never. e ∙ sum_where-none (member ecb) (count_of c live 0 planes) (sets_of c) never;
  joined = λ s before joins.
      e ∙ sum_where-joined (member before) (member ecb) (count_of c live 0 planes) (sets_of c) s joins.set joins.new joins.own joins.others;
}

-- two tests that agree, and one that passes more
pub count_by-cong : (c : ℕ) (live : List ℕ) (planes : ℕ) (test test' : ℕ → Bool) → ((s : ℕ) → s < sets_of c → test s ≡ test' s)
    → count_by c live planes test ≡ count_by c live planes test'
unfolding count_by
count_by-cong c live planes test test' same =
    sum_to-cong _ _ (sets_of c) (λ s h. ap (λ (t : Bool). only_if t (count_of c live 0 planes s)) (same s h))

pub count_by-rise : (c : ℕ) (live : List ℕ) (planes : ℕ) (test test' : ℕ → Bool) → ((s : ℕ) → s < sets_of c → test s ≡ true → test' s ≡ true)
    → count_by c live planes test ≤ count_by c live planes test'
unfolding count_by
count_by-rise c live planes test test' more =
    sum_where-rise test test' (count_of c live 0 planes) (count_of c live 0 planes) (sets_of c) (sets_of c) (le_refl (sets_of c))
    (λ s l e. (more s l e, le_refl (count_of c live 0 planes s)))

pub count_by-bound : (c : ℕ) (live : List ℕ) (planes : ℕ) (test : ℕ → Bool) → c ≤ 2 → planes ≤ 4 → count_by c live planes test ≤ most_counted
unfolding count_by
count_by-bound c live planes test = count-bound c live test 0 planes
