-- Laws of the sums, maxima, counts and tests: none, one more, equal parts, larger parts, a bound, a prefix.
-- Assumes nothing.
use Prim.Native.Nat.{ℕ, zero, suc, ◌+◌, ◌*◌, ◌≤◌, ◌<◌, zero-le, max}
use mathlib.Core.Bool.{Bool, true, false, ◌||◌, or-true, or-false, false≢true}
use mathlib.Core.Logic.{◌⊎◌, inl, inr, ⊎_elim}
use mathlib.Core.Path.{◌≡◌, refl, sym, ap, ap₂, ◌∙◌}
use native.Mathlib.Nat.{le_trans, eq-or-lt_of_le, le_of_suc-le-suc, not-suc-le-zero, suc-mul, add-mul, zero-mul, mul-one, add-zero, add-suc, add_assoc}
use native.Mathlib.Numerals.{add-one}
use native.Mathlib.Omega.{arith}
use Rattle.folds.specs.Folds.{only_if, sum_to, sum_where, max_to, count_to, any_to}
use Rattle.folds.proofs.Numbers.{below_suc, only_if-bound}

-- ---- `sum_to`

pub sum_to-none : (f : ℕ → ℕ) → sum_to f 0 ≡ 0
unfolding sum_to
sum_to-none f = refl

pub sum_to-next : (f : ℕ → ℕ) (n : ℕ) → sum_to f (n + 1) ≡ sum_to f n + f n
unfolding sum_to
sum_to-next f n = rw add-one

pub sum_to-cong : (f g : ℕ → ℕ) (n : ℕ) → ((k : ℕ) → k < n → f k ≡ g k) → sum_to f n ≡ sum_to g n
unfolding sum_to
sum_to-cong f g zero all = refl
sum_to-cong f g (suc n) all = ap₂ ◌+◌ (sum_to-cong f g n (λ k h. all k (omega arith))) (all n (omega arith))

pub sum_to-mono : (f g : ℕ → ℕ) (n : ℕ) → ((k : ℕ) → k < n → f k ≤ g k) → sum_to f n ≤ sum_to g n
unfolding sum_to
sum_to-mono f g zero all = zero-le
sum_to-mono f g (suc n) all = omega (arith, sum_to-mono f g n (λ k h. all k (omega arith)), all n (omega arith))

pub sum_to-bound : (f : ℕ → ℕ) (n m : ℕ) → ((k : ℕ) → k < n → f k ≤ m) → sum_to f n ≤ n * m
unfolding sum_to
sum_to-bound f zero m all = zero-le
sum_to-bound f (suc n) m all = rw (suc-mul n m) (omega (arith, sum_to-bound f n m (λ k h. all k (omega arith)), all n (omega arith)))

pub sum_to-prefix : (f : ℕ → ℕ) (k n : ℕ) → k ≤ n → sum_to f k ≤ sum_to f n
unfolding sum_to
sum_to-prefix f k zero h = let e : k ≡ 0 = omega arith in rw e zero-le
sum_to-prefix f k (suc n) h =
    ⊎_elim (λ e. rw e (omega arith)) (λ l. omega (arith, sum_to-prefix f k n (le_of_suc-le-suc l))) (eq-or-lt_of_le h)

-- a part of a sum, and the next of its terms
pub sum_to-below : (f : ℕ → ℕ) (k n : ℕ) → k < n → sum_to f k + f k ≤ sum_to f n
sum_to-below f k n l = omega (arith, sum_to-next f k, sum_to-prefix f (k + 1) n (omega arith))

pub sum_to-split : (f : ℕ → ℕ) (a c : ℕ) → sum_to f (a + c) ≡ sum_to f a + sum_to (λ k. f (a + k)) c
unfolding sum_to
sum_to-split f a zero = omega (arith, ap (sum_to f) (add-zero a))
sum_to-split f a (suc c) = rw (add-suc, sum_to-split f a c) (add_assoc (sum_to f a) (sum_to (λ k. f (a + k)) c) (f (a + c)))

-- the first term apart
pub sum_to-first : (f : ℕ → ℕ) (n : ℕ) → sum_to f (suc n) ≡ f 0 + sum_to (λ k. f (suc k)) n
unfolding sum_to
sum_to-first f zero = omega arith
sum_to-first f (suc n) = omega (arith, sum_to-first f n)

pub sum_to-add : (f g : ℕ → ℕ) (n : ℕ) → sum_to (λ k. f k + g k) n ≡ sum_to f n + sum_to g n
unfolding sum_to
sum_to-add f g zero = refl
sum_to-add f g (suc n) = omega (arith, sum_to-add f g n)

pub sum_to-scale : (f : ℕ → ℕ) (m n : ℕ) → sum_to (λ k. f k * m) n ≡ sum_to f n * m
unfolding sum_to
sum_to-scale f m zero = sym (zero-mul m)
sum_to-scale f m (suc n) = rw (add-mul, sum_to-scale f m n)

pub sum_to-zero : (f : ℕ → ℕ) (n : ℕ) → ((k : ℕ) → k < n → f k ≡ 0) → sum_to f n ≡ 0
unfolding sum_to
sum_to-zero f zero all = refl
sum_to-zero f (suc n) all = omega (arith, sum_to-zero f n (λ k h. all k (omega arith)), all n (omega arith))

-- parts that are no less and sum to no more are equal
pub sum_to-tight : (f g : ℕ → ℕ) (n : ℕ) → ((k : ℕ) → k < n → f k ≤ g k) → sum_to g n ≤ sum_to f n → (k : ℕ) → k < n → f k ≡ g k
unfolding sum_to
sum_to-tight f g zero all le k l = absurd (not-suc-le-zero l)
sum_to-tight f g (suc n) all le k l =
    below_suc (λ j. f j ≡ g j) n
    (sum_to-tight f g n (λ j h. all j (omega arith)) (omega (arith, all n (omega arith))))
    (omega (arith, all n (omega arith), sum_to-mono f g n (λ j h. all j (omega arith))))
    k l

-- f and g agree but at s
pub sum_to-but : (f g : ℕ → ℕ) (n s : ℕ) → s < n → ((k : ℕ) → k < n → (k ≡ s → ⊥) → f k ≡ g k) → sum_to g n + f s ≡ sum_to f n + g s
unfolding sum_to
sum_to-but f g zero s l same = absurd (not-suc-le-zero l)
sum_to-but f g (suc n) s l same =
    ⊎_elim
    (λ (e : s ≡ n). omega (arith, sum_to-cong f g n (λ k h. same k (omega arith) (λ q. omega arith)), ap f e, ap g e))
    (λ (lt : s < n). omega (arith, sum_to-but f g n s lt (λ k h ne. same k (omega arith) ne), same n (omega arith) (λ q. omega arith)))
    (eq-or-lt_of_le (le_of_suc-le-suc l))

-- two sums, one within the other, the other way round
pub sum_to-swap : (f : ℕ → ℕ → ℕ) (n m : ℕ) → sum_to (λ i. sum_to (λ k. f i k) m) n ≡ sum_to (λ k. sum_to (λ i. f i k) n) m
unfolding sum_to
sum_to-swap f zero m = sym (sum_to-zero (λ k. 0) m (λ k h. refl))
sum_to-swap f (suc n) m =
    ap (λ (s : ℕ). s + sum_to (λ k. f n k) m) (sum_to-swap f n m) ∙ sym (sum_to-add (λ k. sum_to (λ i. f i k) n) (λ k. f n k) m)

-- n terms of at least 1
pub sum_to-least : (f : ℕ → ℕ) (n : ℕ) → ((k : ℕ) → k < n → 1 ≤ f k) → n ≤ sum_to f n
unfolding sum_to
sum_to-least f zero all = zero-le
sum_to-least f (suc n) all = omega (arith, sum_to-least f n (λ k h. all k (omega arith)), all n (omega arith))

-- all terms but one are 0
pub sum_to-one : (f : ℕ → ℕ) (n s : ℕ) → s < n → ((k : ℕ) → k < n → (k ≡ s → ⊥) → f k ≡ 0) → sum_to f n ≡ f s
sum_to-one f n s l none = omega (arith, sum_to-but f (λ _. 0) n s l none, sum_to-zero (λ _. 0) n (λ k h. refl))

pub only_if-sum : (test : Bool) (f : ℕ → ℕ) (n : ℕ) → only_if test (sum_to f n) ≡ sum_to (λ k. only_if test (f k)) n
only_if-sum true f n = refl
only_if-sum false f n = sym (sum_to-zero (λ _. 0) n (λ k h. refl))

-- ---- `sum_where`

-- more terms, tests that pass more, and terms that rise where the test passes
pub sum_where-rise : (test test' : ℕ → Bool) (f g : ℕ → ℕ) (n m : ℕ) → n ≤ m
    → ((k : ℕ) → k < n → test k ≡ true → (test' k ≡ true) × (f k ≤ g k)) → sum_where test f n ≤ sum_where test' g m
sum_where-rise test test' f g n m h all =
    le_trans (sum_to-mono _ _ n (λ k l. go (test k) (test' k) (all k l))) (sum_to-prefix (λ k. only_if (test' k) (g k)) n m h)
  where
    go : {x y : ℕ} (t t' : Bool) → (t ≡ true → (t' ≡ true) × (x ≤ y)) → only_if t x ≤ only_if t' y
    go true t' rise = rw (rise refl).0 (rise refl).1
    go false t' rise = zero-le

pub sum_where-cong : (test : ℕ → Bool) (f g : ℕ → ℕ) (n : ℕ) → ((k : ℕ) → k < n → f k ≡ g k) → sum_where test f n ≡ sum_where test g n
sum_where-cong test f g n all = sum_to-cong _ _ n (λ k h. ap (only_if (test k)) (all k h))

pub sum_where-bound : (test : ℕ → Bool) (f : ℕ → ℕ) (n m : ℕ) → ((k : ℕ) → k < n → f k ≤ m) → sum_where test f n ≤ n * m
sum_where-bound test f n m all = sum_to-bound _ n m (λ k h. only_if-bound (test k) (all k h))

pub sum_where-zero : (test : ℕ → Bool) (f : ℕ → ℕ) (n : ℕ) → ((k : ℕ) → k < n → f k ≡ 0) → sum_where test f n ≡ 0
sum_where-zero test f n all = omega (arith, sum_where-bound test f n 0 (λ k h. omega (arith, all k h)))

-- where nothing passes the test
pub sum_where-none : (test : ℕ → Bool) (f : ℕ → ℕ) (n : ℕ) → ((k : ℕ) → k < n → test k ≡ false) → sum_where test f n ≡ 0
sum_where-none test f n never = sum_to-zero _ n (λ k h. ap (λ (t : Bool). only_if t (f k)) (never k h))

-- one more that passes adds its own
pub sum_where-joined : (test test' : ℕ → Bool) (f : ℕ → ℕ) (n s : ℕ) → s < n → test s ≡ false → test' s ≡ true
    → ((k : ℕ) → k < n → (k ≡ s → ⊥) → test' k ≡ test k) → sum_where test' f n ≡ sum_where test f n + f s
sum_where-joined test test' f n s l new own others =
    omega (
      arith,
      sum_to-but (λ k. only_if (test k) (f k)) (λ k. only_if (test' k) (f k)) n s l (λ k h other. ap (λ (t : Bool). only_if t (f k)) (sym (others k h other))),
      ap (λ (t : Bool). only_if t (f s)) new,
      ap (λ (t : Bool). only_if t (f s)) own,
    )

-- ---- `max_to`

pub max_to-none : (f : ℕ → ℕ) → max_to f 0 ≡ 0
unfolding max_to
max_to-none f = refl

pub max_to-next : (f : ℕ → ℕ) (n : ℕ) → max_to f (n + 1) ≡ max (max_to f n) (f n)
unfolding max_to
max_to-next f n = rw add-one

pub max_to-cong : (f g : ℕ → ℕ) (n : ℕ) → ((k : ℕ) → k < n → f k ≡ g k) → max_to f n ≡ max_to g n
unfolding max_to
max_to-cong f g zero all = refl
max_to-cong f g (suc n) all = ap₂ max (max_to-cong f g n (λ k h. all k (omega arith))) (all n (omega arith))

pub max_to-bound : (f : ℕ → ℕ) (n m : ℕ) → ((k : ℕ) → k < n → f k ≤ m) → max_to f n ≤ m
unfolding max_to
max_to-bound f zero m all = zero-le
max_to-bound f (suc n) m all = omega (arith, max_to-bound f n m (λ k h. all k (omega arith)), all n (omega arith))

-- each is at most the largest
pub max_to-part : (f : ℕ → ℕ) (n k : ℕ) → k < n → f k ≤ max_to f n
unfolding max_to
max_to-part f zero k l = absurd (not-suc-le-zero l)
max_to-part f (suc n) k l =
    below_suc (λ j. f j ≤ max_to f (suc n)) n (λ j h. omega (arith, max_to-part f n j h)) (omega arith) k l

-- nothing passes the test, or something does
pub none_or_some : (test : ℕ → Bool) (n : ℕ) → ((k : ℕ) → k < n → test k ≡ false) ⊎ ((k : ℕ) × (k < n) × (test k ≡ true))
none_or_some test zero = inl (λ k l. absurd (not-suc-le-zero l))
none_or_some test (suc n) = go (test n) refl (none_or_some test n)
  where
    go : (here : Bool) → test n ≡ here → ((k : ℕ) → k < n → test k ≡ false) ⊎ ((k : ℕ) × (k < n) × (test k ≡ true))
        → ((k : ℕ) → k < suc n → test k ≡ false) ⊎ ((k : ℕ) × (k < suc n) × (test k ≡ true))
    go true e rest = inr (n, omega arith, e)
    go false e (inl none) = inl (below_suc (λ k. test k ≡ false) n none e)
    go false e (inr some) = inr (some.0, (let l : some.0 < n = some.1 in omega arith), some.2)

-- ---- `count_to`

pub count_to-none : (test : ℕ → Bool) → count_to test 0 ≡ 0
unfolding count_to
count_to-none test = sum_to-none (λ k. only_if (test k) 1)

pub count_to-next : (test : ℕ → Bool) (n : ℕ) → count_to test (n + 1) ≡ count_to test n + only_if (test n) 1
unfolding count_to
count_to-next test n = sum_to-next (λ k. only_if (test k) 1) n

pub count_to-cong : (test test' : ℕ → Bool) (n : ℕ) → ((k : ℕ) → k < n → test k ≡ test' k) → count_to test n ≡ count_to test' n
unfolding count_to
count_to-cong test test' n all = sum_to-cong _ _ n (λ k h. ap (λ t. only_if t 1) (all k h))

pub count_to-bound : (test : ℕ → Bool) (n : ℕ) → count_to test n ≤ n
unfolding count_to
count_to-bound test n = omega (arith, mul-one n, sum_to-bound (λ k. only_if (test k) 1) n 1 (λ k h. only_if-bound (test k) (omega arith)))

pub count_to-split : (p : ℕ → Bool) (n m : ℕ) → count_to p (n + m) ≡ count_to p n + count_to (λ k. p (n + k)) m
unfolding count_to
count_to-split p n m = sum_to-split (λ k. only_if (p k) 1) n m

pub count_to-zero : (test : ℕ → Bool) (n : ℕ) → ((k : ℕ) → k < n → test k ≡ false) → count_to test n ≡ 0
unfolding count_to
count_to-zero test n never = sum_to-zero (λ k. only_if (test k) 1) n (λ k h. ap (λ t. only_if t 1) (never k h))

pub count_to-first : (test : ℕ → Bool) (n : ℕ) → count_to test (suc n) ≡ only_if (test 0) 1 + count_to (λ k. test (suc k)) n
unfolding count_to
count_to-first test n = sum_to-first (λ k. only_if (test k) 1) n

-- two tests that agree but at s
pub count_to-but : (test test' : ℕ → Bool) (n s : ℕ) → s < n → ((k : ℕ) → k < n → (k ≡ s → ⊥) → test k ≡ test' k)
    → count_to test' n + only_if (test s) 1 ≡ count_to test n + only_if (test' s) 1
unfolding count_to
count_to-but test test' n s l same =
    sum_to-but (λ k. only_if (test k) 1) (λ k. only_if (test' k) 1) n s l (λ k h ne. ap (λ t. only_if t 1) (same k h ne))

-- ---- `any_to`

pub any_to-none : (test : ℕ → Bool) → any_to test 0 ≡ false
unfolding any_to
any_to-none test = refl

pub any_to-next : (test : ℕ → Bool) (n : ℕ) → any_to test (n + 1) ≡ (any_to test n || test n)
unfolding any_to
any_to-next test n = rw add-one

pub any_to-cong : (test test' : ℕ → Bool) (n : ℕ) → ((k : ℕ) → k < n → test k ≡ test' k) → any_to test n ≡ any_to test' n
unfolding any_to
any_to-cong test test' zero all = refl
any_to-cong test test' (suc n) all = ap₂ ◌||◌ (any_to-cong test test' n (λ k h. all k (omega arith))) (all n (omega arith))

pub any_to-false : (test : ℕ → Bool) (n : ℕ) → ((k : ℕ) → k < n → test k ≡ false) → any_to test n ≡ false
unfolding any_to
any_to-false test zero none = refl
any_to-false test (suc n) none = ap₂ ◌||◌ (any_to-false test n (λ k h. none k (omega arith))) (none n (omega arith))

-- one that passes is enough
pub any_to-some : (test : ℕ → Bool) (n k : ℕ) → k < n → test k ≡ true → any_to test n ≡ true
unfolding any_to
any_to-some test zero k h e = absurd (not-suc-le-zero h)
any_to-some test (suc n) k h e =
    below_suc (λ j. test j ≡ true → (any_to test n || test n) ≡ true) n (λ j l here. ap (λ t. t || test n) (any_to-some test n j l here))
    (λ here. ap (λ t. any_to test n || t) here ∙ or-true (any_to test n)) k h e

-- a test that passes more, further on
pub any_to-rise : (test test' : ℕ → Bool) (n m : ℕ) → n ≤ m → ((k : ℕ) → k < n → test k ≡ true → test' k ≡ true) → any_to test n ≡ true → any_to test' m ≡ true
unfolding any_to
any_to-rise test test' zero m h all e = absurd (false≢true e)
any_to-rise test test' (suc n) m h all e = go (test n) refl (any_to-rise test test' n m (omega arith) (λ k l. all k (omega arith)))
  where
    go : (t : Bool) → test n ≡ t → (any_to test n ≡ true → any_to test' m ≡ true) → any_to test' m ≡ true
    go true q next = any_to-some test' m n h (all n (omega arith) q)
    go false q next = next (sym (or-false (any_to test n)) ∙ ap (λ (t : Bool). any_to test n || t) (sym q) ∙ e)
