-- Laws of a row of overheads, raised word by word.
-- Assumes nothing.
use Prim.Native.Nat.{ℕ, ◌+◌, ◌*◌, ◌≤◌, ◌<◌, max}
use mathlib.Core.Bool.{Bool, false, true, ◌&&◌}
use mathlib.Core.List.{List}
use mathlib.Core.Path.{◌≡◌, refl, sym, ap, ◌∙◌}
use Rattle.std.proofs.Common.{Option, Some, None, option_map}
use native.Mathlib.Nat.{mul-le-mul_right, add-mul, one-mul}
use native.Mathlib.Omega.{arith}
use lib.Dec.{eqb}
use lib.ListN.{get_or}
use Rattle.folds.specs.Folds.{only_if, fill_to}
use Rattle.folds.proofs.Folds.{any_to-rise}
use Rattle.folds.proofs.Lists.{length-fill_to, fill_to-below, fill_to-from, fill_to-is, fill_to-cong}
use Rattle.board.specs.Layout.{core}
use Rattle.counts.specs.Counted.{count_by}
use Rattle.counts.proofs.Planes.{count_by-rise}
use Rattle.figures.specs.Figures.{evicting}
use Rattle.figures.specs.Overhead.{evicted_by}
use Rattle.figures.specs.Rows.{on_core_of, raised}

-- ---- a list filled with what stands there

pub fill_to-same : (f : ℕ → ℕ) (xs : List ℕ) (n : ℕ) → ((k : ℕ) → k < n → f k ≡ get_or xs k 0) → fill_to f n xs ≡ xs
fill_to-same f xs n same = sym (fill_to-is f xs 0 n xs refl (λ k l w. sym (same k l)) (λ k l. refl))

-- ---- a row that is raised

pub raised-none : (f : ℕ → ℕ) (i : ℕ) (row : List ℕ) → ((j : ℕ) → j < i → f j ≡ 0) → row ≡ raised f i row
raised-none f i row none = sym (fill_to-same _ row i (λ j h. omega (arith, none j h)))

-- raised twice
raised_both : (f g : ℕ → ℕ) (i : ℕ) (row : List ℕ) → raised g i (raised f i row) ≡ raised (λ j. max (f j) (g j)) i row
raised_both f g i row =
    let once : ℕ → ℕ = λ j. max (get_or row j 0) (f j) in
    let twice : ℕ → ℕ = λ j. max (get_or (raised f i row) j 0) (g j) in
    fill_to-is (λ j. max (get_or row j 0) (max (f j) (g j))) row 0 i (raised g i (raised f i row)) (length-fill_to twice (raised f i row) i ∙ length-fill_to once row i)
    (λ j l w. omega (arith, fill_to-below twice (raised f i row) 0 i j l (omega (arith, length-fill_to once row i)), fill_to-below once row 0 i j l w))
    (λ j l. fill_to-from twice (raised f i row) 0 i j l ∙ fill_to-from once row 0 i j l)

only_if-max : (test : Bool) (x y : ℕ) → max (only_if test x) (only_if test y) ≡ only_if test (max x y)
only_if-max true x y = refl
only_if-max false x y = refl

-- by F on the core of task i, and then by G
pub raised-more : (b : List ℕ) (i : ℕ) (F G H : ℕ → ℕ) (row out next : List ℕ) → out ≡ raised (on_core_of b i F) i row
    → next ≡ raised (on_core_of b i G) i out → ((j : ℕ) → max (F j) (G j) ≡ H j) → next ≡ raised (on_core_of b i H) i row
raised-more b i F G H row out next e q both =
    q ∙ ap (raised (on_core_of b i G) i) e ∙ raised_both (on_core_of b i F) (on_core_of b i G) i row
    ∙ fill_to-cong _ _ row i
    (λ j l. ap (max (get_or row j 0)) (only_if-max (eqb (core b i) (core b j)) (F j) (G j) ∙ ap (only_if (eqb (core b i) (core b j))) (both j)))

-- ---- a row that may not be there

pub row-stays : (raise : List ℕ → List ℕ) (row : Option (List ℕ)) → ((l : List ℕ) → l ≡ raise l) → row ≡ option_map raise row
row-stays raise None same = refl
row-stays raise (Some l) same = ap Some (same l)

pub row-absent : (raise : List ℕ → List ℕ) (row : Option (List ℕ)) → ((l : List ℕ) → row ≡ Some l → ⊥) → row ≡ option_map raise row
row-absent raise None none = refl
row-absent raise (Some l) none = absurd (none l refl)

pub row-twice : (f g h : List ℕ → List ℕ) (row : Option (List ℕ)) {out next : Option (List ℕ)} → out ≡ option_map f row → next ≡ option_map g out
    → ((l : List ℕ) → g (f l) ≡ h l) → next ≡ option_map h row
row-twice f g h row e q both = q ∙ ap (option_map g) e ∙ go row
  where
    go : (row : Option (List ℕ)) → option_map g (option_map f row) ≡ option_map h row
    go None = refl
    go (Some l) = ap Some (both l)

-- ---- counts by what the tasks of a core evict

-- a lower task evicts what a higher one on its core does
evicted_by-rise : (b : List ℕ) (j k s : ℕ) → j ≤ k → core b j ≡ core b k → evicted_by b j s ≡ true → evicted_by b k s ≡ true
unfolding evicted_by
evicted_by-rise b j k s h same =
    any_to-rise (λ t. eqb (core b t) (core b j) && evicting b t s) (λ t. eqb (core b t) (core b k) && evicting b t s) (j + 1) (k + 1) (omega arith)
    (λ t l e. sym (ap (λ (x : ℕ). eqb (core b t) x && evicting b t s) same) ∙ e)

-- so that no more useful blocks are in the sets that the higher one evicts
pub count-rise : (b : List ℕ) (c : ℕ) (live : List ℕ) (planes j k : ℕ) → j ≤ k → core b j ≡ core b k
    → count_by c live planes (evicted_by b j) ≤ count_by c live planes (evicted_by b k)
count-rise b c live planes j k h same = count_by-rise c live planes (evicted_by b j) (evicted_by b k) (λ s l. evicted_by-rise b j k s h same)

-- ---- the table

-- row i of n words lies before row m
pub row_within : (n m i : ℕ) → i < m → i * n + n ≤ m * n
row_within n m i h =
    let step : (i + 1) * n ≤ m * n = mul-le-mul_right n (let l : i + 1 ≤ m = omega arith in l) in
    let more : (i + 1) * n ≡ i * n + n = add-mul i 1 n ∙ ap (λ (x : ℕ). i * n + x) (one-mul n) in
    omega arith
