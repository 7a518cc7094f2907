-- The scan over the points of a trace: for any numbers that the marks move, what the row was raised by and the present point stand for all points passed.
-- Assumes nothing.
use Prim.Native.Nat.{ℕ, ◌+◌, ◌*◌, ◌<◌, max}
use mathlib.Core.Bool.{Bool, true, false, not, ◌&&◌, ◌||◌, or-true, false≢true}
use mathlib.Core.List.{List}
use mathlib.Core.Path.{◌≡◌, refl, sym, ap, ◌∙◌}
use native.Mathlib.Omega.{arith}
use Rattle.folds.specs.Folds.{only_if, max_to}
use Rattle.folds.proofs.Numbers.{only_if-zero}
use Rattle.folds.proofs.Folds.{sum_to-cong, sum_where-zero, max_to-none}
use Rattle.counts.specs.Planes.{sets_of}
use Rattle.counts.specs.Counted.{count_by}
use Rattle.figures.specs.Overhead.{evicted_by}
use Rattle.figures.specs.Rows.{same_core, on_core_of, raised}
use Rattle.figures.proofs.Rows.{raised-none, raised-more}
use Rattle.scan.specs.Levels.{Turning, Shown, at_point}
use Rattle.scan.proofs.Positions.{Neither, point-keeps, point-adds}
use Rattle.scan.proofs.Counting.{Standing, standing-start, standing-turn, standing-end}

module _ (b : List ℕ) (i c : ℕ) (f : ℕ → ℕ → ℕ) (len : ℕ) (row₀ : List ℕ) where
  -- at point p; `fresh` is whether it is still to be counted. `most` is what was counted, by any sets
  pub record Scanned (row : List ℕ) (fresh : Bool) (p : ℕ) : Type 0 where
    pub most : (ℕ → Bool) → ℕ
    pub raises : row ≡ raised (on_core_of b i (λ j. most (evicted_by b j))) i row₀
    pub standing : (test : ℕ → Bool) → Standing (at_point c f test) (most test) fresh p
    pub all : p ≡ len → (test : ℕ → Bool) → most test ≡ max_to (at_point c f test) p

  -- nothing is useful at the first point
  pub scan-start : ((s : ℕ) → s < sets_of c → f 0 s ≡ 0) → Scanned row₀ false 0
  scan-start none = record {
    most = λ test. 0;
    raises = raised-none _ i row₀ (λ j h. only_if-zero (same_core b i j) _ refl);
    standing = λ test.
        standing-start (at_point c f test) 0 0 false (sym (max_to-none (at_point c f test))) (λ e. sum_where-zero test (f 0) (sets_of c) none);
    all = λ e test. sym (max_to-none (at_point c f test));
  }

  -- one turn of the code: `lost` wherever a block is lost or the points end, and `came` wherever a number grows
  module _ (planes : ℕ) (marks : List ℕ) (turning : Turning c f marks (2 * len)) (live row row' : List ℕ) (p : ℕ) (fresh lost came : Bool) (l : p < len)
      (shown : Shown c f (2 * p) planes live) where
    -- the count of the code is that of the point
    here : (test : ℕ → Bool) → count_by c live planes test ≡ at_point c f test p
    unfolding count_by
    here test = sum_to-cong _ _ (sets_of c) (λ s h. ap (only_if (test s)) (shown s h))

    pub scan-turn : row' ≡ raised (on_core_of b i (λ j. only_if (fresh && lost) (count_by c live planes (evicted_by b j)))) i row
        → (lost ≡ false → Neither marks p 2) → (p + 1 ≡ len → lost ≡ true) → (came ≡ false → Neither marks p 1)
        → Scanned row fresh p → Scanned row' ((fresh && not lost) || came) (p + 1)
    scan-turn e keeps ends adds so_far = record {
      most = λ test. max (so_far.most test) (only_if (fresh && lost) (at_point c f test p));
      raises = raised-more b i (λ j. so_far.most (evicted_by b j)) _ _ row₀ row row' so_far.raises e
          (λ j. ap (λ (x : ℕ). max (so_far.most (evicted_by b j)) (only_if (fresh && lost) x)) (here (evicted_by b j)));
      standing = λ test.
          standing-turn (at_point c f test) p (so_far.most test) _ fresh lost came refl
          (λ q. point-keeps c f marks (2 * len) planes turning p (omega arith) test (keeps q))
          (λ q. point-adds c f marks (2 * len) planes turning p (omega arith) test (adds q)) (so_far.standing test);
      all = λ q test. standing-end (at_point c f test) p (so_far.most test) _ fresh lost refl (ends q) (so_far.standing test);
    }

-- ---- tests of the code

pub neither : (a b : Bool) → (a || b) ≡ false → (a ≡ false) × (b ≡ false)
neither true b e = absurd (false≢true (sym e))
neither false b e = (refl, e)

pub or-last : (a : Bool) {b : Bool} → b ≡ true → (a || b) ≡ true
or-last a e = ap (λ (t : Bool). a || t) e ∙ or-true a
