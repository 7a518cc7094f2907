-- The settled times of any ascending step are the least choice of times, or one is late and there is no choice.
-- A choice is times that no pass raises, and the settled times are below all of these. They stand still under a pass, so that where none is
-- late, no cap has cut a sum, each sum is its time, and they are a choice themselves. A late one is above its task's bound, and so would be
-- its time in every choice.
-- Assumes nothing.
use mathlib.Core.List.{List}
use mathlib.Core.Path.{ap}
use Prim.Native.Nat.{ℕ, ◌≤◌, ◌<◌, zero-le}
use native.Mathlib.Omega.{arith}
use lib.ListN.{get_or}
use borrow.Author.Tests.{ltb-true, ltb-false}
use Rattle.folds.proofs.Searches.{First, first_from-first}
use Rattle.passes.specs.Passes.{System, pass, settled_by, settled, is_late, first_late, SmallestLate, Choice, NoChoice, Below, LeastChoice}
use Rattle.passes.proofs.Ascending.{Ascending, get_d-pass, choice-closed}
use Rattle.passes.proofs.Settling.{settled-length, settled-pass, settled-capped, settled-stays}

module _ {S : System} {step : List ℕ → List ℕ} (up : Ascending S step) where
  -- where no task settled past its bound, the settled times are a choice
  pub settled-choice : ((i : ℕ) → i < S.count → get_or (settled_by S step) i 0 ≤ S.bound i) → Choice S (settled_by S step)
  settled-choice within =
      record {
        size = settled-length up;
        within = within;
        meets = λ i h. omega (arith, within i h, get_d-pass S (settled_by S step) i h, ap (λ (R : List ℕ). get_or R i 0) (settled-pass up));
      }

  -- the settled times are below every choice
  pub settled-least : (C : List ℕ) → Choice S C → Below S.count (settled_by S step) C
  settled-least C choice = settled-stays up C (choice-closed S C choice)

  -- where a task settled past its bound, there is no choice
  pub late-no-choice : (i : ℕ) → i < S.count → S.bound i < get_or (settled_by S step) i 0 → NoChoice S
  late-no-choice i h late C choice = omega (arith, settled-least C choice i h, choice.within i h)

-- ---- the first late task

module _ (S : System) (R : List ℕ) where
  first : First (is_late S R) S.count 0 (first_late S R)
  unfolding first_late
  first = first_from-first (is_late S R) S.count 0

  -- it is late
  pub first_late-late : first_late S R < S.count → S.bound (first_late S R) < get_or R (first_late S R) 0
  first_late-late h = ltb-true (S.bound (first_late S R)) (get_or R (first_late S R) 0) (first.here (omega arith))

  -- and no task before it is
  pub first_late-before : (k : ℕ) → k < first_late S R → get_or R k 0 ≤ S.bound k
  first_late-before k l = ltb-false (S.bound k) (get_or R k 0) (first.before k zero-le l)

module _ {S : System} {step : List ℕ → List ℕ} (up : Ascending S step) where
  -- a first late task: there is no choice
  pub first_late-no-choice : first_late S (settled_by S step) < S.count → NoChoice S
  first_late-no-choice h = late-no-choice up (first_late S (settled_by S step)) h (first_late-late S (settled_by S step) h)

  -- no late task: the settled times are the least choice
  pub first_late-none : S.count ≤ first_late S (settled_by S step) → LeastChoice S (settled_by S step)
  first_late-none h =
      record {
        choice = settled-choice up (λ i l. first_late-before S (settled_by S step) i (omega arith));
        least = settled-least up;
      }

-- the first late task of Analyse is the smallest that settled at its bound + 1
pub first_late-smallest : {S : System} → Ascending S (pass S) → first_late S (settled S) < S.count → SmallestLate S (first_late S (settled S))
first_late-smallest {S} up h =
    record {
      task = h;
      late = omega (arith, first_late-late S (settled S) h, settled-capped up (first_late S (settled S)) h);
      smallest = λ k l e. omega (arith, first_late-before S (settled S) k (omega arith));
    }
