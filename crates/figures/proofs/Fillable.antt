-- What the records are filled from, of a board that passed its checks.
-- Assumes nothing.
use Prim.Native.Nat.{ℕ, ◌*◌, ◌≤◌}
use mathlib.Core.List.{List}
use mathlib.Core.Path.{◌≡◌, sym, subst}
use native.Mathlib.Nat.{not-suc-le-zero}
use native.Mathlib.Omega.{arith}
use lib.ListN.{length}
use Rattle.board.specs.Layout.{tasks}
use Rattle.board.specs.Sound.{Sound}
use Rattle.figures.specs.Survey.{Surveyed, Fillable}

-- the figures of no task
pub surveyed-none : (b : List ℕ) (n : ℕ) (words sets : List ℕ) → Surveyed b n 0 words sets
surveyed-none b n words sets = record {
  pd = λ k h. absurd (not-suc-le-zero h);
  md = λ k h. absurd (not-suc-le-zero h);
  ecb = λ k h. absurd (not-suc-le-zero h);
}

-- every task
pub fillable-tasks : {b : List ℕ} {n : ℕ} {words sets : List ℕ} → Sound b → n ≡ tasks b → 4 * n ≤ length words → Surveyed b n n words sets
    → Fillable b n words sets
fillable-tasks sound all room held =
    record {
      few = omega (arith, all, sound.tasks);
      ready = λ k h. record { sound = sound; task = omega arith };
      room = room;
      surveyed = held;
    }

-- no task
pub fillable-none : {b words sets : List ℕ} → Fillable b 0 words sets
fillable-none =
    record {
      few = omega arith;
      ready = λ k h. absurd (omega arith);
      room = omega arith;
      surveyed = surveyed-none _ _ _ _;
    }

-- figures that are held of n tasks, where n is the number of tasks
pub surveyed-tasks : {b : List ℕ} {n count : ℕ} {words sets : List ℕ} → n ≡ tasks b → Surveyed b (tasks b) count words sets → Surveyed b n count words sets
surveyed-tasks {b} {n} {count} {words} {sets} all held = subst (λ (m : ℕ). Surveyed b m count words sets) (sym all) held
