-- What is delivered, by the first late task.
-- Assumes nothing.
use Prim.Native.Nat.{ℕ, ◌≤◌, ◌<◌, zero-le}
use mathlib.Core.Bool.{Bool, true, false, cond, false≢true}
use mathlib.Core.List.{List}
use mathlib.Core.Path.{◌≡◌, refl, sym}
use native.Mathlib.Omega.{arith}
use lib.Dec.{ltb}
use lib.ListN.{get_or}
use Rattle.std.specs.Prelude.{Option, Some, None, MatchOption}
use borrow.Author.Tests.{lt-ltb, le-ltb, ltb-true, ltb-false}
use Rattle.std.specs.Option.{is_some}
use Rattle.std.proofs.lemmas.Option.{cond_some, none-some}
use Rattle.folds.specs.Folds.{fill_to, first_from}
use Rattle.folds.proofs.Searches.{first_from-here, first_from-none}
use Rattle.passes.specs.Passes.{System, is_late, first_late}
use Rattle.settling.specs.Delivered.{late_task, delivered}

-- the first late task
module _ (S : System) (R : List ℕ) where
  pub late_task-some : (i : ℕ) → late_task S R ≡ Some i → (first_late S R ≡ i) × (i < S.count)
  unfolding late_task
  late_task-some i e =
      let late = cond_some (ltb (first_late S R) S.count) (first_late S R) i e in
      (late.1, omega (arith, late.1, ltb-true (first_late S R) S.count late.0))

  pub late_task-none : late_task S R ≡ None → S.count ≤ first_late S R
  unfolding late_task
  late_task-none e = go (ltb (first_late S R) S.count) refl e
    where
      go : (t : Bool) → ltb (first_late S R) S.count ≡ t → cond {A = Option ℕ} t (Some (first_late S R)) None ≡ None → S.count ≤ first_late S R
      go true _ r = absurd (none-some (first_late S R) (sym r))
      go false q _ = ltb-false (first_late S R) S.count q

-- as a search from the first task on finds it
pub late_task-is : (S : System) (R : List ℕ) {n : ℕ} → n ≡ S.count → (r : Option ℕ)
    → MatchOption r ((k : ℕ) → 0 ≤ k → k < n → is_late S R k ≡ false)
    (λ i. (0 ≤ i) × (i < n) × (is_late S R i ≡ true) × ((k : ℕ) → 0 ≤ k → k < i → is_late S R k ≡ false))
    → r ≡ late_task S R
unfolding late_task first_late
late_task-is S R tasks None none =
    let past = first_from-none (is_late S R) S.count (λ k h. none k zero-le (rw tasks h)) in
    rw (le-ltb (first_from (is_late S R) S.count 0) S.count (omega arith)) refl
late_task-is S R tasks (Some i) found =
    let at = first_from-here (is_late S R) S.count i (rw (← tasks) found.1) (λ k h. found.3 k zero-le h) found.2 in
    rw (at, lt-ltb i S.count (rw (← tasks) found.1)) refl

-- the times buffer, where no task is late and where one is
module _ (S : System) (R : List ℕ) (old : List ℕ) where
  pub delivered-none : {n : ℕ} {new : List ℕ} → n ≡ S.count → is_some (late_task S R) ≡ false → new ≡ fill_to (λ k. get_or R k 0) n old → new ≡ delivered S R old
  unfolding late_task delivered
  delivered-none {n} {new} tasks none given = go (ltb (first_late S R) S.count) none
    where
      go : (t : Bool) → is_some (cond {A = Option ℕ} t (Some (first_late S R)) None) ≡ false → new ≡ cond t old (fill_to (λ k. get_or R k 0) S.count old)
      go true e = absurd (false≢true (sym e))
      go false _ = rw (← tasks) given

  pub delivered-late : is_some (late_task S R) ≡ true → old ≡ delivered S R old
  unfolding late_task delivered
  delivered-late some = go (ltb (first_late S R) S.count) some
    where
      go : (t : Bool) → is_some (cond {A = Option ℕ} t (Some (first_late S R)) None) ≡ true → old ≡ cond t old (fill_to (λ k. get_or R k 0) S.count old)
      go true _ = refl
      go false e = absurd (false≢true e)
