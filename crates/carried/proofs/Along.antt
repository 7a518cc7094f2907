-- A(n, y) added up along the links of core y.
-- Assumes nothing.
use Prim.Native.Nat.{ℕ, ◌+◌, ◌≤◌}
use mathlib.Core.List.{List}
use mathlib.Core.Path.{◌≡◌, ap, ◌∙◌}
use native.Mathlib.Nat.{le_trans}
use native.Mathlib.Omega.{arith}
use Rattle.std.specs.Prelude.{Option, None}
use Rattle.folds.specs.Folds.{last_to}
use Rattle.folds.proofs.Last.{Traversed}
use Rattle.board.specs.Layout.{tasks}
use Rattle.sums.specs.Sums.{carry_in, core_accesses}
use Rattle.sums.specs.Limits.{most_accesses}
use Rattle.sums.specs.Links.{is_on}
use Rattle.sums.specs.Inputs.{CoresInput}
use Rattle.linked_tasks.specs.Numbered.{task_numbered}
use Rattle.linked_tasks.proofs.Along.{Along, along-start, along-end}
use Rattle.carried.proofs.Bounds.{core-bound}

module _ (b links row R : List ℕ) (t j y : ℕ) (h : CoresInput b links row R t j) where
  whole : tasks b ≡ j + 1
  whole = omega (arith, h.last, h.rows.task)

  pub accesses-start : {next : Option ℕ} → next ≡ task_numbered (last_to (is_on b y) (tasks b)) → Along b y (carry_in b R t j) (j + 1) 0 next
  accesses-start first = along-start b y (carry_in b R t j) (j + 1) (first ∙ ap (λ (n : ℕ). task_numbered (last_to (is_on b y) n)) whole)

  module _ {sum k : ℕ} (so_far : Traversed (is_on b y) (carry_in b R t j) (j + 1) sum k) where
    -- a part of A(n, y)
    pub accesses-below : sum ≤ core_accesses b R t j y
    unfolding core_accesses
    accesses-below = omega (arith, so_far.rest)

    pub accesses-few : sum ≤ most_accesses
    accesses-few = le_trans accesses-below (core-bound b row R j t h.rows h.early y)

  -- all of it
  pub accesses-end : {sum : ℕ} {next : Option ℕ} → Along b y (carry_in b R t j) (j + 1) sum next → next ≡ None → sum ≡ core_accesses b R t j y
  unfolding core_accesses
  accesses-end so_far none = along-end b y (carry_in b R t j) (j + 1) so_far none
