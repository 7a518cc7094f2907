-- How large the sums over other cores can be on the way.
-- Assumes nothing.
use Prim.Native.Nat.{ℕ, ◌+◌, ◌*◌, ◌≤◌, ◌<◌, min}
use mathlib.Core.Bool.{◌&&◌}
use mathlib.Core.List.{List}
use native.Mathlib.Omega.{arith}
use lib.Dec.{leb}
use Rattle.folds.specs.Folds.{only_if, sum_to}
use Rattle.folds.proofs.Numbers.{only_if-bound}
use Rattle.board.specs.Layout.{most_tasks, cores, tasks, slots, core}
use Rattle.sums.specs.Sums.{is_other, over_cores, carry_in, core_accesses}
use Rattle.sums.specs.Limits.{most_cores, latest_time, most_carry_in, most_accesses}
use Rattle.sums.specs.Inputs.{RowInput}
use Rattle.sums.proofs.Bounds.{where-bound, carry_in-bound, core_accesses-bound}
use Rattle.carried.specs.Terms.{carried_if, cores_from}

module _ (b row R : List ℕ) (j t : ℕ) (h : RowInput b row R j) (early : t ≤ latest_time) where
  pub carry-bound : (k : ℕ) → k < tasks b → carry_in b R t j k ≤ most_carry_in
  carry-bound = carry_in-bound b R h.sound h.times t early j

  -- of the tasks off core x
  pub carry_off-bound : (x k : ℕ) → k < tasks b → only_if (is_other x (core b k)) (carry_in b R t j k) ≤ most_carry_in
  carry_off-bound x k l = only_if-bound (is_other x (core b k)) (carry-bound k l)

  pub carried_if-bound : (x a m : ℕ) → m ≤ j + 1 → sum_to (carried_if b R t x j a) m ≤ most_accesses
  carried_if-bound x a m few =
      where-bound m most_tasks most_carry_in (λ k. leb a k && is_other x (core b k)) (λ k. carry_in b R t j k) (omega (arith, h.sound.tasks.1, h.task))
      (λ k l. carry-bound k (omega (arith, h.task)))

  -- of one core, and of some
  pub core-bound : (y : ℕ) → core_accesses b R t j y ≤ most_accesses
  core-bound y = core_accesses-bound b R h.sound h.times t early j y h.task

  pub cores_from-bound : (first n : ℕ) → n ≤ most_cores → cores_from b R t j first n ≤ most_cores * most_accesses
  unfolding cores_from
  cores_from-bound first n few =
      where-bound n most_cores most_accesses (λ y. leb first (y + 1)) (λ y. core_accesses b R t j (y + 1)) few (λ y l. core-bound (y + 1))

  -- of all cores but x, within their slots
  pub slots-bound : (x s : ℕ) → over_cores b (is_other x) (λ y. min (core_accesses b R t j y) (slots b y * s)) ≤ most_cores * most_accesses
  slots-bound x s =
      where-bound (cores b) most_cores most_accesses (λ y. is_other x (y + 1)) (λ y. min (core_accesses b R t j (y + 1)) (slots b (y + 1) * s)) h.sound.cores.1
      (λ y l. omega (arith, core-bound (y + 1)))
