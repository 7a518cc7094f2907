-- `carried::cores::Cores::cores_sum` meets its contract.
use native.Mathlib.Nat.{le_trans}
use native.Mathlib.Omega.{arith}
use mathlib.Core.Path.{◌≡◌, sym, ap, ◌∙◌}
use Prim.Native.Nat.{ℕ, ◌+◌, ◌-◌, ◌*◌, ◌≤◌}
use mathlib.Core.List.{List}
use Rattle.folds.specs.Reaches.{Reaches}
use Rattle.folds.proofs.Reaches.{reaches_all, reaches-cap, reaches-add, reaches-turn, reaches_end}
use Rattle.sums.specs.Limits.{most_cores, most_accesses}
use Rattle.sums.specs.Inputs.{CoresInput}
use Rattle.carried.specs.Terms.{cores_from}
use Rattle.carried.proofs.ByCore.{cores_from-none, cores_from-next, cores_from-prefix}
use Rattle.carried.proofs.Bounds.{cores_from-bound}
use Rattle.carried.proofs.Inputs.{input}
use Rattle.carried.proofs.cores.Cores.cores_sum.Goals as goal

-- the sum over the cores so far, of those up to `last`
module _ (b links row R : List ℕ) (t j first last : ℕ) (h : CoresInput b links row R t j) {cap sum y : ℕ} (so_far : Reaches cap sum (cores_from b R t j first (y - 1)))
    (low : y ≤ last + 1) where
  below : sum ≤ cores_from b R t j first last
  below = le_trans so_far.below (cores_from-prefix b R t j first (y - 1) last (omega (arith, low)))

  few : last ≤ most_cores → sum ≤ most_cores * most_accesses
  few all = le_trans below (cores_from-bound _ _ _ _ _ h.rows h.early first last all)

pub loop-y-init : goal.loop-y-init
loop-y-init c = let a = c.args in
    let w = a.self.now.window in
    reaches_all (sym (cores_from-none w.board.now w.times.now w.t w.j a.first))

pub returns-then-cap-sum : goal.returns-then-cap-sum
returns-then-cap-sum c =
    let so_far = c.loop-y.invariant in (
      reaches-cap (omega arith) (below _ _ _ _ _ _ _ _ (input c.args.self.now) so_far (omega arith)),
      few _ _ _ _ _ _ _ _ (input c.args.self.now) so_far (omega arith) c.requires.1,
    )

pub overflow_add-sum : goal.overflow_add-sum
overflow_add-sum c =
    omega (arith, few _ _ _ _ _ _ _ _ (input c.args.self.now) c.loop-y.invariant (omega arith) c.requires.1, c.core_sum-sum.ensures.1)

pub loop-y-preserved : goal.loop-y-preserved
loop-y-preserved c =
    let a = c.args in
    let w = a.self.now.window in
    let y = c.loop-y.y in
    let back : y ≡ y + 1 - 1 = omega arith in
    let added = reaches-add c.loop-y.sum (omega arith) c.core_sum-sum.ensures.0 in
    reaches_end (reaches-turn _ c.loop-y.invariant added)
    (cores_from-next w.board.now w.times.now w.t w.j a.first y (omega arith) (omega arith) ∙ ap (cores_from w.board.now w.times.now w.t w.j a.first) back)

pub returns : goal.returns
returns c =
    let a = c.args in
    let w = a.self.now.window in
    let so_far = c.loop-y.invariant in
    let end : c.loop-y.y - 1 ≡ a.last = omega (arith, c.loop-y.auto.y-end (omega arith), c.loop-y-test.false) in
    (reaches_end so_far (ap (cores_from w.board.now w.times.now w.t w.j a.first) end), few _ _ _ _ _ _ _ _ (input c.args.self.now) so_far (omega arith) c.requires.1)
