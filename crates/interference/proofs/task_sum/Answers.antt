-- `interference::task_sum` meets its contract: its addends are those of the printed sum, which fits.
use Prim.Native.Nat.{ℕ, ◌+◌, ◌*◌, ◌^◌, ◌≤◌, ◌<◌}
use mathlib.Core.List.{List}
use mathlib.Core.Path.{◌≡◌, refl, ◌∙◌}
use native.Mathlib.Omega.{arith}
use lib.Dec.{lit<}
use Rattle.board.specs.Layout.{bus, access_cycles, refresh, refresh_cycles}
use Rattle.figures.specs.Figures.{task_pd}
use Rattle.sums.specs.Sums.{own_accesses, interference, bus_accesses, refreshes, higher_work, task_sum}
use Rattle.sums.specs.Limits.{longest_access, most_bus_accesses}
use Rattle.sums.proofs.Numbers.{product-cong, product-fits}
use Rattle.sums.proofs.Bounds.{bus_accesses-bound, refreshes-bound, task_sum-bound}
use Rattle.interference.proofs.task_sum.Goals.{Start}
use Rattle.interference.proofs.task_sum.Goals as goal

-- the addends, as code has them
module _ (b R : List ℕ) (i : ℕ) {w h s n : ℕ} (work : w ≡ task_pd b i) (higher : h ≡ higher_work b R i) (own : s ≡ own_accesses b R i)
    (others : n ≡ interference b R i (bus b)) where
  -- B
  count : s + n + 1 ≡ bus_accesses b R i
  unfolding bus_accesses
  count = omega arith

  cycles : {d : ℕ} → d ≡ access_cycles b → (s + n + 1) * d ≡ bus_accesses b R i * access_cycles b
  cycles each = product-cong count each

  whole : {d q dr : ℕ} → d ≡ access_cycles b → q ≡ refreshes b R i (refresh b) → dr ≡ refresh_cycles b → w + h + (s + n + 1) * d + q * dr ≡ task_sum b R i
  unfolding task_sum
  whole each some long = omega (arith, work, higher, cycles each, product-cong some long)

fits : (c : Start) → task_sum c.args.board.now c.args.times.now c.args.i < 2 ^ 64
fits c = task_sum-bound _ _ c.requires.sound c.requires.times _ c.requires.task

few : (c : Start) → bus_accesses c.args.board.now c.args.times.now c.args.i ≤ most_bus_accesses
few c = bus_accesses-bound _ _ c.requires.sound c.requires.times _ c.requires.task

pub overflow_add-busy : goal.overflow_add-busy
unfolding task_sum
overflow_add-busy c = omega (arith, c.work.ensures, c.released-core.ensures, fits (goal.at.overflow_add-busy c).Start)

pub overflow_add-count : goal.overflow_add-count
unfolding bus_accesses
overflow_add-count c = omega (arith, c.released-core.ensures, few (goal.at.overflow_add-count c).Start)

pub overflow_add-count-2 : goal.overflow_add-count-2
unfolding bus_accesses
overflow_add-count-2 c = omega (arith, c.released-core.ensures, few (goal.at.overflow_add-count-2 c).Start)

pub overflow_mul-result : goal.overflow_mul-result
unfolding bus_accesses
overflow_mul-result c =
    product-fits most_bus_accesses longest_access (omega (arith, c.released-core.ensures, few (goal.at.overflow_mul-result c).Start)) (omega arith) (lit< tt)

pub overflow_add-result : goal.overflow_add-result
overflow_add-result c =
    let core = c.released-core.ensures in
    omega (arith, whole _ _ _ c.work.ensures.0 core.work_value core.accesses_value c.interference-others.ensures (c.from-d.ensures ∙ c.access_cycles.ensures.0) refl refl, fits (goal.at.overflow_add-result c).Start)

pub refreshes-requires-clause-count_value : goal.refreshes-requires-clause-count_value
unfolding bus_accesses
refreshes-requires-clause-count_value c = omega (arith, c.released-core.ensures, c.interference-others.ensures)

pub overflow_mul-result-2 : goal.overflow_mul-result-2
overflow_mul-result-2 c =
    let h = c.requires in
    product-fits most_bus_accesses longest_access (omega (arith, c.refreshes.ensures, refreshes-bound _ _ h.sound h.times _ h.task (refresh c.args.board.now))) (omega arith) (lit< tt)

pub overflow_add-result-2 : goal.overflow_add-result-2
overflow_add-result-2 c =
    let core = c.released-core.ensures in
    omega (
      arith,
      whole _ _ _ c.work.ensures.0 core.work_value core.accesses_value c.interference-others.ensures (c.from-d.ensures ∙ c.access_cycles.ensures.0) c.refreshes.ensures
          (c.from-dr.ensures ∙ c.refresh_cycles.ensures.0),
      fits (goal.at.overflow_add-result-2 c).Start,
    )

pub returns : goal.returns
returns c =
    let core = c.released-core.ensures in (
      whole _ _ _ c.work.ensures.0 core.work_value core.accesses_value c.interference-others.ensures (c.from-d.ensures ∙ c.access_cycles.ensures.0) c.refreshes.ensures
          (c.from-dr.ensures ∙ c.refresh_cycles.ensures.0),
      simp (core.accesses_value, core.work_value, c.interference-others.ensures),
    )
