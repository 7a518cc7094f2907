use Prim.Native.Nat.{◌+◌, ◌-◌, ◌*◌, min}
use mathlib.Core.Path.{◌≡◌}
use Rattle.folds.specs.Folds.{only_if, sum_to}
use Rattle.board.specs.Layout.{slots}
use Rattle.sums.specs.Sums.{is_other, core_accesses}
use Rattle.carried.proofs.slots.sum_capped.Given as goal

abbrev pub invariant-loop-y : goal.invariant-loop-y
invariant-loop-y l =
    l.sum ≡ sum_to (λ z. only_if (is_other l.x (z + 1)) (min (core_accesses l.cores.window.board.now l.cores.window.times.now l.cores.window.t l.cores.window.j (z + 1)) (slots l.cores.window.board.now (z + 1) * l.s))) (l.y - 1)
