-- What a task's sum reads of the times: its own and, where the bus is not TDMA, those of the tasks on other cores.
-- Assumes nothing.
use Prim.Native.Nat.{ℕ, ◌<◌}
use mathlib.Core.List.{List}
use mathlib.Core.Path.{◌≡◌, sym}
use native.Mathlib.Nat.{le_antisymm, le_of_eq}
use lib.ListN.{get_or}
use Rattle.board.specs.Layout.{tasks, bus, core}
use Rattle.sums.specs.Sums.{task_sum}
use Rattle.sums.proofs.Rising.{task_sum-mono}

-- times that agree on what the sum reads give the same sum
pub task_sum-reads : (b R R' : List ℕ) (i : ℕ) → i < tasks b → get_or R i 0 ≡ get_or R' i 0
    → (bus b < 4 → (k : ℕ) → k < tasks b → (core b k ≡ core b i → ⊥) → get_or R k 0 ≡ get_or R' k 0) → task_sum b R i ≡ task_sum b R' i
task_sum-reads b R R' i task own others =
    le_antisymm
    (task_sum-mono b R R' i task (le_of_eq own) (λ h k l off. le_of_eq (others h k l off)))
    (task_sum-mono b R' R i task (le_of_eq (sym own)) (λ h k l off. le_of_eq (sym (others h k l off))))
