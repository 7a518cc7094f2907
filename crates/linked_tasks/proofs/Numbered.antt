-- The number of the task that a number stands for.
-- Assumes nothing.
use Prim.Native.Nat.{ℕ, zero, suc}
use mathlib.Core.Path.{◌≡◌, refl, ap, ◌∙◌}
use Rattle.std.specs.Prelude.{Option}
use Rattle.linked_tasks.specs.Numbered.{task_numbered, number_of}

same_number : (n : ℕ) → number_of (task_numbered n) ≡ n
same_number zero = refl
same_number (suc k) = refl

pub number_of-numbered : {next : Option ℕ} {n : ℕ} → next ≡ task_numbered n → number_of next ≡ n
number_of-numbered {next} {n} e = ap number_of e ∙ same_number n
