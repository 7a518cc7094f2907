use Prim.Native.Nat.{ℕ, ◌+◌}
use mathlib.Core.List.{List}
use lib.ListN.{get_or}
use Rattle.folds.proofs.Filled.{Filled}
use Rattle.one_pass.specs.DueTasks.{Unchanged}
use Rattle.one_pass.proofs.PassTables.advance.Given as goal

-- the next time of task k
abbrev pub next : ℕ → List ℕ → ℕ → ℕ
next n words k = get_or words (n + k) 0

abbrev pub invariant-loop-k : goal.invariant-loop-k
invariant-loop-k l = Filled (next l.self.n l.initial.words) l.self.n l.initial.words l.words l.k × Unchanged l.self.board.now l.self.n l.initial.words l.due l.k
