-- `one_pass::PassTables::advance` meets its contract: a word that is read has not been written yet.
use Prim.Native.Nat.{ℕ, ◌+◌, ◌≤◌}
use mathlib.Core.List.{List}
use mathlib.Core.Path.{◌≡◌, sym, ap, ◌∙◌}
use native.Mathlib.Omega.{arith}
use lib.ListN.{get_or}
use Rattle.folds.proofs.Lists.{fill_to-from}
use Rattle.folds.proofs.Filled.{Filled, filled_none, filled_next}
use Rattle.one_pass.proofs.DueTasks.{unchanged-none, unchanged-still, unchanged-joined}
use Rattle.one_pass.proofs.PassTables.advance.Invariants.{next}
use Rattle.one_pass.proofs.PassTables.advance.Goals.{then-time-next, else-time-next}
use Rattle.one_pass.proofs.PassTables.advance.Goals as goal

-- a word that was not written yet
unwritten : (n : ℕ) (words₀ words : List ℕ) {k : ℕ} → Filled (next n words₀) n words₀ words k → (j : ℕ) → k ≤ j → get_or words j 0 ≡ get_or words₀ j 0
unwritten n words₀ words {k} so_far j h = ap (λ (w : List ℕ). get_or w j 0) so_far.holds ∙ fill_to-from (next n words₀) words₀ 0 k j h

pub loop-k-init : goal.loop-k-init
loop-k-init c = (filled_none, unchanged-none)

pub loop-k-preserved : goal.loop-k-preserved
loop-k-preserved c =
    let n = c.args.self.now.n in
    let l = c.loop-k in
    let read = unwritten n c.args.words.now l.words l.invariant.0 in
    let filled = filled_next l.invariant.0 (omega arith) (read (n + l.k) (omega arith)) in
    elim c.if-time-next.branch [
      | then-time-next came ↦ (filled, rw came.due-is (unchanged-joined l.invariant.1 _ came.joined-due.ensures))
      | else-time-next came ↦
          (filled, rw came.due-is (unchanged-still l.invariant.1 (sym (read l.k (omega arith)) ∙ came.if-time-next.false ∙ read (n + l.k) (omega arith))))
    ]
