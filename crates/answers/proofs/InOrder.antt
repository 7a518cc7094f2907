-- Passes in a chosen order give Analyse's answer where it is not spent.
-- Assumes nothing.
use Prim.Native.Nat.{ℕ, ◌+◌, ◌≤◌}
use mathlib.Core.Bool.{Bool, true, false, cond}
use mathlib.Core.List.{List}
use Rattle.std.specs.Prelude.{Result, Ok}
use mathlib.Core.Path.{◌≡◌, refl, sym, ap, ◌∙◌}
use native.Mathlib.Omega.{arith}
use lib.Dec.{ltb}
use lib.ListN.{length}
use borrow.Author.Tests.{le-ltb, ltb-false}
use Rattle.board.specs.Layout.{tasks, pass_limit}
use Rattle.refusals.specs.declared.Refusal.{Refusal}
use Rattle.refusals.proofs.Verdicts.{or_else-passed}
use Rattle.passes.specs.Passes.{System, pass, passes_by, passes_needed, settled, first_late, Monotone}
use Rattle.passes.specs.Visits.{in_order, Permutation}
use Rattle.passes.proofs.InOrder.{in_order-settled, in_order-passes}
use Rattle.one_pass.proofs.Sums.{system-mono}
use Rattle.checks.specs.CallRefusals.{order_row, analyse_refusal, in_order_refusal}
use Rattle.checks.proofs.Accepted.{in_order_refusal-is, in-order-taken}
use Rattle.answers.specs.declared.Answer.{Answer}
use Rattle.answers.specs.declared.Answer.TheVariants.{Times, Late, Spent}
use Rattle.answers.specs.Answers.{system, settled_answer, analyse_answer, in_order_answer}
use Rattle.answers.specs.InOrder.{with_passes, LikeAnalyse}
use Rattle.answers.proofs.Demand.{analyse-settled}

module _ (S : System) (mono : Monotone S) {order : List ℕ} (permuted : Permutation S.count order) where
  -- within Analyse's passes: its answer, but for the passes
  answers_agree : (limit : ℕ) → passes_needed S ≤ limit → Ok (settled_answer S (in_order S order) limit) ≡ with_passes (passes_by S (in_order S order)) (Ok (settled_answer S (pass S) limit))
  unfolding settled_answer
  answers_agree limit le =
      let few : passes_by S (in_order S order) ≤ limit = omega (arith, in_order-passes S mono permuted) in
      rw (le-ltb limit (passes_by S (in_order S order)) few, le-ltb limit (passes_needed S) le, in_order-settled S mono permuted) (go (ltb (first_late S (settled S)) S.count))
    where
      go : (t : Bool) → ◌≡◌ {A = Result Answer Refusal} (Ok (cond t (Late (first_late S (settled S) + 1) (passes_by S (in_order S order))) (Times (passes_by S (in_order S order)))))
          (with_passes (passes_by S (in_order S order)) (Ok (cond t (Late (first_late S (settled S) + 1) (passes_needed S)) (Times (passes_needed S)))))
      go true = refl
      go false = refl

  -- an answer that is not spent is within Analyse's passes
  not-spent : (limit : ℕ) → (settled_answer S (pass S) limit ≡ Spent → ⊥) → passes_needed S ≤ limit
  unfolding settled_answer
  not-spent limit other = go (ltb limit (passes_needed S)) refl
    where
      go : (t : Bool) → ltb limit (passes_needed S) ≡ t → passes_needed S ≤ limit
      go true e = absurd (other (rw e refl))
      go false e = ltb-false limit (passes_needed S) e

-- of every call that is not refused, and of any value that equals its own
module _ (b old : List ℕ) (scratch table : ℕ) (order : List ℕ) (passed : in_order_refusal b (length old) scratch table order ≡ Ok tt) (r : Result Answer Refusal)
    (e : r ≡ in_order_answer b (length old) scratch table order) where
  permuted : Permutation (tasks b) order
  permuted = (in-order-taken b (length old) scratch table order passed).permuted

  -- Analyse would not be refused either
  analysed : analyse_refusal b (length old) scratch table ≡ Ok tt
  analysed =
      (or_else-passed (analyse_refusal b (length old) scratch table) (order_row (tasks b) order) (sym (in_order_refusal-is b (length old) scratch table order) ∙ passed)).0

  analyse-is : analyse_answer b (length old) scratch table ≡ Ok (settled_answer (system b) (pass (system b)) (pass_limit b))
  analyse-is = analyse-settled b old scratch table analysed

  pub in-order-like : LikeAnalyse b (length old) scratch table (in_order (system b) order) r
  unfolding in_order_answer
  in-order-like =
      record {
        settles = in_order-settled (system b) (system-mono b) permuted;
        passes = in_order-passes (system b) (system-mono b) permuted;
        answer = λ other.
            rw (e, passed, analyse-is)
            (answers_agree (system b) (system-mono b) permuted (pass_limit b) (not-spent (system b) (system-mono b) permuted (pass_limit b) (λ spent. other (analyse-is ∙ ap {B = Result Answer Refusal} (λ (a : Answer). Ok a) spent))));
      }
