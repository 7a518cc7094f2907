-- What `make_up` answers by the answer of its board's passes is its definition; the settled times are capped.
-- Assumes nothing.
use Prim.Native.Nat.{ℕ}
use mathlib.Core.Bool.{Bool, true, false, cond}
use mathlib.Core.List.{List}
use Rattle.std.specs.Prelude.{Ok, Err}
use mathlib.Core.Path.{◌≡◌, refl}
use native.Mathlib.Omega.{arith}
use lib.Dec.{ltb}
use Rattle.board.specs.Layout.{tasks, pass_limit}
use Rattle.refusals.specs.Refusals.{Verdict}
use Rattle.sums.specs.Inputs.{CappedTimes}
use Rattle.passes.specs.Passes.{passes_needed, settled, first_late}
use Rattle.passes.proofs.Settling.{settled-length, settled-capped}
use Rattle.one_pass.proofs.Sums.{system-ascending}
use Rattle.answers.specs.declared.Answer.TheVariants.{Times, Late, Spent}
use Rattle.answers.specs.declared.MadeUp.TheVariants.{Spent as MadeUp-as-Spent}
use Rattle.answers.specs.Answers.{system, settled_answer, answer_by}
use Rattle.answers.specs.MakeUp.{made_up_at, settled_made_up, made_up_by}
use Rattle.works.specs.MadeUp.{made_up_from}

pub settled-caps : (b : List ℕ) → CappedTimes b (settled (system b))
settled-caps b = record { long = omega (arith, settled-length (system-ascending b)); short = settled-capped (system-ascending b) }

pub made_up_from-is : (v : Verdict) (b : List ℕ) (i : ℕ) → made_up_from (answer_by v b) b i ≡ made_up_by v b i
unfolding settled_answer settled_made_up
made_up_from-is (Err refusal) b i = refl
made_up_from-is (Ok _) b i = go _ _ (ltb (pass_limit b) (passes_needed (system b))) (ltb (first_late (system b) (settled (system b))) (tasks b))
  where
    go : (task p : ℕ) (t late : Bool)
        → made_up_from (Ok (cond t Spent (cond late (Late task p) (Times p)))) b i ≡ Ok (cond t MadeUp-as-Spent (made_up_at b (settled (system b)) i))
    go task p true late = refl
    go task p false true = refl
    go task p false false = refl
