-- For the code: what `make_up` answers of task i, an index, by the answer that its board's passes gave.
-- Assumes nothing.
use Rattle.std.specs.Prelude.{ℕ, List, Result, Ok, Err}
use Rattle.passes.specs.Passes.{settled}
use Rattle.refusals.specs.declared.Refusal.{Refusal}
use Rattle.answers.specs.declared.Answer.{Answer}
use Rattle.answers.specs.declared.Answer.TheVariants.{Times, Late, Spent}
use Rattle.answers.specs.declared.MadeUp.{MadeUp}
use Rattle.answers.specs.declared.MadeUp.TheVariants.{Spent as MadeUp-as-Spent}
use Rattle.answers.specs.Answers.{system}
use Rattle.answers.specs.MakeUp.{made_up_at}

abbrev pub made_up_from : Result Answer Refusal → List ℕ → ℕ → Result MadeUp Refusal
made_up_from (Ok (Times passes)) b i = Ok (made_up_at b (settled (system b)) i)
made_up_from (Ok (Late task passes)) b i = Ok (made_up_at b (settled (system b)) i)
made_up_from (Ok Spent) b i = Ok MadeUp-as-Spent
made_up_from (Err refusal) b i = Err refusal
