-- For the code: what is known of a call that its checks let through, once its figures are worked out.
-- Assumes nothing.
use Rattle.std.specs.Prelude.{ℕ, List, ◌≡◌, length}
use Rattle.figures.specs.Survey.{Fillable}
use Rattle.scratch.specs.Scratch.{Prepared}
use Rattle.figures.specs.declared.FigureWords.{FigureWords}

-- the n tasks have as many records to fill; the scratch, which was `old`, is ready for the passes
pub record Begun (b : List ℕ) (n : ℕ) (old scratch : List ℕ) (f : FigureWords) : Type 0 where
  pub count : f.records ≡ n
  pub fillable : Fillable b f.records f.words f.sets
  pub size : length scratch ≡ length old
  pub ready : Prepared b n scratch
