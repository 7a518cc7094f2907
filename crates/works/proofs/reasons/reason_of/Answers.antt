-- The part at the place of the largest has its number.
use Rattle.std.proofs.Common.{ℕ, List, ◌≡◌, ◌∙◌, get_or, arith, subst₂}
use Rattle.folds.specs.Folds.{Largest}
use Rattle.sums.proofs.SixParts.{reason-is}
use Rattle.interference.specs.Parts.{listed}
use Rattle.answers.proofs.PartNumbers.{part_number-at}
use Rattle.works.proofs.reasons.reason_of.Goals as goal

pub returns : goal.returns
returns c =
    let l = c.loop-k in
    let all : l.k ≡ 6 = omega arith in
    let found = subst₂ (λ (numbers : List ℕ) (m : ℕ). Largest (λ j. get_or numbers j 0) m l.at) c.six-all.ensures all l.invariant in
    part_number-at l.at (omega (arith, l.invariant.below)) ∙ reason-is (listed c.args.parts) found
