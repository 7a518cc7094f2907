-- n is the number of tasks, and the first n words are the settled times.
use Rattle.std.proofs.Common.{ℕ, List, ◌≡◌, sym, ap, ap₂, ◌∙◌, take, arith}
use Rattle.board.specs.Layout.{tasks}
use Rattle.sums.specs.SixParts.{reason}
use Rattle.passes.specs.Passes.{settled}
use Rattle.interference.specs.declared.SumParts.{SumParts}
use Rattle.interference.specs.Parts.{listed}
use Rattle.interference.proofs.Parts.{listed-parts}
use Rattle.answers.specs.declared.MadeUp.TheVariants.{Parts}
use Rattle.answers.specs.Answers.{system}
use Rattle.answers.specs.MakeUp.{made_up_at}
use Rattle.answers.specs.PartNumbers.{part_of}
use Rattle.answers.proofs.PartNumbers.{part_of-number}
use Rattle.settle.specs.Settled.{AtSettled}
use Rattle.works.proofs.MadeUp.{settled-caps}
use Rattle.works.proofs.reasons.parts_at.Goals as goal

there : {b scratch : List ℕ} {n : ℕ} → n ≡ tasks b → AtSettled b scratch → take n scratch ≡ settled (system b)
there {scratch = scratch} count at = ap (λ (n : ℕ). take n scratch) count ∙ at.times

pub parts_of-parts-requires : goal.parts_of-parts-requires
parts_of-parts-requires c =
    let count = c.tasks-n.ensures.0 in
    (rw count c.requires.0.prepared, rw (there count c.requires.0) (settled-caps c.args.board.now), omega (arith, count, c.requires.1))

pub returns : goal.returns
returns c =
    let a = c.args in
    let six = c.parts_of-parts.ensures in
    let named = sym (part_of-number c.reason_of.result) ∙ ap part_of (c.reason_of.ensures ∙ ap (λ (p : SumParts). reason (listed p)) six ∙ ap reason (listed-parts _ _ _)) in
    ap₂ Parts six named ∙ ap (λ (R : List ℕ). made_up_at a.board.now R a.i) (there c.tasks-n.ensures.0 c.requires.0)
