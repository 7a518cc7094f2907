-- `demand::uncached` meets its contract.
use Rattle.std.proofs.Common.{ℕ, ◌+◌, ◌≡◌, sym, ap, ap₂, ◌∙◌, rules}
use Rattle.folds.specs.Folds.{sum_to}
use Rattle.board.specs.Layout.{memory, held_code, held_data, first_data_block}
use Rattle.board.specs.Sound.{Sound}
use Rattle.trace.specs.Positions.{accesses}
use Rattle.trace.proofs.Places.{data_block_placed}
use Rattle.trace.proofs.Counts.{trace_md-none, trace_md-held}
use Rattle.trace.proofs.demand.uncached.Goals as goal

pub returns-in-Plain : goal.returns-in-Plain
returns-in-Plain c =
    let t = c.args.trace.now in
    let sound : Sound t.words = rw c.requires.0 c.sound.ensures in
    let none : memory t.words ≡ 0 = ap memory c.requires.0 ∙ sym (c.in-Plain.ensures.0) in
    (c.demands_past.ensures.0 ∙ trace_md-none t none (data_block_placed t.words t.start t.len sound c.lies.ensures), c.demands_past.ensures.1)

pub returns-in_default : goal.returns-in_default
returns-in_default c =
    let t = c.args.trace.now in
    let b = c.args.board.now in
    let some : memory b ≡ 1 = search rules in
    let found = c.demands_past-in_default.ensures in (
      found.0
          ∙ ap₂ (λ (x y : ℕ). sum_to (accesses t x (first_data_block + y)) t.len)
          (c.held_code.ensures.0 ∙ ap held_code (sym c.requires.0)) (c.held_data.ensures.0 ∙ ap held_data (sym c.requires.0))
          ∙ trace_md-held t (ap memory c.requires.0 ∙ some),
      found.1,
    )
