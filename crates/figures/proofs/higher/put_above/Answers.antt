-- A turn lists the next task above where it is on the core.
use Rattle.std.proofs.Common.{ℕ, ◌≡◌, ◌-◌, take, sym, subst, ◌∙◌, arith}
use Rattle.std.proofs.lemmas.List.{take_more_set}
use Rattle.figures.proofs.Listed.{Listing, listing_start, listing-on, listing-off, listing-end}
use Rattle.figures.proofs.higher.put_above.Goals as goal

pub loop-j-init : goal.loop-j-init
loop-j-init c = (listing_start c.args.board.now c.args.i, omega arith)

pub loop-j-preserved-then-on_core_of : goal.loop-j-preserved-then-on_core_of
loop-j-preserved-then-on_core_of c =
    let a = c.args in
    let loop = c.loop-j in
    let j = loop.j - 1 in (
      subst (Listing a.board.now a.i j) (sym (take_more_set loop.tasks loop.count j (omega (arith, c.requires.task, c.requires.sound.tasks, loop.invariant.1))))
          (listing-on a.board.now a.i loop.j (take loop.count loop.tasks) loop.invariant.0 (omega arith) (sym c.on_core_of.ensures ∙ c.if-on_core_of.true)),
      omega (arith, loop.invariant.1),
    )

pub loop-j-preserved : goal.loop-j-preserved
loop-j-preserved c =
    let a = c.args in
    let loop = c.loop-j in
    (listing-off a.board.now a.i loop.j (take loop.count loop.tasks) loop.invariant.0 (omega arith) (sym c.on_core_of.ensures ∙ c.if-on_core_of.false), omega (arith, loop.invariant.1))

pub returns : goal.returns
returns c =
    let a = c.args in
    let loop = c.loop-j in
    let none : loop.j ≡ 0 = omega arith in (
      listing-end a.board.now a.i (take loop.count loop.tasks) (subst (λ (j : ℕ). Listing a.board.now a.i j (take loop.count loop.tasks)) none loop.invariant.0),
      omega (arith, c.requires.task, c.requires.sound.tasks, loop.invariant.1),
    )
