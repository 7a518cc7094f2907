-- A hit and an entry of an earlier trace end the walk; any other entry moves on by one.
use Rattle.std.proofs.Common.{suc, ◌≡◌, ◌+◌, ◌/◌, ◌%◌, ◌≤◌, ◌<◌, sym, ap, ◌∙◌, arith, get_or}
use Rattle.std.proofs.Math.ListN.{length-set}
use Rattle.entries.specs.Entries.{found, position_of}
use Rattle.entries.proofs.Entries.{found-end, shifted_end, found_at, shifted_at, found-old, shifted-old, found-on, shifted-on}
use Rattle.entries.proofs.touch.Goals as goal

pub returns-then-entry-x : goal.returns-then-entry-x
returns-then-entry-x c =
    let a = c.args in
    let loop = c.loop-k in
    let end = a.from + a.ways in
    let same : get_or loop.held loop.k 0 / 2048 ≡ a.x = c.if-entry-x.true in
    let hit : suc (get_or loop.held loop.k 0 % 2048) ≡ found a.base a.x a.held.now a.from a.ways =
    omega (arith, found_at a.base a.x loop.carried loop.held loop.k end c.loop-k-test.true same, loop.invariant.1) in
    (ap position_of hit, shifted_at a.base a.x loop.carried loop.held loop.k end c.loop-k-test.true same ∙ loop.invariant.2, omega arith)

pub returns-then-entry-base : goal.returns-then-entry-base
returns-then-entry-base c =
    let a = c.args in
    let loop = c.loop-k in
    let end = a.from + a.ways in
    let old : get_or loop.held loop.k 0 / 2048 ≤ a.base = c.if-entry-base.true in (
      ap position_of (found-old a.base a.x loop.carried loop.held loop.k end c.loop-k-test.true c.if-entry-x.false old ∙ loop.invariant.1),
      shifted-old a.base a.x loop.carried loop.held loop.k end c.loop-k-test.true c.if-entry-x.false old ∙ loop.invariant.2,
      tt,
    )

pub loop-k-preserved : goal.loop-k-preserved
loop-k-preserved c =
    let a = c.args in
    let loop = c.loop-k in
    let end = a.from + a.ways in
    let here : a.base < get_or loop.held loop.k 0 / 2048 = omega (arith, c.if-entry-base.false) in (
      length-set loop.held loop.k loop.carried ∙ loop.invariant.0,
      found-on a.base a.x loop.carried loop.held loop.k end c.loop-k-test.true c.if-entry-x.false here ∙ loop.invariant.1,
      shifted-on a.base a.x loop.carried loop.held loop.k end c.loop-k-test.true c.if-entry-x.false here ∙ loop.invariant.2,
    )

pub returns : goal.returns
returns c =
    let a = c.args in
    let loop = c.loop-k in
    let end = a.from + a.ways in (
      ap position_of (sym (found-end a.base a.x loop.held loop.k end c.loop-k-test.false) ∙ loop.invariant.1),
      sym (shifted_end a.base a.x loop.carried loop.held loop.k end c.loop-k-test.false) ∙ loop.invariant.2,
      tt,
    )
