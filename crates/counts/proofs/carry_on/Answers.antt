-- Each plane moves the numbers on, and where no carry is left they have moved.
use Rattle.std.proofs.Common.{◌+◌, ◌*◌, ◌/◌, ◌≤◌, ◌<◌, ◌∙◌, arith, length}
use Rattle.std.proofs.Math.ListN.{length-set}
use Rattle.counts.proofs.Planes.{apart}
use Rattle.counts.proofs.Carries.{ripple-on, ripple-stop, ripple-end}
use Rattle.counts.proofs.carry_on.Goals as goal

pub returns-then-carry-eq0 : goal.returns-then-carry-eq0
returns-then-carry-eq0 c =
    let a = c.args in
    let loop = c.loop-i in (
      (λ old room some so_far.
          ripple-stop a.caches a.planes a.mark (a.mark / 256) old loop.live loop.i loop.carry (omega arith) (loop.invariant.1 old so_far)),
      loop.invariant.0,
    )

pub loop-i-preserved : goal.loop-i-preserved
loop-i-preserved c =
    let a = c.args in
    let loop = c.loop-i in
    let near : a.mark / 256 < 4 * a.caches = omega (arith, c.requires.0) in
    let inside : loop.i * a.caches + a.caches ≤ a.planes * a.caches = apart loop.i a.planes a.caches c.loop-i-test.true in
    let there : 4 * (loop.i * a.caches) + a.mark / 256 < length loop.live = omega (arith, near, inside, loop.invariant.0, c.requires.3) in (
      length-set loop.live _ _ ∙ loop.invariant.0,
      λ old so_far.
          ripple-on a.caches a.planes a.mark (a.mark / 256) old loop.live loop.i loop.carry a.turned c.loop-i-test.true near there
          c.requires.5 (loop.invariant.1 old so_far),
    )

pub returns : goal.returns
returns c =
    let a = c.args in
    let loop = c.loop-i in (
      (λ old room some so_far.
          ripple-end a.caches a.planes a.mark (a.mark / 256) old loop.live loop.i loop.carry (omega arith) room some (loop.invariant.1 old so_far)),
      loop.invariant.0,
    )
