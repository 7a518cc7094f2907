-- `input::reading::read_full` meets its contract: a read adds to the bytes that were taken before it.
use Rattle.std.proofs.Common.{rules, length, ◌-◌}
use Rattle.input.proofs.Taken.{consumes-more}
use Rattle.input.proofs.reading.read_full.Goals as goal

pub loop-count-preserved : goal.loop-count-preserved
loop-count-preserved g c =
    let l = c.loop-count in (
      search rules,
      consumes-more _ _ _ l.count (length l.bytes - l.count) c.in-Ok.n l.bytes c.read.new.buf l.invariant.0 c.in-Ok.ensures.bound.0 l.invariant.1 c.in-Ok.ensures.bytes.0,
    )
