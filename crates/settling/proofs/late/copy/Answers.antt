-- A turn stores one word more.
use Rattle.std.proofs.Common.{refl, sym, get_or}
use Rattle.folds.proofs.Lists.{fill_to-none}
use Rattle.folds.proofs.Loops.{fill_to-turn}
use Rattle.settling.proofs.late.copy.Goals as goal

pub loop-k-init : goal.loop-k-init
loop-k-init c = sym (fill_to-none (λ j. get_or c.args.from.now j 0) c.args.to.now)

pub loop-k-preserved : goal.loop-k-preserved
loop-k-preserved c = fill_to-turn (λ j. get_or c.args.from.now j 0) c.args.to.now c.loop-k.k c.loop-k.invariant refl
