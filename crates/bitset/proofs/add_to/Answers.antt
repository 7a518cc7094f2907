-- `bitset::add_to` meets its contract.
use Rattle.std.proofs.Common.{rules}
use Rattle.bitset.proofs.Sets.{insert-words}
use Rattle.bitset.proofs.add_to.Goals as goal

pub returns : goal.returns
returns c = let a = c.args in
    insert-words 8 a.set.now c.requires.1 (λ k. search rules) a.s c.requires.0
