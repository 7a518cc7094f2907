-- `survey::keep` meets its contract.
use mathlib.Core.Bool.{◌||◌}
use mathlib.Core.Path.{◌≡◌, ap, ◌∙◌}
use native.Mathlib.Omega.{arith}
use Rattle.bitset.specs.Bits.{member, words_of}
use Rattle.figures.specs.Figures.{evicting}
use Rattle.figures.specs.Overhead.{evicted_by}
use Rattle.bitset.proofs.Buffers.{records-next}
use Rattle.survey.proofs.Evicted.{cores-next, joined-core}
use Rattle.survey.proofs.keep.Goals as goal

pub returns : goal.returns
returns c =
    let a = c.args in
    let b = a.board.now in
    let x = c.core-x in
    let known : c.union-joined.result ≡ words_of 8 (evicted_by b a.i) =
    c.union-joined.ensures ∙ ap (λ w. words_of 8 (λ s. member w s || member a.ecb s)) c.read.ensures
    ∙ joined-core b a.i x.result a.cores.now a.ecb c.requires.3 (omega arith) x.ensures.0 c.requires.1 in (
      λ h l. records-next a.i c.write-3.ensures (evicting b) c.requires.1 h (λ n. c.requires.2 h (omega (arith, n))),
      cores-next b a.i x.result a.cores.now _ c.union-joined.result x.ensures.0 known c.write.ensures c.requires.3,
      λ h l. records-next a.i c.write-2.ensures (evicted_by b) known h (λ n. c.requires.4 h (omega (arith, n))),
    )
