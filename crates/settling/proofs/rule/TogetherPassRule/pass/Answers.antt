-- A pass of all times together meets the contract of `settling::rule::PassRule`.
use Prim.Native.Nat.{ℕ}
use mathlib.Core.Path.{sym, ap, ◌∙◌}
use mathlib.Core.List.{List}
use lib.ListN.{take}
use Rattle.std.proofs.lemmas.Bool.Decides.{Decides-eqb, not_from_Decides}
use Rattle.std.proofs.lemmas.Slice.Eq.{slice_eq-Decides}
use Rattle.settling.proofs.Moved.{together-still, together-moved}
use Rattle.settling.proofs.rule.TogetherPassRule.pass.Goals as goal

pub returns-then-eq : goal.returns-then-eq
returns-then-eq c =
    let same = (slice_eq-Decides Decides-eqb _ _ _ c.eq.ensures).0 c.if-eq.true in
    together-still c.requires.0 c.make_pass.ensures (sym c.split_at.ensures.front ∙ same ∙ ap (λ (l : List ℕ). take c.args.tables.now.n l) c.split_at.ensures.back)

pub returns : goal.returns
returns c =
    let differ = not_from_Decides _ (slice_eq-Decides Decides-eqb _ _ _ c.eq.ensures) c.if-eq.false in
    together-moved c.requires.0 c.make_pass.ensures c.advance.ensures.words_after c.advance.ensures.unchanged
    (λ e. differ (c.split_at.ensures.front ∙ e ∙ ap (λ (l : List ℕ). take c.args.tables.now.n l) (sym c.split_at.ensures.back)))
