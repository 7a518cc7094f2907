-- Each task adds its figures, the sets that it evicts and its row.
use Rattle.std.proofs.Common.{ℕ, ◌≤◌, ◌<◌, List, ◌∙◌, arith, refl, not-suc-le-zero}
use Rattle.folds.proofs.Lists.{get_d-none}
use Rattle.board.specs.Layout.{tasks}
use Rattle.board.specs.Sound.{Sound}
use Rattle.figures.specs.Ready.{Ready}
use Rattle.figures.proofs.Fillable.{surveyed-none}
use Rattle.survey.proofs.Evicted.{cores-none}
use Rattle.survey.proofs.Rows.{row_of-none, row_of-next, row-there}
use Rattle.survey.proofs.Surveyed.{surveyed-next, overheads-next}
use Rattle.survey.proofs.survey.Goals as goal

pub loop-i-init : goal.loop-i-init
loop-i-init c =
    let b = c.args.board.now in
    let row = row_of-none b c.args.rows c.then_some-row.ensures in (
      refl,
      c.first-at.ensures,
      cores-none b,
      λ j l. absurd (not-suc-le-zero l),
      surveyed-none b _ _ _,
      row.0,
      row.1,
      (λ wanted i j h l. absurd (not-suc-le-zero h)),
      λ j. omega (arith, get_d-none {A = ℕ} 4096 j 0),
    )

-- each task of the walk is one of the board's
ready : (b : List ℕ) (count i : ℕ) → Sound b → count ≤ tasks b → i < count → Ready b i
ready b count i sound few h = record { sound = sound; task = omega arith }

pub survey_task-found-requires : goal.survey_task-found-requires
survey_task-found-requires c =
    let inv = c.loop-i.invariant in
    (ready _ _ _ c.sound.ensures c.requires.0 c.loop-i-test.true, inv.1, inv.3, inv.8)

pub keep-requires : goal.keep-requires
keep-requires c =
    let inv = c.loop-i.invariant in
    (ready _ _ _ c.sound.ensures c.requires.0 c.loop-i-test.true, c.survey_task-found.ensures.2, inv.4.ecb, inv.2, inv.3)

pub loop-i-preserved : goal.loop-i-preserved
loop-i-preserved c =
    let b = c.args.board.now in
    let i = c.loop-i.i in
    let inv = c.loop-i.invariant in
    let n = c.tasks-n.result in
    let few : n ≤ 64 = omega (arith, c.tasks-n.ensures) in
    let below : i < n = omega (arith, c.tasks-n.ensures) in
    let found = c.survey_task-found.ensures in
    let kept = c.keep.ensures in
    let stored = c.store.ensures in
    let row = row_of-next b i c.loop-i.row _ found.4 inv.6 in
    let there = row.0 ∙ inv.5 in (
      stored.1 ∙ inv.0,
      found.3,
      kept.1,
      kept.2,
      surveyed-next b n i _ _ _ _ _ below stored.0 _ _ found.0 found.1 kept.0 inv.4,
      there,
      row.1,
      (λ wanted.
          let line = row-there _ (there ∙ wanted) in
          overheads-next b n i _ _ _ _ _ below stored.0 few line.0 line.1 (row.1 line.0 line.1) (inv.7 wanted)),
      found.5,
    )
