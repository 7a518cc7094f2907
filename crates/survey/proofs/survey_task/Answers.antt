-- Each trace adds what it has, and after the last the task's figures stand.
use Rattle.std.proofs.Common.{ℕ, ◌≡◌, true, ◌&&◌, sym, ap₂, subst, ◌∙◌, arith}
use lib.Dec.{leb}
use borrow.Author.Tests.{le-leb}
use Rattle.board.specs.Layout.{trace_count}
use Rattle.entries.specs.Marks.{AllEarlier, base_of}
use Rattle.trace.proofs.Starts.{at_next, at-task, at-starts}
use Rattle.survey.proofs.Rows.{row-was}
use Rattle.survey.proofs.Gathered.{gathered_none, gathered_next, gathered-all}
use Rattle.survey.proofs.survey_task.Goals as goal

pub loop-r-init : goal.loop-r-init
loop-r-init c =
    let a = c.args in
    (c.requires.1, gathered_none a.board.now a.i a.row.now _ c.empty-ecb.ensures, c.requires.3)

pub scan_trace-demand-requires : goal.scan_trace-demand-requires
scan_trace-demand-requires c = (
  at-starts _ _ _ _ _ c.requires.0.sound c.requires.0.task c.loop-r.invariant.0 (omega arith),
  c.loop-r.invariant.2,
  λ l is some.
      let row = c.is_some.ensures ∙ row-was _ c.args.row.now _ c.loop-r.invariant.1.higher l is in
      let cached : leb 1 c.cache_count.result ≡ true = le-leb 1 c.cache_count.result (omega (arith, some, c.cache_count.ensures.0)) in
      c.list_higher.ensures (ap₂ ◌&&◌ row cached),
)

pub next-at-requires : goal.next-at-requires
next-at-requires c =
    at-starts _ _ _ _ _ c.requires.0.sound c.requires.0.task c.loop-r.invariant.0 (omega arith)

pub loop-r-preserved : goal.loop-r-preserved
loop-r-preserved c =
    let a = c.args in
    let loop = c.loop-r in
    let next = c.next-at.ensures in
    let is = c.scan_trace-demand.ensures in (
      at_next _ _ _ _ _ _ _ loop.invariant.0 next.0 next.1,
      gathered_next a.board.now a.i a.row.now loop._r loop.at.trace loop.at.start _ _ _ _ _ _ _ _
          loop.invariant.0 loop.invariant.1 is.pd is.md is.joined is.higher c.max-pd.ensures c.max-md.ensures,
      subst (λ (r : ℕ). AllEarlier (base_of r) c.scan_trace-demand.new.space.held) (sym next.0) is.later,
    )

pub returns : goal.returns
returns c =
    let a = c.args in
    let loop = c.loop-r in
    let end : loop._r ≡ trace_count a.board.now a.i = omega arith in
    let all = gathered-all a.board.now a.i a.row.now _ _ _ _ _ end loop.invariant.1 in
    (all.0, all.1, all.2, at-task _ _ _ _ _ loop.invariant.0 end, all.3, loop.invariant.2)
