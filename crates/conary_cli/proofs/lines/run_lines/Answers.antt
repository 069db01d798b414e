use Rattle.std.proofs.Common.{ap, arith, drop}
use Rattle.std.proofs.lemmas.List.{drop_all}
use Rattle.cny_version.proofs.cny-base.Passing.{err_is}
use Rattle.root_commands.specs.cli-call.Line.{moment}
use Rattle.conary_cli.specs.Lines.{RunsLines, all_shown}
use Rattle.conary_cli.proofs.LineWords.{next_shown}
use Rattle.conary_cli.proofs.LinesRun.{all_run, goes_past, ready_after, stops_at}
use Rattle.conary_cli.proofs.lines.run_lines.Goals as goal

pub returns-in_err-run_made : goal.returns-in_err-run_made
returns-in_err-run_made g c =
    let sink = g.O.Sink.sink in
    let old = moment sink c.args.root.now c.args.repo.now c.args.opened.now c.args.out.now in
    let mid = moment sink c.loop-line.root c.loop-line.repo c.loop-line.opened c.loop-line.out in
    let new = moment sink c.run_made.new.root c.run_made.new.repo c.run_made.new.opened c.run_made.new.out in
    let lines = c.args.lines.now in
    let at = c.loop-line.line-index in
    err_is (RunsLines g.T.TreeDisk.disk g.P.TreeDisk.disk (all_shown lines) old new) c.from_residual.result c.in_err-run_made.field-0.0 c.from_residual.ensures.1
    (stops_at g.T.TreeDisk.disk g.P.TreeDisk.disk (all_shown lines) (all_shown (drop at lines)) _ _ (next_shown lines at c.line-item.result (omega arith) c.line-item.is) old mid c.loop-line.invariant.goes_on new c.in_err-run_made.field-0.0 c.in_err-run_made.ensures)

pub loop-line-preserved : goal.loop-line-preserved
loop-line-preserved g c =
    let sink = g.O.Sink.sink in
    let old = moment sink c.args.root.now c.args.repo.now c.args.opened.now c.args.out.now in
    let mid = moment sink c.loop-line.root c.loop-line.repo c.loop-line.opened c.loop-line.out in
    let next = moment sink c.run_made.new.root c.run_made.new.repo c.run_made.new.opened c.run_made.new.out in
    let lines = c.args.lines.now in
    let at = c.loop-line.line-index in
    record {
      ready = ready_after _ mid next c.in_ok-run_made.ensures;
      goes_on = goes_past g.T.TreeDisk.disk g.P.TreeDisk.disk (all_shown lines) (all_shown (drop at lines)) _ _ (next_shown lines at c.line-item.result (omega arith) c.line-item.is) old mid c.loop-line.invariant.goes_on next c.in_ok-run_made.ensures;
    }

pub returns : goal.returns
returns g c =
    let sink = g.O.Sink.sink in
    let old = moment sink c.args.root.now c.args.repo.now c.args.opened.now c.args.out.now in
    let mid = moment sink c.loop-line.root c.loop-line.repo c.loop-line.opened c.loop-line.out in
    all_run g.T.TreeDisk.disk g.P.TreeDisk.disk (all_shown c.args.lines.now) (all_shown (drop c.loop-line.line-index c.args.lines.now)) (ap all_shown (drop_all c.loop-line.line-index c.args.lines.now (omega arith))) old mid c.loop-line.invariant.goes_on
