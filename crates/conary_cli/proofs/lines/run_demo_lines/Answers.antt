use Rattle.std.proofs.Common.{arith, ◌-◌, refl, ap, ◌+◌, ◌==◌, ℕ}
use Rattle.cny_version.proofs.cny-base.Passing.{err_is}
use Rattle.root_commands.specs.cli-call.Line.{moment}
use Rattle.cny_batch.specs.Demo.{demo_lines, line_count, lines_from}
use Rattle.conary_cli.specs.Lines.{RunsLines, last_shown}
use Rattle.conary_cli.proofs.DemoLines.{next_of_demo, none_of_demo}
use Rattle.conary_cli.proofs.LinesRun.{all_run, goes_past, ready_after, stops_at, unmade_at}
use Rattle.conary_cli.proofs.lines.run_demo_lines.Goals as goal

-- the next line couldn't be made
pub returns-in_err-line : goal.returns-in_err-line
returns-in_err-line g c =
    let sink = g.O.Sink.sink in
    let old = moment sink c.args.root.now c.args.repo.now c.args.opened.now c.args.out.now in
    let mid = moment sink c.loop-place.root c.loop-place.repo c.loop-place.opened c.loop-place.out in
    let packages = c.args.packages in
    let place = c.loop-place.place in
    err_is (RunsLines g.T.TreeDisk.disk g.P.TreeDisk.disk (last_shown (demo_lines packages)) old mid) c.from_residual.result _ c.from_residual.ensures.1
    (unmade_at g.T.TreeDisk.disk g.P.TreeDisk.disk (last_shown (demo_lines packages)) (last_shown (lines_from packages place (line_count packages - place))) _ _ (next_of_demo packages (line_count packages) place _ (omega arith) refl) old mid c.loop-place.invariant.goes_on)

pub returns-in_err-run_made : goal.returns-in_err-run_made
returns-in_err-run_made g c =
    let sink = g.O.Sink.sink in
    let old = moment sink c.args.root.now c.args.repo.now c.args.opened.now c.args.out.now in
    let mid = moment sink c.loop-place.root c.loop-place.repo c.loop-place.opened c.loop-place.out in
    let new = moment sink c.run_made.new.root c.run_made.new.repo c.run_made.new.opened c.run_made.new.out in
    let packages = c.args.packages in
    let place = c.loop-place.place in
    err_is (RunsLines g.T.TreeDisk.disk g.P.TreeDisk.disk (last_shown (demo_lines packages)) old new) c.from_residual-in_err-run_made.result c.in_err-run_made.field-0.0 c.from_residual-in_err-run_made.ensures.1
    (stops_at g.T.TreeDisk.disk g.P.TreeDisk.disk (last_shown (demo_lines packages)) (last_shown (lines_from packages place (line_count packages - place))) _ _ (next_of_demo packages (line_count packages) place _ (omega arith) (ap (λ (n : ℕ). place + 1 == n) c.line_count-count.ensures)) old mid c.loop-place.invariant.goes_on new c.in_err-run_made.field-0.0
    (rw c.in_ok-line.ensures at c.in_err-run_made.ensures))

pub loop-place-preserved : goal.loop-place-preserved
loop-place-preserved g c =
    let sink = g.O.Sink.sink in
    let old = moment sink c.args.root.now c.args.repo.now c.args.opened.now c.args.out.now in
    let mid = moment sink c.loop-place.root c.loop-place.repo c.loop-place.opened c.loop-place.out in
    let next = moment sink c.run_made.new.root c.run_made.new.repo c.run_made.new.opened c.run_made.new.out in
    let packages = c.args.packages in
    let place = c.loop-place.place in
    record {
      ready = ready_after _ mid next c.in_ok-run_made.ensures;
      goes_on = goes_past g.T.TreeDisk.disk g.P.TreeDisk.disk (last_shown (demo_lines packages)) (last_shown (lines_from packages place (line_count packages - place))) _ _ (next_of_demo packages (line_count packages) place _ (omega arith) (ap (λ (n : ℕ). place + 1 == n) c.line_count-count.ensures)) old mid c.loop-place.invariant.goes_on next
          (rw c.in_ok-line.ensures at c.in_ok-run_made.ensures);
    }

pub returns : goal.returns
returns g c =
    let sink = g.O.Sink.sink in
    let old = moment sink c.args.root.now c.args.repo.now c.args.opened.now c.args.out.now in
    let mid = moment sink c.loop-place.root c.loop-place.repo c.loop-place.opened c.loop-place.out in
    let packages = c.args.packages in
    all_run g.T.TreeDisk.disk g.P.TreeDisk.disk (last_shown (demo_lines packages)) (last_shown (lines_from packages c.loop-place.place (line_count packages - c.loop-place.place))) (none_of_demo packages (line_count packages) c.loop-place.place (omega arith)) old mid c.loop-place.invariant.goes_on
