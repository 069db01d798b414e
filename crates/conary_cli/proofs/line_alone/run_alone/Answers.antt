use Rattle.std.proofs.Common.{map}
use Rattle.std.specs.Prelude.{string_bytes}
use Rattle.cny_version.specs.cny-base.Flow.{sink_state}
use Rattle.cny_version.proofs.cny-base.Passing.{err_is}
use Rattle.conary_cli.specs.Program.{RunsAlone, line_state, told_source}
use Rattle.conary_cli.proofs.LineCalls.{begun_alone, unread_alone}
use Rattle.conary_cli.proofs.LineWords.{read_only}
use Rattle.conary_cli.proofs.line_alone.run_alone.Goals as goal

-- words that weren't read: the source is as it was
pub returns-in_err-command : goal.returns-in_err-command
returns-in_err-command g c =
    let line = c.args.line.now in
    let before = line_state (told_source line.input) c.args.root.now c.args.repo.now (sink_state g.O.Sink.sink c.args.out.now) in (
      line.input,
      err_is (RunsAlone g.T.TreeDisk.disk g.P.TreeDisk.disk line.words before before) c.from_residual.result c.in_err-command.field-0.0 c.from_residual.ensures.1
          (unread_alone g.P.TreeDisk.disk g.met.T.TreeDisk.laws _ line.words c.get.ensures before c.in_err-command.field-0.0 c.in_err-command.ensures.is c.in_err-command.ensures.read),
    )

pub returns : goal.returns
returns g c =
    let line = c.args.line.now in
    let command = c.in_ok-command.command in
    let runs = c.run_opened.ensures in
    let before = line_state (told_source line.input) c.args.root.now c.args.repo.now (sink_state g.O.Sink.sink c.args.out.now) in
    let now = line_state (told_source runs.0) c.run_opened.new.root c.run_opened.new.repo (sink_state g.O.Sink.sink c.run_opened.new.out) in (
      runs.0,
      begun_alone g.T.TreeDisk.disk g.P.TreeDisk.disk _ line.words c.get.ensures command (read_only (map string_bytes c.get.result.now) command c.in_ok-command.ensures.is c.in_ok-command.ensures.read) before now c.run_opened.result runs.1.0 runs.1.1,
    )
