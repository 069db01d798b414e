use Rattle.std.proofs.Common.{map}
use Rattle.std.specs.Prelude.{string_bytes}
use Rattle.cny_version.proofs.cny-base.Passing.{err_is}
use Rattle.root_commands.specs.cli-call.Line.{moment}
use Rattle.conary_cli.specs.Lines.{CallLine, RunsOne}
use Rattle.conary_cli.proofs.LineWords.{read_line, read_only, unread_line}
use Rattle.conary_cli.proofs.lines.run_made.Goals as goal

pub returns-in_err-command : goal.returns-in_err-command
returns-in_err-command g c =
    let at = moment g.O.Sink.sink c.args.root.now c.args.repo.now c.args.opened.now c.args.out.now in
    let l : CallLine = record { shown = c.args.shown; line = c.args.line.now } in
    err_is (RunsOne g.T.TreeDisk.disk g.P.TreeDisk.disk l at at) c.from_residual.result c.in_err-command.field-0.0 c.from_residual.ensures.1
    (unread_line g.T.TreeDisk.disk g.P.TreeDisk.disk l _ c.get.ensures at c.in_err-command.field-0.0 c.in_err-command.ensures.is c.in_err-command.ensures.read)

pub returns : goal.returns
returns g c =
    let at = moment g.O.Sink.sink c.args.root.now c.args.repo.now c.args.opened.now c.args.out.now in
    let new = moment g.O.Sink.sink c.run_given_as.new.root c.run_given_as.new.repo c.run_given_as.new.opened c.run_given_as.new.out in
    let l : CallLine = record { shown = c.args.shown; line = c.args.line.now } in
    let command = c.in_ok-command.command in
    read_line g.T.TreeDisk.disk g.P.TreeDisk.disk l _ c.get.ensures at command (read_only (map string_bytes c.get.result.now) command c.in_ok-command.ensures.is c.in_ok-command.ensures.read) new c.run_given_as.result c.run_given_as.ensures
