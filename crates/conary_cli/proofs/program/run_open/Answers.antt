use Rattle.cny_version.specs.cny-base.Flow.{source_state}
use Rattle.root_commands.specs.cli-call.Runs.{RunsOpen}
use Rattle.root_commands.specs.cli-call.Line.{moment}
use Rattle.conary_cli.specs.Commands.{meaning, scope_of}
use Rattle.conary_cli.specs.Records.{EndsWhole}
use Rattle.conary_cli.proofs.Calls.{not_read, was_read}
use Rattle.conary_cli.proofs.RecordEnds.{unread_whole}
use Rattle.cny_version.proofs.cny-base.Passing.{err_is}
use Rattle.conary_cli.proofs.program.run_open.Goals as goal

pub returns-in_err-bytes-clause-runs : goal.returns-in_err-bytes-clause-runs
returns-in_err-bytes-clause-runs g c =
    let old = source_state g.I.Source.source c.args.input.now in
    let new = source_state g.I.Source.source c.read_given.new.input in
    let at = moment g.O.Sink.sink c.args.root.now c.args.repo.now c.args.opened.now c.args.out.now in
    err_is (RunsOpen g.T.TreeDisk.disk g.P.TreeDisk.disk (scope_of c.args.command.now) (meaning c.args.command.now) old new at at) c.from_residual.result c.in_err-bytes.field-0.0 c.from_residual.ensures.1
    (not_read (scope_of c.args.command.now) (meaning c.args.command.now) c.takes_input.result old new at c.in_err-bytes.field-0.0 c.takes_input.ensures c.in_err-bytes.ensures)

pub returns-clause-runs : goal.returns-clause-runs
returns-clause-runs g c =
    let old = source_state g.I.Source.source c.args.input.now in
    let new = source_state g.I.Source.source c.read_given.new.input in
    was_read (scope_of c.args.command.now) (meaning c.args.command.now) c.takes_input.result old new _ _ c.run_command.result c.get.result.now _ c.get.ensures c.takes_input.ensures c.in_ok-bytes.ensures c.run_command.ensures.line

pub returns-in_err-bytes-clause-records : goal.returns-in_err-bytes-clause-records
returns-in_err-bytes-clause-records g c told =
    let tree = g.T.TreeDisk.disk.reads c.args.root.now in
    let db = c.args.opened.now.db in
    err_is (EndsWhole {A = Unit {0}} c.args.command.now tree db) c.from_residual.result c.in_err-bytes.field-0.0 c.from_residual.ensures.1
    (unread_whole c.args.command.now tree db c.takes_input.result c.in_err-bytes.field-0.0 c.takes_input.ensures c.in_err-bytes.ensures)

pub returns-clause-records : goal.returns-clause-records
returns-clause-records g c told = c.run_command.ensures.records told
