use Rattle.cny_version.specs.cny-base.Flow.{sink_state}
use Rattle.root_commands.specs.cli-call.cny-laws.Call.{call_state}
use Rattle.conary_cli.proofs.Calls.{some_called}
use Rattle.conary_cli.proofs.ProgramEnds.{whole_program}
use Rattle.conary_cli.proofs.program.run.Goals as goal

pub returns-clause-call : goal.returns-clause-call
returns-clause-call g c expected are =
    let before = call_state g.I.Source.source g.O.Sink.sink c.args.input.now c.args.out.now c.args.root.now c.args.repo.now in
    let now = call_state g.I.Source.source g.O.Sink.sink c.run_words-end.new.input c.run_words-end.new.out c.run_words-end.new.root c.run_words-end.new.repo in
    whole_program g.met.T.TreeDisk.laws g.met.P.TreeDisk.laws c.store_laws.ensures before now (sink_state g.E.Sink.sink c.args.err.now) (sink_state g.E.Sink.sink c.report.new.err) c.report.result c.run_words-end.result
    expected (c.run_words-end.ensures.each expected are) c.report.ensures

pub returns-clause-some : goal.returns-clause-some
returns-clause-some g c =
    let before = call_state g.I.Source.source g.O.Sink.sink c.args.input.now c.args.out.now c.args.root.now c.args.repo.now in
    let now = call_state g.I.Source.source g.O.Sink.sink c.run_words-end.new.input c.run_words-end.new.out c.run_words-end.new.root c.run_words-end.new.repo in
    some_called _ _ _ before now (sink_state g.E.Sink.sink c.args.err.now) (sink_state g.E.Sink.sink c.report.new.err) c.report.result c.run_words-end.result
    (λ expected ran. whole_program g.met.T.TreeDisk.laws g.met.P.TreeDisk.laws c.store_laws.ensures before now (sink_state g.E.Sink.sink c.args.err.now) (sink_state g.E.Sink.sink c.report.new.err) c.report.result c.run_words-end.result expected ran c.report.ensures) c.run_words-end.ensures.some c.report.ensures
