use Rattle.cny_version.specs.cny-base.Flow.{sink_state}
use Rattle.conary_cli.specs.Program.{line_state, told_source}
use Rattle.conary_cli.proofs.Calls.{some_called, whole_words}
use Rattle.conary_cli.proofs.line_alone.run_line.Goals as goal

pub returns-clause-some : goal.returns-clause-some
returns-clause-some g c =
    let line = c.args.line.now in
    let before = line_state (told_source line.input) c.args.root.now c.args.repo.now (sink_state g.O.Sink.sink c.args.out.now) in
    let now = line_state (told_source c.run_alone-end.ensures.0) c.run_alone-end.new.root c.run_alone-end.new.repo (sink_state g.O.Sink.sink c.run_alone-end.new.out) in (
      c.run_alone-end.ensures.0,
      some_called _ _ _ before now (sink_state g.E.Sink.sink c.args.err.now) (sink_state g.E.Sink.sink c.report.new.err) c.report.result c.run_alone-end.result
          (λ expected ran. whole_words g.met.T.TreeDisk.laws g.met.P.TreeDisk.laws c.store_laws.ensures before now (sink_state g.E.Sink.sink c.args.err.now) (sink_state g.E.Sink.sink c.report.new.err) c.report.result c.run_alone-end.result expected ran c.report.ensures) c.run_alone-end.ensures.1.0 c.report.ensures,
    )

pub returns-clause-call : goal.returns-clause-call
returns-clause-call g c expected are =
    let line = c.args.line.now in
    let before = line_state (told_source line.input) c.args.root.now c.args.repo.now (sink_state g.O.Sink.sink c.args.out.now) in
    let now = line_state (told_source c.run_alone-end.ensures.0) c.run_alone-end.new.root c.run_alone-end.new.repo (sink_state g.O.Sink.sink c.run_alone-end.new.out) in (
      c.run_alone-end.ensures.0,
      whole_words g.met.T.TreeDisk.laws g.met.P.TreeDisk.laws c.store_laws.ensures before now (sink_state g.E.Sink.sink c.args.err.now) (sink_state g.E.Sink.sink c.report.new.err) c.report.result c.run_alone-end.result expected
          (c.run_alone-end.ensures.1.1 expected are) c.report.ensures,
    )
