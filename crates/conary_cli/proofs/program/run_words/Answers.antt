use Rattle.std.proofs.Common.{Ok, map, inl, sym, subst}
use Rattle.std.specs.Prelude.{string_bytes}
use Rattle.cny_version.specs.cny-base.Flow.{sink_state, source_state}
use Rattle.root_commands.specs.cli-call.cny-laws.Call.{call_state}
use Rattle.conary_cli.specs.Program.{RunsProgram, RunsSomething}
use Rattle.cli_words.specs.Calls.{AreCall}
use Rattle.cli_words.specs.declared.call_words.Call.{Call}
use Rattle.cli_words.specs.declared.call_words.Call.TheVariants as call
use Rattle.cli_words.proofs.CallWords.{call_few}
use Rattle.conary_cli.proofs.LineWords.{call_at}
use Rattle.conary_cli.proofs.ProgramWords.{no_call, some_unread}
use Rattle.cny_version.proofs.cny-base.Passing.{err_is}
use Rattle.conary_cli.proofs.program.run_words.Goals as goal

pub returns-in_err-command-clause-each : goal.returns-in_err-command-clause-each
returns-in_err-command-clause-each g c expected are =
    let before = call_state g.I.Source.source g.O.Sink.sink c.args.input.now c.args.out.now c.args.root.now c.args.repo.now in
    err_is (RunsProgram g.T.TreeDisk.disk g.P.TreeDisk.disk expected before before) c.from_residual.result c.in_err-command.field-0.0 c.from_residual.ensures.1
    (no_call g.P.TreeDisk.disk g.met.T.TreeDisk.laws before expected c.in_err-command.field-0.0 (c.in_err-command.ensures.read expected are))

pub returns-in_err-command-clause-some : goal.returns-in_err-command-clause-some
returns-in_err-command-clause-some g c =
    let before = call_state g.I.Source.source g.O.Sink.sink c.args.input.now c.args.out.now c.args.root.now c.args.repo.now in
    err_is (RunsSomething g.T.TreeDisk.disk g.P.TreeDisk.disk (map string_bytes c.args.words.now) before before) c.from_residual.result c.in_err-command.field-0.0 c.from_residual.ensures.1
    (some_unread g.T.TreeDisk.disk g.P.TreeDisk.disk (map string_bytes c.args.words.now) before c.in_err-command.field-0.0 c.in_err-command.ensures.is)

pub returns-in-Single-clause-each : goal.returns-in-Single-clause-each
returns-in-Single-clause-each g c expected are =
    let before = call_state g.I.Source.source g.O.Sink.sink c.args.input.now c.args.out.now c.args.root.now c.args.repo.now in
    let now = call_state g.I.Source.source g.O.Sink.sink c.run_call.new.input c.run_call.new.out c.run_call.new.root c.run_call.new.repo in
    subst (λ w. RunsProgram g.T.TreeDisk.disk g.P.TreeDisk.disk w before now c.run_call.result) (sym (c.in_ok-command.ensures.read expected are))
    (subst (λ (x : Call). RunsProgram g.T.TreeDisk.disk g.P.TreeDisk.disk (Ok x) before now c.run_call.result) (sym c.in-Single.is) (c.run_call.ensures.runs, c.run_call.ensures.records))

pub returns-in-Single-clause-some : goal.returns-in-Single-clause-some
returns-in-Single-clause-some g c = inl (Ok (call.Single c.in-Single.command), (subst (λ (x : Call). AreCall (map string_bytes c.args.words.now) (Ok x)) c.in-Single.is c.in_ok-command.ensures.is), (c.run_call.ensures.runs, c.run_call.ensures.records))

pub returns-in-Batch-clause-each : goal.returns-in-Batch-clause-each
returns-in-Batch-clause-each g c expected are =
    let before = call_state g.I.Source.source g.O.Sink.sink c.args.input.now c.args.out.now c.args.root.now c.args.repo.now in
    let now = call_state g.I.Source.source g.O.Sink.sink c.run_batch.new.input c.run_batch.new.out c.run_batch.new.root c.run_batch.new.repo in
    subst (λ w. RunsProgram g.T.TreeDisk.disk g.P.TreeDisk.disk w before now c.run_batch.result) (sym (c.in_ok-command.ensures.read expected are))
    (subst (λ (x : Call). RunsProgram g.T.TreeDisk.disk g.P.TreeDisk.disk (Ok x) before now c.run_batch.result) (sym c.in-Batch.is) c.run_batch.ensures)

pub returns-in-Batch-clause-some : goal.returns-in-Batch-clause-some
returns-in-Batch-clause-some g c = inl (Ok call.Batch, (subst (λ (x : Call). AreCall (map string_bytes c.args.words.now) (Ok x)) c.in-Batch.is c.in_ok-command.ensures.is), c.run_batch.ensures)

pub run_demo-requires : goal.run_demo-requires
run_demo-requires g c = call_few (map string_bytes c.args.words.now) (Ok (call.Demo c.in-Demo.packages)) (subst (λ (x : Call). AreCall (map string_bytes c.args.words.now) (Ok x)) c.in-Demo.is c.in_ok-command.ensures.is)

-- whatever the input is
pub returns-in-Demo-clause-each : goal.returns-in-Demo-clause-each
returns-in-Demo-clause-each g c expected are =
    let input = source_state g.I.Source.source c.args.input.now in
    let out = sink_state g.O.Sink.sink c.args.out.now in
    let out' = sink_state g.O.Sink.sink c.run_demo.new.out in
    let before = call_at input c.args.root.now c.args.repo.now out in
    let now = call_at input c.run_demo.new.root c.run_demo.new.repo out' in
    subst (λ w. RunsProgram g.T.TreeDisk.disk g.P.TreeDisk.disk w before now c.run_demo.result) (sym (c.in_ok-command.ensures.read expected are))
    (subst (λ (x : Call). RunsProgram g.T.TreeDisk.disk g.P.TreeDisk.disk (Ok x) before now c.run_demo.result) (sym c.in-Demo.is) (c.run_demo.ensures input))

pub returns-in-Demo-clause-some : goal.returns-in-Demo-clause-some
returns-in-Demo-clause-some g c = inl (Ok (call.Demo c.in-Demo.packages), (subst (λ (x : Call). AreCall (map string_bytes c.args.words.now) (Ok x)) c.in-Demo.is c.in_ok-command.ensures.is), c.run_demo.ensures (source_state g.I.Source.source c.args.input.now))
