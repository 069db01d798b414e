use Rattle.std.proofs.Common.{refl, inl, inr}
use Rattle.root_commands.specs.cli-call.cny-laws.Call.{call_state}
use Rattle.root_commands.specs.cli-call.Runs.{RunsCall}
use Rattle.root_commands.proofs.cli-call.CallLaws.{opened_ready}
use Rattle.conary_cli.specs.Commands.{meaning, scope_of}
use Rattle.conary_cli.specs.Records.{EndsOpened}
use Rattle.cny_version.proofs.cny-base.Passing.{err_is}
use Rattle.conary_cli.proofs.program.run_call.Goals as goal

pub returns-in_err-opened-clause-runs : goal.returns-in_err-opened-clause-runs
returns-in_err-opened-clause-runs g c =
    let before = call_state g.I.Source.source g.O.Sink.sink c.args.input.now c.args.out.now c.args.root.now c.args.repo.now in
    let now = call_state g.I.Source.source g.O.Sink.sink c.args.input.now c.args.out.now c.open_disks.new.root c.open_disks.new.repo in
    err_is (RunsCall g.T.TreeDisk.disk g.P.TreeDisk.disk (scope_of c.args.command.now) (meaning c.args.command.now) before now) c.from_residual.result c.in_err-opened.field-0.0 c.from_residual.ensures.1
    (inl (record { failure = c.in_err-opened.field-0.0; is = refl; stops = c.in_err-opened.ensures; unread = refl; silent = refl }))

pub run_open-requires : goal.run_open-requires
run_open-requires g c = opened_ready g.met.T.TreeDisk.laws c.args.root.now c.open_disks.new.root c.args.repo.now c.open_disks.new.repo c.in_ok-opened.opened c.in_ok-opened.ensures

pub returns-clause-runs : goal.returns-clause-runs
returns-clause-runs g c = inr (record {
  root = c.open_disks.new.root;
  repo = c.open_disks.new.repo;
  opened = c.in_ok-opened.opened;
  opened' = c.run_open.new.opened;
  opens = c.in_ok-opened.ensures;
  runs = c.run_open.ensures.runs;
})

pub returns-in_err-opened-clause-records : goal.returns-in_err-opened-clause-records
returns-in_err-opened-clause-records g c =
    let before = call_state g.I.Source.source g.O.Sink.sink c.args.input.now c.args.out.now c.args.root.now c.args.repo.now in
    let now = call_state g.I.Source.source g.O.Sink.sink c.args.input.now c.args.out.now c.open_disks.new.root c.open_disks.new.repo in
    err_is (EndsOpened g.T.TreeDisk.disk g.P.TreeDisk.disk c.args.command.now before now) c.from_residual.result c.in_err-opened.field-0.0 c.from_residual.ensures.1
    (λ le told. inl (record { failure = c.in_err-opened.field-0.0; is = refl; stops = c.in_err-opened.ensures; unread = refl; silent = refl }))

pub returns-clause-records : goal.returns-clause-records
returns-clause-records g c le told = inr (record {
  root = c.open_disks.new.root;
  db = c.in_ok-opened.opened.db;
  opens = c.in_ok-opened.ensures.opens_root;
  whole = c.run_open.ensures.records told;
})
