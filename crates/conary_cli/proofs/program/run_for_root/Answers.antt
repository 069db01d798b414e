use Rattle.std.proofs.Common.{refl, inl, inr}
use Rattle.root_commands.specs.cli-call.tree-disk.Untold.{untold}
use Rattle.root_commands.specs.cli-call.Line.{moment}
use Rattle.root_commands.specs.cli-call.Runs.{RunsCall}
use Rattle.root_commands.specs.cli-call.cny-laws.Call.{call_state}
use Rattle.root_commands.proofs.cli-call.CallLaws.{opened_ready}
use Rattle.root_commands.proofs.cli-call.system-core.CallLaws.{no_rise}
use Rattle.root_commands.proofs.cli-call.ForRoot.{ready_for_root, runs_placed}
use Rattle.conary_cli.specs.Commands.{meaning, scope_of}
use Rattle.conary_cli.specs.Records.{EndsOpened}
use Rattle.conary_cli.proofs.ForRoot.{no_contents, not_apart, of_root}
use Rattle.cny_version.specs.cny-base.Flow.{source_state}
use Rattle.cny_version.proofs.cny-base.Passing.{err_is}
use Rattle.conary_cli.proofs.program.run_for_root.Goals as goal

pub run_open-requires : goal.run_open-requires
run_open-requires g c =
    let is = c.in_ok-opened.ensures in
    ready_for_root c.open_for_root.new.root _ c.open_for_root.new.repo c.in_ok-opened.opened.db c.in_ok-opened.opened.catalogue is.catalogue is.none refl
    (opened_ready g.met.T.TreeDisk.laws c.args.root.now c.open_for_root.new.root c.args.repo.now c.open_for_root.new.repo (record { db = c.in_ok-opened.opened.db; catalogue = is.catalogue }) is.are)

pub returns-in_err-opened-clause-runs : goal.returns-in_err-opened-clause-runs
returns-in_err-opened-clause-runs g c =
    let before = call_state g.I.Source.source g.O.Sink.sink c.args.input.now c.args.out.now c.args.root.now c.args.repo.now in
    let now = call_state g.I.Source.source g.O.Sink.sink c.args.input.now c.args.out.now c.open_for_root.new.root c.open_for_root.new.repo in
    err_is (RunsCall g.T.TreeDisk.disk g.P.TreeDisk.disk (scope_of c.args.command.now) (meaning c.args.command.now) before now) c.from_residual.result c.in_err-opened.field-0.0 c.from_residual.ensures.1
    (inl (record { failure = c.in_err-opened.field-0.0; is = refl; stops = c.in_err-opened.ensures; unread = refl; silent = refl }))

pub returns-clause-runs : goal.returns-clause-runs
returns-clause-runs g c =
    let is = c.in_ok-opened.ensures in
    let on = c.requires in
    let command = c.args.command.now in
    let db = c.in_ok-opened.opened.db in
    let repo = c.open_for_root.new.repo in
    let ready = opened_ready g.met.T.TreeDisk.laws c.args.root.now c.open_for_root.new.root c.args.repo.now repo (record { db = db; catalogue = is.catalogue }) is.are in
    inr (record {
      root = c.open_for_root.new.root;
      repo = repo;
      opened = record { db = db; catalogue = is.catalogue };
      opened' = record { db = c.run_open.new.opened.db; catalogue = is.catalogue };
      opens = is.are;
      runs = runs_placed g.T.TreeDisk.disk (untold (λ none. 0)) g.P.TreeDisk.disk (λ none none' rose. no_rise rose) repo is.catalogue
          (moment g.O.Sink.sink c.open_for_root.new.root _ c.in_ok-opened.opened c.args.out.now) (moment g.O.Sink.sink c.run_open.new.root _ c.run_open.new.opened c.run_open.new.out)
          g.met.P.TreeDisk.laws c.store_laws.ensures is.none ready (scope_of command) on (not_apart command on) (no_contents command on) (meaning command) (of_root command on)
          (source_state g.I.Source.source c.args.input.now) (source_state g.I.Source.source c.run_open.new.input) c.run_open.result c.run_open.ensures.runs;
    })

pub returns-in_err-opened-clause-records : goal.returns-in_err-opened-clause-records
returns-in_err-opened-clause-records g c =
    let before = call_state g.I.Source.source g.O.Sink.sink c.args.input.now c.args.out.now c.args.root.now c.args.repo.now in
    let now = call_state g.I.Source.source g.O.Sink.sink c.args.input.now c.args.out.now c.open_for_root.new.root c.open_for_root.new.repo in
    err_is (EndsOpened g.T.TreeDisk.disk g.P.TreeDisk.disk c.args.command.now before now) c.from_residual.result c.in_err-opened.field-0.0 c.from_residual.ensures.1
    (λ le told. inl (record { failure = c.in_err-opened.field-0.0; is = refl; stops = c.in_err-opened.ensures; unread = refl; silent = refl }))

pub returns-clause-records : goal.returns-clause-records
returns-clause-records g c le told = inr (record {
  root = c.open_for_root.new.root;
  db = c.in_ok-opened.opened.db;
  opens = c.in_ok-opened.ensures.are.opens_root;
  whole = c.run_open.ensures.records told;
})
