use Rattle.std.proofs.Common.{Ok, refl, inl, inr}
use Rattle.cny_version.specs.cny-base.Flow.{sink_state}
use Rattle.root_commands.specs.cli-call.Line.{moment}
use Rattle.root_commands.specs.cli-call.cny-laws.Reading.{left_by}
use Rattle.root_commands.proofs.cli-call.CallLaws.{opened_ready}
use Rattle.cny_version.proofs.cny-base.Passing.{err_is}
use Rattle.conary_cli.specs.Commands.{RunsWords, meaning}
use Rattle.conary_cli.specs.Program.{line_state, told_source}
use Rattle.conary_cli.proofs.LineCalls.{given_alone, given_whole}
use Rattle.conary_cli.proofs.line_alone.run_opened.Goals as goal

pub run_given-requires : goal.run_given-requires
run_given-requires g c = opened_ready g.met.T.TreeDisk.laws c.args.root.now c.open_disks.new.root c.args.repo.now c.open_disks.new.repo c.in_ok-opened.opened c.in_ok-opened.ensures

pub returns-in_err-opened : goal.returns-in_err-opened
returns-in_err-opened g c =
    let input = told_source c.args.line.now.input in
    let out = sink_state g.O.Sink.sink c.args.out.now in
    let before = line_state input c.args.root.now c.args.repo.now out in
    let now = line_state input c.open_disks.new.root c.open_disks.new.repo out in
    let e = c.in_err-opened.field-0.0 in (
      c.args.line.now.input,
      err_is (RunsWords g.T.TreeDisk.disk g.P.TreeDisk.disk (Ok c.args.command.now) before now) c.from_residual.result e c.from_residual.ensures.1 (
        inl (record { failure = e; is = refl; stops = c.in_err-opened.ensures; unread = refl; silent = refl }),
        λ le told. inl (record { failure = e; is = refl; stops = c.in_err-opened.ensures; unread = refl; silent = refl }),
      ),
    )

pub returns : goal.returns
returns g c =
    let line = c.args.line.now in
    let command = c.args.command.now in
    let opened = c.in_ok-opened.opened in
    let old = moment g.O.Sink.sink c.open_disks.new.root c.open_disks.new.repo opened c.args.out.now in
    let new = moment g.O.Sink.sink c.run_given.new.root c.run_given.new.repo c.run_given.new.opened c.run_given.new.out in (
      left_by (meaning command).takes_input line.input,
      (
        inr (record {
          root = c.open_disks.new.root;
          repo = c.open_disks.new.repo;
          opened = opened;
          opened' = c.run_given.new.opened;
          opens = c.in_ok-opened.ensures;
          runs = given_alone g.T.TreeDisk.disk g.P.TreeDisk.disk command line old new c.run_given.result c.run_given.ensures;
        }),
        λ le told. inr (record {
          root = c.open_disks.new.root;
          db = opened.db;
          opens = c.in_ok-opened.ensures.opens_root;
          whole = given_whole g.T.TreeDisk.disk g.P.TreeDisk.disk command line old new c.run_given.result c.run_given.ensures told;
        }),
      ),
    )
