use Rattle.std.proofs.Common.{true, refl, inl, inr}
use Rattle.root_commands.specs.cli-call.cny-laws.Call.{call_state}
use Rattle.root_commands.proofs.cli-call.CallLaws.{opened_ready}
use Rattle.cny_version.proofs.cny-base.Passing.{err_is}
use Rattle.conary_cli.specs.RunsSeveral.{RunsSeveral}
use Rattle.conary_cli.specs.Several.{AreBatchLines}
use Rattle.conary_cli.proofs.SeveralEnds.{none_read_call}
use Rattle.conary_cli.proofs.several.run_batch.Goals as goal

pub run_lines-requires : goal.run_lines-requires
run_lines-requires g c = opened_ready g.met.T.TreeDisk.laws c.args.root.now c.open_disks.new.root c.args.repo.now c.open_disks.new.repo c.in_ok-opened.opened c.in_ok-opened.ensures

pub returns-in_err-opened : goal.returns-in_err-opened
returns-in_err-opened g c =
    let before = call_state g.I.Source.source g.O.Sink.sink c.args.input.now c.args.out.now c.args.root.now c.args.repo.now in
    let now = call_state g.I.Source.source g.O.Sink.sink c.args.input.now c.args.out.now c.open_disks.new.root c.open_disks.new.repo in
    err_is (RunsSeveral g.T.TreeDisk.disk g.P.TreeDisk.disk true AreBatchLines before now) c.from_residual.result c.in_err-opened.field-0.0 c.from_residual.ensures.1
    (inl (inl (record { failure = c.in_err-opened.field-0.0; is = refl; stops = c.in_err-opened.ensures; unread = refl; silent = refl })))

pub returns-in_err-lines : goal.returns-in_err-lines
returns-in_err-lines g c =
    let before = call_state g.I.Source.source g.O.Sink.sink c.args.input.now c.args.out.now c.args.root.now c.args.repo.now in
    let now = call_state g.I.Source.source g.O.Sink.sink c.read_lines.new.input c.args.out.now c.open_disks.new.root c.open_disks.new.repo in
    err_is (RunsSeveral g.T.TreeDisk.disk g.P.TreeDisk.disk true AreBatchLines before now) c.from_residual-in_err-lines.result c.in_err-lines.field-0.0 c.from_residual-in_err-lines.ensures.1
    (inl (none_read_call g.met.T.TreeDisk.laws g.met.P.TreeDisk.laws true AreBatchLines before now c.open_disks.new.root c.open_disks.new.repo c.in_ok-opened.opened c.in_ok-opened.ensures refl refl refl c.in_err-lines.field-0.0 c.in_err-lines.ensures c.store_laws.ensures))

pub returns : goal.returns
returns g c = inr (record {
  root = c.open_disks.new.root;
  repo = c.open_disks.new.repo;
  opened = c.in_ok-opened.opened;
  last = c.run_lines.new.opened;
  opens = c.in_ok-opened.ensures;
  lines = _;
  reads = c.in_ok-lines.ensures;
  runs = rw c.get.ensures at c.run_lines.ensures;
})
