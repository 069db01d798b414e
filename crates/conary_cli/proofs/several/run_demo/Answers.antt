use Rattle.std.proofs.Common.{false, refl, inl, inr, []}
use Rattle.cny_version.specs.cny-base.Flow.{sink_state}
use Rattle.root_commands.proofs.cli-call.CallLaws.{opened_ready}
use Rattle.cny_version.proofs.cny-base.Passing.{err_is}
use Rattle.conary_cli.specs.RunsSeveral.{RunsSeveral}
use Rattle.conary_cli.specs.Several.{AreDemoLines}
use Rattle.conary_cli.proofs.SeveralEnds.{nothing_taken}
use Rattle.conary_cli.proofs.LineWords.{call_at}
use Rattle.conary_cli.proofs.several.run_demo.Goals as goal

pub run_demo_lines-requires-clause-ready : goal.run_demo_lines-requires-clause-ready
run_demo_lines-requires-clause-ready g c = opened_ready g.met.T.TreeDisk.laws c.args.root.now c.open_disks.new.root c.args.repo.now c.open_disks.new.repo c.in_ok-opened.opened c.in_ok-opened.ensures

pub returns-in_err-opened : goal.returns-in_err-opened
returns-in_err-opened g c = λ input.
    let before = call_at input c.args.root.now c.args.repo.now (sink_state g.O.Sink.sink c.args.out.now) in
    let now = call_at input c.open_disks.new.root c.open_disks.new.repo (sink_state g.O.Sink.sink c.args.out.now) in
    err_is (RunsSeveral g.T.TreeDisk.disk g.P.TreeDisk.disk false (AreDemoLines c.args.packages) before now) c.from_residual.result c.in_err-opened.field-0.0 c.from_residual.ensures.1
    (inl (inl (record { failure = c.in_err-opened.field-0.0; is = refl; stops = c.in_err-opened.ensures; unread = refl; silent = refl })))

pub returns : goal.returns
returns g c = λ input. inr (record {
  root = c.open_disks.new.root;
  repo = c.open_disks.new.repo;
  opened = c.in_ok-opened.opened;
  last = c.run_demo_lines.new.opened;
  opens = c.in_ok-opened.ensures;
  lines = _;
  reads = record { bytes = []; reads = nothing_taken input; are = refl };
  runs = c.run_demo_lines.ensures;
})
