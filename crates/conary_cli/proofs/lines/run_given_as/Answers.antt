use Rattle.std.proofs.Common.{Bool, Ok, sym, subst}
use Rattle.cny_version.specs.cny-base.Flow.{sink_state}
use Rattle.root_commands.specs.cli-call.Line.{moment}
use Rattle.conary_cli.specs.Lines.{RunsOf}
use Rattle.conary_cli.proofs.lines.run_given_as.Goals as goal

pub returns : goal.returns
returns g c =
    let old = moment g.O.Sink.sink c.args.root.now c.args.repo.now c.args.opened.now c.args.out.now in
    let new = moment g.O.Sink.sink c.run_given_unshown.new.root c.run_given_unshown.new.repo c.run_given_unshown.new.opened c.args.out.now in
    subst (λ (b : Bool). RunsOf g.T.TreeDisk.disk g.P.TreeDisk.disk (Ok c.args.command.now) (record { shown = b; line = c.args.line.now }) old new c.run_given_unshown.result) (sym c.if-shown.false)
    (c.run_given_unshown.ensures (sink_state g.O.Sink.sink c.args.out.now))
