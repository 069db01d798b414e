use Rattle.std.proofs.Common.{ℕ, List, true, Ok, Err, subst}
use Rattle.cny_version.proofs.cny-base.Passing.{err_is}
use Rattle.root_commands.specs.cli-call.Line.{moment}
use Rattle.conary_cli.specs.Lines.{CallLine, GivesOf, RunsOf}
use Rattle.conary_cli.specs.Commands.{meaning}
use Rattle.conary_cli.proofs.LineWords.{line_done, ok_holds, refused_line}
use Rattle.conary_cli.proofs.lines.run_given.Goals as goal

pub returns-in_err-input : goal.returns-in_err-input
returns-in_err-input g c =
    let at = moment g.O.Sink.sink c.args.root.now c.args.repo.now c.args.opened.now c.args.out.now in
    let l : CallLine = record { shown = true; line = c.args.line.now } in
    err_is (RunsOf g.T.TreeDisk.disk g.P.TreeDisk.disk (Ok c.args.command.now) l at at) c.from_residual.result c.in_err-input.field-0.0 c.from_residual.ensures.1
    (refused_line g.T.TreeDisk.disk g.P.TreeDisk.disk l c.args.command.now at c.in_err-input.field-0.0 (subst (λ (x : List ℕ). GivesOf (meaning c.args.command.now).takes_input x (Err c.in_err-input.field-0.0)) c.get.ensures c.in_err-input.ensures.err))

pub returns : goal.returns
returns g c =
    let at = moment g.O.Sink.sink c.args.root.now c.args.repo.now c.args.opened.now c.args.out.now in
    let new = moment g.O.Sink.sink c.run_command.new.root c.run_command.new.repo c.run_command.new.opened c.run_command.new.out in
    let l : CallLine = record { shown = true; line = c.args.line.now } in
    line_done g.T.TreeDisk.disk g.P.TreeDisk.disk l c.args.command.now at c.in_ok-input.input.now (subst (λ (x : List ℕ). GivesOf (meaning c.args.command.now).takes_input x (Ok c.in_ok-input.input.now)) c.get.ensures c.in_ok-input.ensures.ok) new c.run_command.result
    c.run_command.ensures.line c.run_command.ensures.records (λ off. absurd (cc off)) (λ is. ok_holds c.run_command.result tt is c.run_command.ensures.again)
