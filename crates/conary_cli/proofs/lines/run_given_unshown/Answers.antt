use Rattle.std.proofs.Common.{ℕ, List, false, Err, Ok, refl, subst}
use Rattle.cny_version.proofs.cny-base.Passing.{err_is}
use Rattle.root_commands.specs.cli-call.Command.{disks}
use Rattle.conary_cli.specs.Lines.{CallLine, GivesOf, RunsOf}
use Rattle.conary_cli.specs.Commands.{meaning}
use Rattle.conary_cli.proofs.LineWords.{at_out, line_done, refused_line}
use Rattle.conary_cli.proofs.RecordEnds.{written_whole}
use Rattle.conary_cli.proofs.Unshown.{unshown_line}
use Rattle.conary_cli.proofs.lines.run_given_unshown.Goals as goal

pub returns-in_err-input : goal.returns-in_err-input
returns-in_err-input g c = λ out.
    let at = at_out (disks c.args.root.now c.args.repo.now c.args.opened.now) out in
    let l : CallLine = record { shown = false; line = c.args.line.now } in
    err_is (RunsOf g.T.TreeDisk.disk g.P.TreeDisk.disk (Ok c.args.command.now) l at at) c.from_residual.result c.in_err-input.field-0.0 c.from_residual.ensures.1
    (refused_line g.T.TreeDisk.disk g.P.TreeDisk.disk l c.args.command.now at c.in_err-input.field-0.0 (subst (λ (x : List ℕ). GivesOf (meaning c.args.command.now).takes_input x (Err c.in_err-input.field-0.0)) c.get.ensures c.in_err-input.ensures.err))

pub returns-in_err-perform : goal.returns-in_err-perform
returns-in_err-perform g c = λ out.
    let old = disks c.args.root.now c.args.repo.now c.args.opened.now in
    let after = disks c.perform.new.root c.perform.new.repo c.perform.new.opened in
    let at = at_out old out in
    let new = at_out after out in
    let l : CallLine = record { shown = false; line = c.args.line.now } in
    let command = c.args.command.now in
    let e = c.in_err-perform.field-0.0 in
    err_is (RunsOf g.T.TreeDisk.disk g.P.TreeDisk.disk (Ok command) l at new) c.from_residual-in_err-perform.result e c.from_residual-in_err-perform.ensures.1
    (line_done g.T.TreeDisk.disk g.P.TreeDisk.disk l command at c.in_ok-input.input.now (subst (λ (x : List ℕ). GivesOf (meaning c.args.command.now).takes_input x (Ok c.in_ok-input.input.now)) c.get.ensures c.in_ok-input.ensures.ok) new (Err e)
    (unshown_line command c.in_ok-input.input.now old after (Err e) out c.in_err-perform.ensures.performs)
    (λ told. written_whole command (g.T.TreeDisk.disk.reads c.args.root.now) c.args.opened.now.db (Err e) out out (Err e) (refl, refl) (c.in_err-perform.ensures.performs.records told)) (λ off. refl) (λ is. absurd (cc is)))

pub returns : goal.returns
returns g c = λ out.
    let old = disks c.args.root.now c.args.repo.now c.args.opened.now in
    let after = disks c.perform.new.root c.perform.new.repo c.perform.new.opened in
    let at = at_out old out in
    let new = at_out after out in
    let l : CallLine = record { shown = false; line = c.args.line.now } in
    let command = c.args.command.now in
    line_done g.T.TreeDisk.disk g.P.TreeDisk.disk l command at c.in_ok-input.input.now (subst (λ (x : List ℕ). GivesOf (meaning c.args.command.now).takes_input x (Ok c.in_ok-input.input.now)) c.get.ensures c.in_ok-input.ensures.ok) new (Ok tt)
    (unshown_line command c.in_ok-input.input.now old after (Ok c.in_ok-perform.field-0) out c.in_ok-perform.ensures.performs) (λ told. c.in_ok-perform.ensures.performs.records told) (λ off. refl) (λ is. c.in_ok-perform.ensures.again)
