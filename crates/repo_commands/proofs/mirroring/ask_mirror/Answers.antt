use Rattle.std.proofs.Common.{Ok, Err}
use Rattle.cli_call.specs.Alone.{ActsOnRepository, AnswersByLists}
use Rattle.cli_call.specs.Command.{disks}
use Rattle.cli_call.specs.cny-laws.Failures.{failure_of_fault}
use Rattle.repo_commands.specs.AskMirror as spec
use Rattle.repo_commands.proofs.MirrorEnds.{asked_acts, asked_by_lists}
use Rattle.cny_version.proofs.cny-base.Passing.{err_is}
use Rattle.repo_commands.proofs.mirroring.ask_mirror.Goals as goal

pub returns-in_err-ask-clause-acts : goal.returns-in_err-ask-clause-acts
returns-in_err-ask-clause-acts g c = λ input.
    let m = disks c.args.root.now c.args.repo.now c.args.opened.now in
    err_is (ActsOnRepository g.T.TreeDisk.disk g.P.TreeDisk.disk spec.ask_mirror input m m) c.from_residual.result (failure_of_fault c.in_err-ask.field-0.0) c.from_residual.ensures.1
    (asked_acts input m g.met.P.TreeDisk.laws c.store_laws.ensures c.requires c.stored_state.ensures.catalogue (Err c.in_err-ask.field-0.0) c.in_err-ask.ensures)

pub returns-clause-acts : goal.returns-clause-acts
returns-clause-acts g c = λ input.
    let m = disks c.args.root.now c.args.repo.now c.args.opened.now in
    asked_acts input m g.met.P.TreeDisk.laws c.store_laws.ensures c.requires c.stored_state.ensures.catalogue (Ok c.in_ok-ask.field-0) c.in_ok-ask.ensures

pub returns-in_err-ask-clause-lists : goal.returns-in_err-ask-clause-lists
returns-in_err-ask-clause-lists g c = λ input.
    let m = disks c.args.root.now c.args.repo.now c.args.opened.now in
    err_is (AnswersByLists g.T.TreeDisk.disk g.P.TreeDisk.disk spec.ask_mirror input m m) c.from_residual.result (failure_of_fault c.in_err-ask.field-0.0) c.from_residual.ensures.1
    (asked_by_lists input m (Err c.in_err-ask.field-0.0) c.in_err-ask.ensures)

pub returns-clause-lists : goal.returns-clause-lists
returns-clause-lists g c = λ input.
    let m = disks c.args.root.now c.args.repo.now c.args.opened.now in
    asked_by_lists input m (Ok c.in_ok-ask.field-0) c.in_ok-ask.ensures
