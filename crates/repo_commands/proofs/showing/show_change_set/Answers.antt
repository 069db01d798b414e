use Rattle.cli_call.specs.cny-laws.declared.failure.Failure.TheVariants as failure
use Rattle.cli_call.specs.Alone.{AnswersByLists, PerformsAlone}
use Rattle.cli_call.specs.Command.{disks, Performs}
use Rattle.cli_call.specs.cny-laws.Failures.{failure_of_fault}
use Rattle.repo_commands.specs.ShowChangeSet as spec
use Rattle.repo_commands.proofs.ShowEnds.{memory_out, memory_out_alone, memory_out_listed, shows, shows_alone, shows_listed, shows_none, shows_none_alone, shows_none_listed}
use Rattle.cny_version.proofs.cny-base.Passing.{err_is}
use Rattle.repo_commands.proofs.showing.show_change_set.Goals as goal

pub returns-in_err-change-clause-performs : goal.returns-in_err-change-clause-performs
returns-in_err-change-clause-performs g c =
    let m = disks c.args.root.now c.args.repo.now c.args.opened.now in
    err_is (Performs g.T.TreeDisk.disk g.P.TreeDisk.disk spec.show_change_set c.args.input.now m m) c.from_residual.result (failure_of_fault c.in_err-change.field-0.0) c.from_residual.ensures.1
    (shows_none g.met.T.TreeDisk.laws g.met.P.TreeDisk.laws c.store_laws.ensures c.args.input.now m c.requires c.in_err-change.field-0.0 c.in_err-change.ensures.refused c.in_err-change.ensures.only)

pub returns-in_err-change_text-clause-performs : goal.returns-in_err-change_text-clause-performs
returns-in_err-change_text-clause-performs g c =
    let m = disks c.args.root.now c.args.repo.now c.args.opened.now in
    err_is (Performs g.T.TreeDisk.disk g.P.TreeDisk.disk spec.show_change_set c.args.input.now m m) c.from_residual-in_err-change_text.result failure.Memory c.from_residual-in_err-change_text.ensures.1
    (memory_out g.met.T.TreeDisk.laws g.met.P.TreeDisk.laws c.store_laws.ensures c.args.input.now m c.requires)

pub returns-clause-performs : goal.returns-clause-performs
returns-clause-performs g c =
    let m = disks c.args.root.now c.args.repo.now c.args.opened.now in
    shows g.met.T.TreeDisk.laws g.met.P.TreeDisk.laws c.store_laws.ensures c.args.input.now m c.requires c.in_ok-change_text.field-0 c.in_ok-change.change c.in_ok-change.ensures.value c.in_ok-change_text.ensures.value

pub returns-in_err-change-clause-alone : goal.returns-in_err-change-clause-alone
returns-in_err-change-clause-alone g c =
    let m = disks c.args.root.now c.args.repo.now c.args.opened.now in
    err_is (PerformsAlone g.T.TreeDisk.disk g.P.TreeDisk.disk spec.show_change_set c.args.input.now m m) c.from_residual.result (failure_of_fault c.in_err-change.field-0.0) c.from_residual.ensures.1
    (shows_none_alone g.P.TreeDisk.disk g.met.T.TreeDisk.laws c.args.input.now m c.in_err-change.field-0.0 c.in_err-change.ensures.refused c.in_err-change.ensures.only)

pub returns-in_err-change_text-clause-alone : goal.returns-in_err-change_text-clause-alone
returns-in_err-change_text-clause-alone g c =
    let m = disks c.args.root.now c.args.repo.now c.args.opened.now in
    err_is (PerformsAlone g.T.TreeDisk.disk g.P.TreeDisk.disk spec.show_change_set c.args.input.now m m) c.from_residual-in_err-change_text.result failure.Memory c.from_residual-in_err-change_text.ensures.1
    (memory_out_alone g.P.TreeDisk.disk g.met.T.TreeDisk.laws c.args.input.now m)

pub returns-clause-alone : goal.returns-clause-alone
returns-clause-alone g c =
    let m = disks c.args.root.now c.args.repo.now c.args.opened.now in
    shows_alone g.P.TreeDisk.disk g.met.T.TreeDisk.laws c.args.input.now m c.in_ok-change_text.field-0 c.in_ok-change.change c.in_ok-change.ensures.value c.in_ok-change_text.ensures.value

pub returns-in_err-change-clause-lists : goal.returns-in_err-change-clause-lists
returns-in_err-change-clause-lists g c =
    let m = disks c.args.root.now c.args.repo.now c.args.opened.now in
    err_is (AnswersByLists g.T.TreeDisk.disk g.P.TreeDisk.disk spec.show_change_set c.args.input.now m m) c.from_residual.result (failure_of_fault c.in_err-change.field-0.0) c.from_residual.ensures.1
    (shows_none_listed c.args.input.now m c.in_err-change.field-0.0 c.in_err-change.ensures.refused c.in_err-change.ensures.only)

pub returns-in_err-change_text-clause-lists : goal.returns-in_err-change_text-clause-lists
returns-in_err-change_text-clause-lists g c =
    let m = disks c.args.root.now c.args.repo.now c.args.opened.now in
    err_is (AnswersByLists g.T.TreeDisk.disk g.P.TreeDisk.disk spec.show_change_set c.args.input.now m m) c.from_residual-in_err-change_text.result failure.Memory c.from_residual-in_err-change_text.ensures.1
    (memory_out_listed c.args.input.now m)

pub returns-clause-lists : goal.returns-clause-lists
returns-clause-lists g c =
    let m = disks c.args.root.now c.args.repo.now c.args.opened.now in
    shows_listed c.args.input.now m c.in_ok-change_text.field-0 c.in_ok-change.change c.in_ok-change.ensures.value c.in_ok-change_text.ensures.value
