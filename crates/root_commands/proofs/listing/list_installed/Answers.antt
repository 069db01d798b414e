use Rattle.std.proofs.Common.{Ok, Err, sym, ap, ◌∙◌}
use Rattle.cli_call.specs.Alone.{AnswersByLists, PerformsAlone}
use Rattle.cli_call.proofs.Answered.{by_lists}
use Rattle.cli_call.specs.Command.{disks, Performs}
use Rattle.cli_call.specs.cny-laws.Failures.{failure_of_fault}
use Rattle.root_commands.specs.Listing as spec
use Rattle.root_commands.proofs.Answering.{answered, answered_alone}
use Rattle.local_db.proofs.cny-base.Passing.{err_is}
use Rattle.root_commands.proofs.listing.list_installed.Goals as goal

pub returns-in_err-list-clause-performs : goal.returns-in_err-list-clause-performs
returns-in_err-list-clause-performs g c = λ input.
    let m = disks c.args.root.now c.args.repo.now c.args.opened.now in
    let name = c.args.name.now in
    err_is (Performs g.T.TreeDisk.disk g.P.TreeDisk.disk (spec.list_installed name) input m m) c.from_residual.result (failure_of_fault c.in_err-list.field-0.0) c.from_residual.ensures.1
    (answered c.distinct_databases.ensures.unique m c.requires (spec.list_installed name) input (spec.listed name) (λ s o is. is) g.met.T.TreeDisk.laws g.met.P.TreeDisk.laws c.store_laws.ensures (Err c.in_err-list.field-0.0) c.in_err-list.ensures)

pub returns-clause-performs : goal.returns-clause-performs
returns-clause-performs g c = λ input.
    let m = disks c.args.root.now c.args.repo.now c.args.opened.now in
    let name = c.args.name.now in
    answered c.distinct_databases.ensures.unique m c.requires (spec.list_installed name) input (spec.listed name) (λ s o is. is) g.met.T.TreeDisk.laws g.met.P.TreeDisk.laws c.store_laws.ensures (Ok c.in_ok-list.field-0) c.in_ok-list.ensures

pub returns-in_err-list-clause-alone : goal.returns-in_err-list-clause-alone
returns-in_err-list-clause-alone g c = λ input.
    let m = disks c.args.root.now c.args.repo.now c.args.opened.now in
    let name = c.args.name.now in
    err_is (PerformsAlone g.T.TreeDisk.disk g.P.TreeDisk.disk (spec.list_installed name) input m m) c.from_residual.result (failure_of_fault c.in_err-list.field-0.0) c.from_residual.ensures.1
    (answered_alone c.distinct_databases.ensures.unique m c.requires (spec.list_installed name) input (spec.listed name) (λ s o is. is) g.met.T.TreeDisk.laws (Err c.in_err-list.field-0.0) c.in_err-list.ensures)

pub returns-clause-alone : goal.returns-clause-alone
returns-clause-alone g c = λ input.
    let m = disks c.args.root.now c.args.repo.now c.args.opened.now in
    let name = c.args.name.now in
    answered_alone c.distinct_databases.ensures.unique m c.requires (spec.list_installed name) input (spec.listed name) (λ s o is. is) g.met.T.TreeDisk.laws (Ok c.in_ok-list.field-0) c.in_ok-list.ensures

pub returns-in_err-list-clause-lists : goal.returns-in_err-list-clause-lists
returns-in_err-list-clause-lists g c = λ input.
    let m = disks c.args.root.now c.args.repo.now c.args.opened.now in
    let name = c.args.name.now in
    err_is (AnswersByLists g.T.TreeDisk.disk g.P.TreeDisk.disk (spec.list_installed name) input m m) c.from_residual.result (failure_of_fault c.in_err-list.field-0.0) c.from_residual.ensures.1
    (by_lists (spec.list_installed name) input m (spec.listed name m.opened.db.installed) (λ s has o is. sym (ap (spec.listed name) has.installed ∙ is)) (Err c.in_err-list.field-0.0) c.in_err-list.ensures)

pub returns-clause-lists : goal.returns-clause-lists
returns-clause-lists g c = λ input.
    let m = disks c.args.root.now c.args.repo.now c.args.opened.now in
    let name = c.args.name.now in
    by_lists (spec.list_installed name) input m (spec.listed name m.opened.db.installed) (λ s has o is. sym (ap (spec.listed name) has.installed ∙ is)) (Ok c.in_ok-list.field-0) c.in_ok-list.ensures
