use Rattle.std.proofs.Common.{Ok, Err, sym, ap, ◌∙◌}
use Rattle.cli_call.specs.Alone.{ActsOnRepository, AnswersByLists}
use Rattle.cli_call.proofs.Answered.{by_lists}
use Rattle.cli_call.specs.Command.{disks}
use Rattle.cli_call.specs.cny-laws.Failures.{failure_of_fault}
use Rattle.repo_commands.specs.Listing as spec
use Rattle.repo_commands.proofs.ListingEnds.{lists_performed}
use Rattle.cny_version.proofs.cny-base.Passing.{err_is}
use Rattle.repo_commands.proofs.listing.list_committed.Goals as goal

pub returns-in_err-list-clause-acts : goal.returns-in_err-list-clause-acts
returns-in_err-list-clause-acts g c = λ input.
    let m = disks c.args.root.now c.args.repo.now c.args.opened.now in
    err_is (ActsOnRepository g.T.TreeDisk.disk g.P.TreeDisk.disk (spec.list_committed c.args.name.now) input m m) c.from_residual.result (failure_of_fault c.in_err-list.field-0.0) c.from_residual.ensures.1
    (lists_performed c.stored_state.ensures.catalogue c.args.name.now input m c.requires g.met.P.TreeDisk.laws c.store_laws.ensures (Err c.in_err-list.field-0.0) c.in_err-list.ensures)

pub returns-clause-acts : goal.returns-clause-acts
returns-clause-acts g c = λ input.
    let m = disks c.args.root.now c.args.repo.now c.args.opened.now in
    lists_performed c.stored_state.ensures.catalogue c.args.name.now input m c.requires g.met.P.TreeDisk.laws c.store_laws.ensures (Ok c.in_ok-list.field-0) c.in_ok-list.ensures

pub returns-in_err-list-clause-lists : goal.returns-in_err-list-clause-lists
returns-in_err-list-clause-lists g c = λ input.
    let m = disks c.args.root.now c.args.repo.now c.args.opened.now in
    let name = c.args.name.now in
    err_is (AnswersByLists g.T.TreeDisk.disk g.P.TreeDisk.disk (spec.list_committed name) input m m) c.from_residual.result (failure_of_fault c.in_err-list.field-0.0) c.from_residual.ensures.1
    (by_lists (spec.list_committed name) input m (spec.listed name m.opened.catalogue.troves) (λ s has o is. sym (ap (spec.listed name) has.committed ∙ is)) (Err c.in_err-list.field-0.0) c.in_err-list.ensures)

pub returns-clause-lists : goal.returns-clause-lists
returns-clause-lists g c = λ input.
    let m = disks c.args.root.now c.args.repo.now c.args.opened.now in
    let name = c.args.name.now in
    by_lists (spec.list_committed name) input m (spec.listed name m.opened.catalogue.troves) (λ s has o is. sym (ap (spec.listed name) has.committed ∙ is)) (Ok c.in_ok-list.field-0) c.in_ok-list.ensures
