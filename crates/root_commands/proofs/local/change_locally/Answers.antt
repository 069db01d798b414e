use Rattle.std.proofs.Common.{Ok, Err, sym, ◌∙◌}
use Rattle.cli_call.specs.Alone.{AnswersByTree, PerformsAlone}
use Rattle.cli_call.specs.Command.{disks, Performs}
use Rattle.cli_call.specs.cny-laws.Failures.{failure_of_fault}
use Rattle.cli_call.proofs.AloneLaws.{fault_undamaged}
use Rattle.cli_call.proofs.ReadingEnds.{ready_on}
use Rattle.cli_call.proofs.ReadingRoot.{read_alone, read_performed}
use Rattle.root_commands.specs.LocalChanges as spec
use Rattle.root_commands.proofs.Answering.{seen_alone, seen_tree}
use Rattle.root_commands.proofs.LocalEnds.{contents_held, failed_ends, large_caused, large_ends, written_ends}
use Rattle.local_db.proofs.cny-base.Passing.{err_is}
use Rattle.root_commands.proofs.local.change_locally.Goals as goal

pub encode-requires : goal.encode-requires
encode-requires g c = contents_held c.local.result c.in_ok-set.set (sym c.on_root.ensures ∙ c.in_ok-set.was) c.local.ensures.contents

pub returns-in_err-set-clause-performs : goal.returns-in_err-set-clause-performs
returns-in_err-set-clause-performs g c = λ input.
    let disk = g.T.TreeDisk.disk in
    let root = c.args.root.now in
    let root' = c.local.new.root in
    let opened = c.args.opened.now in
    let name = c.args.name.now in
    let failed = failed_ends disk g.P.TreeDisk.disk c.distinct_databases.ensures.unique name input root root' c.args.repo.now opened c.requires c.local.result c.in_err-set.field-0.0 (sym c.on_root.ensures ∙ c.in_err-set.was) c.local.ensures.finds.ends in
    err_is (Performs disk g.P.TreeDisk.disk (spec.change_locally name) input (disks root c.args.repo.now opened) (disks root' c.args.repo.now opened)) c.from_residual.result c.in_err-set.field-0.0 c.from_residual.ensures.1
    (read_performed g.P.TreeDisk.disk g.met.T.TreeDisk.laws root root' c.args.repo.now opened (spec.change_locally name) input c.local.ensures.finds.same (Err c.in_err-set.field-0.0) (seen_alone c.distinct_databases.ensures.unique (disks root c.args.repo.now opened) c.requires (spec.change_locally name) input (Err c.in_err-set.field-0.0) failed.0) g.met.P.TreeDisk.laws c.store_laws.ensures c.requires c.local.ensures.finds.later failed.1)

pub returns-in_err-encode-clause-performs : goal.returns-in_err-encode-clause-performs
returns-in_err-encode-clause-performs g c = λ input.
    let disk = g.T.TreeDisk.disk in
    let root = c.args.root.now in
    let root' = c.local.new.root in
    let opened = c.args.opened.now in
    let name = c.args.name.now in
    err_is (Performs disk g.P.TreeDisk.disk (spec.change_locally name) input (disks root c.args.repo.now opened) (disks root' c.args.repo.now opened)) c.from_residual-in_err-encode.result (failure_of_fault c.in_err-encode.field-0.0) c.from_residual-in_err-encode.ensures.1
    (read_performed g.P.TreeDisk.disk g.met.T.TreeDisk.laws root root' c.args.repo.now opened (spec.change_locally name) input c.local.ensures.finds.same (Err (failure_of_fault c.in_err-encode.field-0.0)) (seen_alone c.distinct_databases.ensures.unique (disks root c.args.repo.now opened) c.requires (spec.change_locally name) input (Err (failure_of_fault c.in_err-encode.field-0.0)) (large_ends disk g.P.TreeDisk.disk c.distinct_databases.ensures.unique name input root root' c.args.repo.now opened c.requires c.local.result c.in_ok-set.set (sym c.on_root.ensures ∙ c.in_ok-set.was) c.local.ensures.finds.ends c.in_err-encode.field-0.0 c.in_err-encode.ensures.refused)) g.met.P.TreeDisk.laws c.store_laws.ensures c.requires c.local.ensures.finds.later (large_caused disk g.P.TreeDisk.disk c.distinct_databases.ensures.unique name input root root' c.args.repo.now opened c.requires c.local.result c.in_ok-set.set (sym c.on_root.ensures ∙ c.in_ok-set.was) c.local.ensures.finds.ends c.in_err-encode.field-0.0))

pub returns-clause-performs : goal.returns-clause-performs
returns-clause-performs g c = λ input.
    let disk = g.T.TreeDisk.disk in
    let root = c.args.root.now in
    let root' = c.local.new.root in
    let opened = c.args.opened.now in
    let name = c.args.name.now in
    read_performed g.P.TreeDisk.disk g.met.T.TreeDisk.laws root root' c.args.repo.now opened (spec.change_locally name) input c.local.ensures.finds.same (Ok c.in_ok-encode.field-0) (seen_alone c.distinct_databases.ensures.unique (disks root c.args.repo.now opened) c.requires (spec.change_locally name) input (Ok c.in_ok-encode.field-0) (written_ends disk g.P.TreeDisk.disk c.distinct_databases.ensures.unique name input root root' c.args.repo.now opened c.requires c.local.result c.in_ok-set.set (sym c.on_root.ensures ∙ c.in_ok-set.was) c.local.ensures.finds.ends c.in_ok-encode.field-0 c.in_ok-encode.ensures.value c.in_ok-encode.ensures.small)) g.met.P.TreeDisk.laws c.store_laws.ensures c.requires c.local.ensures.finds.later tt

pub returns-in_err-set-clause-alone : goal.returns-in_err-set-clause-alone
returns-in_err-set-clause-alone g c = λ input.
    let disk = g.T.TreeDisk.disk in
    let root = c.args.root.now in
    let root' = c.local.new.root in
    let opened = c.args.opened.now in
    let name = c.args.name.now in
    let failed = failed_ends disk g.P.TreeDisk.disk c.distinct_databases.ensures.unique name input root root' c.args.repo.now opened c.requires c.local.result c.in_err-set.field-0.0 (sym c.on_root.ensures ∙ c.in_err-set.was) c.local.ensures.finds.ends in
    err_is (PerformsAlone disk g.P.TreeDisk.disk (spec.change_locally name) input (disks root c.args.repo.now opened) (disks root' c.args.repo.now opened)) c.from_residual.result c.in_err-set.field-0.0 c.from_residual.ensures.1
    (read_alone g.P.TreeDisk.disk g.met.T.TreeDisk.laws root root' c.args.repo.now opened (spec.change_locally name) input c.local.ensures.finds.same (Err c.in_err-set.field-0.0) (seen_alone c.distinct_databases.ensures.unique (disks root c.args.repo.now opened) c.requires (spec.change_locally name) input (Err c.in_err-set.field-0.0) failed.0) failed.2)

pub returns-in_err-encode-clause-alone : goal.returns-in_err-encode-clause-alone
returns-in_err-encode-clause-alone g c = λ input.
    let disk = g.T.TreeDisk.disk in
    let root = c.args.root.now in
    let root' = c.local.new.root in
    let opened = c.args.opened.now in
    let name = c.args.name.now in
    err_is (PerformsAlone disk g.P.TreeDisk.disk (spec.change_locally name) input (disks root c.args.repo.now opened) (disks root' c.args.repo.now opened)) c.from_residual-in_err-encode.result (failure_of_fault c.in_err-encode.field-0.0) c.from_residual-in_err-encode.ensures.1
    (read_alone g.P.TreeDisk.disk g.met.T.TreeDisk.laws root root' c.args.repo.now opened (spec.change_locally name) input c.local.ensures.finds.same (Err (failure_of_fault c.in_err-encode.field-0.0)) (seen_alone c.distinct_databases.ensures.unique (disks root c.args.repo.now opened) c.requires (spec.change_locally name) input (Err (failure_of_fault c.in_err-encode.field-0.0)) (large_ends disk g.P.TreeDisk.disk c.distinct_databases.ensures.unique name input root root' c.args.repo.now opened c.requires c.local.result c.in_ok-set.set (sym c.on_root.ensures ∙ c.in_ok-set.was) c.local.ensures.finds.ends c.in_err-encode.field-0.0 c.in_err-encode.ensures.refused)) (λ path named. absurd (fault_undamaged c.in_err-encode.field-0.0 path named)))

pub returns-clause-alone : goal.returns-clause-alone
returns-clause-alone g c = λ input.
    let disk = g.T.TreeDisk.disk in
    let root = c.args.root.now in
    let root' = c.local.new.root in
    let opened = c.args.opened.now in
    let name = c.args.name.now in
    read_alone g.P.TreeDisk.disk g.met.T.TreeDisk.laws root root' c.args.repo.now opened (spec.change_locally name) input c.local.ensures.finds.same (Ok c.in_ok-encode.field-0) (seen_alone c.distinct_databases.ensures.unique (disks root c.args.repo.now opened) c.requires (spec.change_locally name) input (Ok c.in_ok-encode.field-0) (written_ends disk g.P.TreeDisk.disk c.distinct_databases.ensures.unique name input root root' c.args.repo.now opened c.requires c.local.result c.in_ok-set.set (sym c.on_root.ensures ∙ c.in_ok-set.was) c.local.ensures.finds.ends c.in_ok-encode.field-0 c.in_ok-encode.ensures.value c.in_ok-encode.ensures.small)) (λ path named. absurd (cc named))

pub returns-in_err-set-clause-tree : goal.returns-in_err-set-clause-tree
returns-in_err-set-clause-tree g c = λ input.
    let disk = g.T.TreeDisk.disk in
    let root = c.args.root.now in
    let root' = c.local.new.root in
    let opened = c.args.opened.now in
    let name = c.args.name.now in
    let m = disks root c.args.repo.now opened in
    let failed = failed_ends disk g.P.TreeDisk.disk c.distinct_databases.ensures.unique name input root root' c.args.repo.now opened c.requires c.local.result c.in_err-set.field-0.0 (sym c.on_root.ensures ∙ c.in_err-set.was) c.local.ensures.finds.ends in
    err_is (AnswersByTree disk g.P.TreeDisk.disk (spec.change_locally name) input m (disks root' c.args.repo.now opened)) c.from_residual.result c.in_err-set.field-0.0 c.from_residual.ensures.1
    (seen_tree c.distinct_databases.ensures.unique m c.requires (spec.change_locally name) input root' c.local.ensures.finds.same (Err c.in_err-set.field-0.0) failed.0)

pub returns-in_err-encode-clause-tree : goal.returns-in_err-encode-clause-tree
returns-in_err-encode-clause-tree g c = λ input.
    let disk = g.T.TreeDisk.disk in
    let root = c.args.root.now in
    let root' = c.local.new.root in
    let opened = c.args.opened.now in
    let name = c.args.name.now in
    let m = disks root c.args.repo.now opened in
    err_is (AnswersByTree disk g.P.TreeDisk.disk (spec.change_locally name) input m (disks root' c.args.repo.now opened)) c.from_residual-in_err-encode.result (failure_of_fault c.in_err-encode.field-0.0) c.from_residual-in_err-encode.ensures.1
    (seen_tree c.distinct_databases.ensures.unique m c.requires (spec.change_locally name) input root' c.local.ensures.finds.same (Err (failure_of_fault c.in_err-encode.field-0.0)) (large_ends disk g.P.TreeDisk.disk c.distinct_databases.ensures.unique name input root root' c.args.repo.now opened c.requires c.local.result c.in_ok-set.set (sym c.on_root.ensures ∙ c.in_ok-set.was) c.local.ensures.finds.ends c.in_err-encode.field-0.0 c.in_err-encode.ensures.refused))

pub returns-clause-tree : goal.returns-clause-tree
returns-clause-tree g c = λ input.
    let disk = g.T.TreeDisk.disk in
    let root = c.args.root.now in
    let root' = c.local.new.root in
    let opened = c.args.opened.now in
    let name = c.args.name.now in
    let m = disks root c.args.repo.now opened in
    seen_tree c.distinct_databases.ensures.unique m c.requires (spec.change_locally name) input root' c.local.ensures.finds.same (Ok c.in_ok-encode.field-0) (written_ends disk g.P.TreeDisk.disk c.distinct_databases.ensures.unique name input root root' c.args.repo.now opened c.requires c.local.result c.in_ok-set.set (sym c.on_root.ensures ∙ c.in_ok-set.was) c.local.ensures.finds.ends c.in_ok-encode.field-0 c.in_ok-encode.ensures.value c.in_ok-encode.ensures.small)

pub returns-clause-again : goal.returns-clause-again
returns-clause-again g c = ready_on c.args.root.now c.local.new.root c.args.repo.now c.args.opened.now c.local.ensures.finds.same c.requires
