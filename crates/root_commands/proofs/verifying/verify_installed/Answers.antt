use Rattle.std.proofs.Common.{◌≡◌, Result, Ok, Err, IfOk, OnOk, sym, ◌∙◌, subst}
use Rattle.cli_call.specs.cny-base.declared.stop.Stop.{Stop}
use Rattle.cli_call.specs.tree-scan.declared.verification.Verified.{Verified}
use Rattle.root_edits.specs.Verify.{asked, verified}
use Rattle.update_job.specs.Lists.{AreInstalled}
use Rattle.cli_call.specs.Alone.{AnswersByTree, PerformsAlone}
use Rattle.cli_call.specs.Command.{disks, Performs}
use Rattle.cli_call.specs.cny-laws.declared.failure.Failure.TheVariants as failure
use Rattle.root_commands.specs.Verifying as spec
use Rattle.cli_call.proofs.ReadingEnds.{ready_on}
use Rattle.cli_call.proofs.ReadingRoot.{read_alone, read_performed}
use Rattle.cli_call.proofs.RootResults.{root_ok}
use Rattle.root_commands.proofs.Answering.{seen_alone, seen_tree}
use Rattle.root_commands.proofs.VerifyEnds.{failed_ends, found_ends}
use Rattle.local_db.proofs.cny-base.Passing.{err_is}
use Rattle.root_commands.proofs.verifying.verify_installed.Goals as goal

pub returns-in_err-found-clause-performs : goal.returns-in_err-found-clause-performs
returns-in_err-found-clause-performs g c = λ input.
    let names = c.args.names.now in
    let failed = failed_ends g.T.TreeDisk.disk g.P.TreeDisk.disk c.distinct_databases.ensures.unique names input c.args.root.now c.verify.new.root c.args.repo.now c.args.opened.now c.requires _ _
    c.verify.result c.in_err-found.field-0.0 (sym c.on_root.ensures ∙ c.in_err-found.was) c.verify.ensures.verified in
    err_is (Performs g.T.TreeDisk.disk g.P.TreeDisk.disk (spec.verify_installed names) input (disks c.args.root.now c.args.repo.now c.args.opened.now) (disks c.verify.new.root c.args.repo.now c.args.opened.now)) c.from_residual.result c.in_err-found.field-0.0 c.from_residual.ensures.1
    (read_performed g.P.TreeDisk.disk g.met.T.TreeDisk.laws c.args.root.now c.verify.new.root c.args.repo.now c.args.opened.now (spec.verify_installed names) input c.verify.ensures.verified.same (Err c.in_err-found.field-0.0) (seen_alone c.distinct_databases.ensures.unique (disks c.args.root.now c.args.repo.now c.args.opened.now) c.requires (spec.verify_installed names) input (Err c.in_err-found.field-0.0) failed.0)
    g.met.P.TreeDisk.laws c.store_laws.ensures c.requires c.verify.ensures.verified.later failed.1)

pub returns-in_err-found-clause-alone : goal.returns-in_err-found-clause-alone
returns-in_err-found-clause-alone g c = λ input.
    let names = c.args.names.now in
    let failed = failed_ends g.T.TreeDisk.disk g.P.TreeDisk.disk c.distinct_databases.ensures.unique names input c.args.root.now c.verify.new.root c.args.repo.now c.args.opened.now c.requires _ _
    c.verify.result c.in_err-found.field-0.0 (sym c.on_root.ensures ∙ c.in_err-found.was) c.verify.ensures.verified in
    err_is (PerformsAlone g.T.TreeDisk.disk g.P.TreeDisk.disk (spec.verify_installed names) input (disks c.args.root.now c.args.repo.now c.args.opened.now) (disks c.verify.new.root c.args.repo.now c.args.opened.now)) c.from_residual.result c.in_err-found.field-0.0 c.from_residual.ensures.1
    (read_alone g.P.TreeDisk.disk g.met.T.TreeDisk.laws c.args.root.now c.verify.new.root c.args.repo.now c.args.opened.now (spec.verify_installed names) input c.verify.ensures.verified.same (Err c.in_err-found.field-0.0) (seen_alone c.distinct_databases.ensures.unique (disks c.args.root.now c.args.repo.now c.args.opened.now) c.requires (spec.verify_installed names) input (Err c.in_err-found.field-0.0) failed.0) failed.2)

pub returns-in_err-verified_text-clause-performs : goal.returns-in_err-verified_text-clause-performs
returns-in_err-verified_text-clause-performs g c = λ input.
    let names = c.args.names.now in
    err_is (Performs g.T.TreeDisk.disk g.P.TreeDisk.disk (spec.verify_installed names) input (disks c.args.root.now c.args.repo.now c.args.opened.now) (disks c.verify.new.root c.args.repo.now c.args.opened.now)) c.from_residual-in_err-verified_text.result failure.Memory c.from_residual-in_err-verified_text.ensures.1
    (read_performed g.P.TreeDisk.disk g.met.T.TreeDisk.laws c.args.root.now c.verify.new.root c.args.repo.now c.args.opened.now (spec.verify_installed names) input c.verify.ensures.verified.same (Err failure.Memory) tt
    g.met.P.TreeDisk.laws c.store_laws.ensures c.requires c.verify.ensures.verified.later tt)

pub returns-in_err-verified_text-clause-alone : goal.returns-in_err-verified_text-clause-alone
returns-in_err-verified_text-clause-alone g c = λ input.
    let names = c.args.names.now in
    err_is (PerformsAlone g.T.TreeDisk.disk g.P.TreeDisk.disk (spec.verify_installed names) input (disks c.args.root.now c.args.repo.now c.args.opened.now) (disks c.verify.new.root c.args.repo.now c.args.opened.now)) c.from_residual-in_err-verified_text.result failure.Memory c.from_residual-in_err-verified_text.ensures.1
    (read_alone g.P.TreeDisk.disk g.met.T.TreeDisk.laws c.args.root.now c.verify.new.root c.args.repo.now c.args.opened.now (spec.verify_installed names) input c.verify.ensures.verified.same (Err failure.Memory) tt (λ path named. absurd (cc named)))

pub returns-clause-performs : goal.returns-clause-performs
returns-clause-performs g c = λ input.
    let names = c.args.names.now in
    let is = root_ok c.verify.result c.in_ok-found.found (sym c.on_root.ensures ∙ c.in_ok-found.was) in
    let ends = found_ends g.T.TreeDisk.disk g.P.TreeDisk.disk c.distinct_databases.ensures.unique names input c.args.root.now c.verify.new.root c.args.repo.now c.args.opened.now c.requires _ _ c.in_ok-found.found
    (λ map told none. subst (λ (r : Result Verified Stop). IfOk r (λ found. found ≡ verified map (g.T.TreeDisk.disk.reads c.args.root.now) (asked names c.args.opened.now.db.installed))) is (c.verify.ensures.mapped map told none))
    (subst (λ (r : Result Verified Stop). OnOk r (AreInstalled c.args.opened.now.db.installed names)) is c.verify.ensures.installed)
    c.in_ok-verified_text.field-0 c.in_ok-verified_text.ensures.value in
    read_performed g.P.TreeDisk.disk g.met.T.TreeDisk.laws c.args.root.now c.verify.new.root c.args.repo.now c.args.opened.now (spec.verify_installed names) input c.verify.ensures.verified.same (Ok c.in_ok-verified_text.field-0) (seen_alone c.distinct_databases.ensures.unique (disks c.args.root.now c.args.repo.now c.args.opened.now) c.requires (spec.verify_installed names) input (Ok c.in_ok-verified_text.field-0) ends)
    g.met.P.TreeDisk.laws c.store_laws.ensures c.requires c.verify.ensures.verified.later tt

pub returns-clause-alone : goal.returns-clause-alone
returns-clause-alone g c = λ input.
    let names = c.args.names.now in
    let is = root_ok c.verify.result c.in_ok-found.found (sym c.on_root.ensures ∙ c.in_ok-found.was) in
    let ends = found_ends g.T.TreeDisk.disk g.P.TreeDisk.disk c.distinct_databases.ensures.unique names input c.args.root.now c.verify.new.root c.args.repo.now c.args.opened.now c.requires _ _ c.in_ok-found.found
    (λ map told none. subst (λ (r : Result Verified Stop). IfOk r (λ found. found ≡ verified map (g.T.TreeDisk.disk.reads c.args.root.now) (asked names c.args.opened.now.db.installed))) is (c.verify.ensures.mapped map told none))
    (subst (λ (r : Result Verified Stop). OnOk r (AreInstalled c.args.opened.now.db.installed names)) is c.verify.ensures.installed)
    c.in_ok-verified_text.field-0 c.in_ok-verified_text.ensures.value in
    read_alone g.P.TreeDisk.disk g.met.T.TreeDisk.laws c.args.root.now c.verify.new.root c.args.repo.now c.args.opened.now (spec.verify_installed names) input c.verify.ensures.verified.same (Ok c.in_ok-verified_text.field-0) (seen_alone c.distinct_databases.ensures.unique (disks c.args.root.now c.args.repo.now c.args.opened.now) c.requires (spec.verify_installed names) input (Ok c.in_ok-verified_text.field-0) ends) (λ path named. absurd (cc named))

pub returns-in_err-found-clause-tree : goal.returns-in_err-found-clause-tree
returns-in_err-found-clause-tree g c = λ input.
    let names = c.args.names.now in
    let m = disks c.args.root.now c.args.repo.now c.args.opened.now in
    let failed = failed_ends g.T.TreeDisk.disk g.P.TreeDisk.disk c.distinct_databases.ensures.unique names input c.args.root.now c.verify.new.root c.args.repo.now c.args.opened.now c.requires _ _
    c.verify.result c.in_err-found.field-0.0 (sym c.on_root.ensures ∙ c.in_err-found.was) c.verify.ensures.verified in
    err_is (AnswersByTree g.T.TreeDisk.disk g.P.TreeDisk.disk (spec.verify_installed names) input m (disks c.verify.new.root c.args.repo.now c.args.opened.now)) c.from_residual.result c.in_err-found.field-0.0 c.from_residual.ensures.1
    (seen_tree c.distinct_databases.ensures.unique m c.requires (spec.verify_installed names) input c.verify.new.root c.verify.ensures.verified.same (Err c.in_err-found.field-0.0) failed.0)

pub returns-in_err-verified_text-clause-tree : goal.returns-in_err-verified_text-clause-tree
returns-in_err-verified_text-clause-tree g c = λ input.
    let names = c.args.names.now in
    let m = disks c.args.root.now c.args.repo.now c.args.opened.now in
    err_is (AnswersByTree g.T.TreeDisk.disk g.P.TreeDisk.disk (spec.verify_installed names) input m (disks c.verify.new.root c.args.repo.now c.args.opened.now)) c.from_residual-in_err-verified_text.result failure.Memory c.from_residual-in_err-verified_text.ensures.1
    (seen_tree c.distinct_databases.ensures.unique m c.requires (spec.verify_installed names) input c.verify.new.root c.verify.ensures.verified.same (Err failure.Memory) tt)

pub returns-clause-tree : goal.returns-clause-tree
returns-clause-tree g c = λ input.
    let names = c.args.names.now in
    let m = disks c.args.root.now c.args.repo.now c.args.opened.now in
    let is = root_ok c.verify.result c.in_ok-found.found (sym c.on_root.ensures ∙ c.in_ok-found.was) in
    let ends = found_ends g.T.TreeDisk.disk g.P.TreeDisk.disk c.distinct_databases.ensures.unique names input c.args.root.now c.verify.new.root c.args.repo.now c.args.opened.now c.requires _ _ c.in_ok-found.found
    (λ map told none. subst (λ (r : Result Verified Stop). IfOk r (λ found. found ≡ verified map (g.T.TreeDisk.disk.reads c.args.root.now) (asked names c.args.opened.now.db.installed))) is (c.verify.ensures.mapped map told none))
    (subst (λ (r : Result Verified Stop). OnOk r (AreInstalled c.args.opened.now.db.installed names)) is c.verify.ensures.installed)
    c.in_ok-verified_text.field-0 c.in_ok-verified_text.ensures.value in
    seen_tree c.distinct_databases.ensures.unique m c.requires (spec.verify_installed names) input c.verify.new.root c.verify.ensures.verified.same (Ok c.in_ok-verified_text.field-0) ends

pub returns-clause-again : goal.returns-clause-again
returns-clause-again g c = ready_on c.args.root.now c.verify.new.root c.args.repo.now c.args.opened.now c.verify.ensures.verified.same c.requires
