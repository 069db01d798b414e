use Rattle.std.proofs.Common.{ap, ◌∙◌, refl, sym, Err}
use Rattle.cli_call.specs.cny-laws.declared.failure.Failure.TheVariants as failure
use Rattle.cli_call.specs.Alone.{ActsOnRepository, AnswersByContents, AnswersByOpened}
use Rattle.cli_call.proofs.OpenedEnds.{opened_contents}
use Rattle.cli_call.proofs.Again.{ready_joined}
use Rattle.cli_call.specs.Command.{disks}
use Rattle.cny_report.specs.Troves.{committed_text}
use Rattle.repo_commands.specs.Commit.{commit_of}
use Rattle.repo_commands.proofs.CommitEnds.{CommitLaws, Committing, commit_failed, commit_joined, commit_made, commit_rules, commit_told, commit_untold}
use Rattle.repo_commands.proofs.CommitOpened.{failed_opened, failed_whole, files_stay, told_memory, told_opened, told_whole}
use Rattle.cny_version.proofs.cny-base.Passing.{err_is}
use Rattle.repo_commands.proofs.committing.commit_set.Goals as goal

pub returns-in_err-ids-clause-performs : goal.returns-in_err-ids-clause-performs
returns-in_err-ids-clause-performs g c input =
    let old = disks c.args.root.now c.args.repo.now c.args.opened.now in
    let new = disks c.args.root.now c.commit.new.disk (record { db = c.args.opened.now.db; catalogue = c.commit.new.catalogue }) in
    let laws : CommitLaws = record { catalogue = c.stored_state.ensures.catalogue; contents = c.stored_state.ensures.contents; same = c.same_contents.ensures; one = c.commit_step.ensures.one; store = c.store_laws.ensures } in
    let done : Committing g.P.TreeDisk.disk c.args.set.now c.args.opened.now.catalogue c.commit.new.catalogue c.args.repo.now c.commit.new.disk c.commit.result = record { ends = c.commit.ensures.ends; any_moment = c.commit.ensures.any_moment; within = c.commit.ensures.confined; later = c.commit.ensures.later; causes = c.commit.ensures.causes } in
    err_is (ActsOnRepository g.T.TreeDisk.disk g.P.TreeDisk.disk (commit_of c.args.set.now) input old new) c.from_residual.result c.in_err-ids.field-0.0 c.from_residual.ensures.1
    (commit_failed g.met.P.TreeDisk.laws laws c.args.set.now input old new c.requires.ready refl c.commit.new.catalogue c.commit.result done c.in_err-ids.field-0.0 (sym c.on_repository.ensures ∙ c.in_err-ids.was))

pub returns-in_err-committed_text-clause-performs : goal.returns-in_err-committed_text-clause-performs
returns-in_err-committed_text-clause-performs g c input =
    let old = disks c.args.root.now c.args.repo.now c.args.opened.now in
    let new = disks c.args.root.now c.commit.new.disk (record { db = c.args.opened.now.db; catalogue = c.commit.new.catalogue }) in
    let laws : CommitLaws = record { catalogue = c.stored_state.ensures.catalogue; contents = c.stored_state.ensures.contents; same = c.same_contents.ensures; one = c.commit_step.ensures.one; store = c.store_laws.ensures } in
    let done : Committing g.P.TreeDisk.disk c.args.set.now c.args.opened.now.catalogue c.commit.new.catalogue c.args.repo.now c.commit.new.disk c.commit.result = record { ends = c.commit.ensures.ends; any_moment = c.commit.ensures.any_moment; within = c.commit.ensures.confined; later = c.commit.ensures.later; causes = c.commit.ensures.causes } in
    let made = commit_made g.met.P.TreeDisk.laws laws c.args.set.now input old new c.requires.ready refl c.commit.new.catalogue c.commit.result done c.in_ok-ids.ids (sym c.on_repository.ensures ∙ c.in_ok-ids.was) in
    err_is (ActsOnRepository g.T.TreeDisk.disk g.P.TreeDisk.disk (commit_of c.args.set.now) input old new) c.from_residual-in_err-committed_text.result failure.Memory c.from_residual-in_err-committed_text.ensures.1
    (commit_untold g.met.P.TreeDisk.laws laws c.args.set.now input old new c.requires.ready refl c.commit.new.catalogue c.in_ok-ids.ids made)

pub returns-clause-performs : goal.returns-clause-performs
returns-clause-performs g c input =
    let old = disks c.args.root.now c.args.repo.now c.args.opened.now in
    let new = disks c.args.root.now c.commit.new.disk (record { db = c.args.opened.now.db; catalogue = c.commit.new.catalogue }) in
    let laws : CommitLaws = record { catalogue = c.stored_state.ensures.catalogue; contents = c.stored_state.ensures.contents; same = c.same_contents.ensures; one = c.commit_step.ensures.one; store = c.store_laws.ensures } in
    let done : Committing g.P.TreeDisk.disk c.args.set.now c.args.opened.now.catalogue c.commit.new.catalogue c.args.repo.now c.commit.new.disk c.commit.result = record { ends = c.commit.ensures.ends; any_moment = c.commit.ensures.any_moment; within = c.commit.ensures.confined; later = c.commit.ensures.later; causes = c.commit.ensures.causes } in
    let made = commit_made g.met.P.TreeDisk.laws laws c.args.set.now input old new c.requires.ready refl c.commit.new.catalogue c.commit.result done c.in_ok-ids.ids (sym c.on_repository.ensures ∙ c.in_ok-ids.was) in
    commit_told g.met.P.TreeDisk.laws laws c.args.set.now input old new c.requires.ready refl c.commit.new.catalogue c.in_ok-ids.ids c.in_ok-committed_text.field-0 made (c.in_ok-committed_text.ensures.value ∙ ap committed_text c.get.ensures)

pub returns-clause-again : goal.returns-clause-again
returns-clause-again g c =
    let was = sym c.on_repository.ensures ∙ c.in_ok-ids.was in
    ready_joined c.args.root.now c.args.repo.now c.commit.new.disk c.args.opened.now c.commit.new.catalogue
    (λ told. commit_joined c.args.set.now c.args.opened.now.catalogue c.commit.new.catalogue c.args.repo.now c.commit.new.disk c.commit.result c.in_ok-ids.ids was (c.commit.ensures.ends told))
    (commit_rules c.commit.new.catalogue c.commit.result c.in_ok-ids.ids was (c.commit.ensures.rules c.requires.ready.rules)) c.requires.ready

pub returns-in_err-ids-clause-opened : goal.returns-in_err-ids-clause-opened
returns-in_err-ids-clause-opened g c told none input =
    let old = disks c.args.root.now c.args.repo.now c.args.opened.now in
    let new = disks c.args.root.now c.commit.new.disk (record { db = c.args.opened.now.db; catalogue = c.commit.new.catalogue }) in
    err_is (AnswersByOpened g.T.TreeDisk.disk g.P.TreeDisk.disk (commit_of c.args.set.now) input old new) c.from_residual.result c.in_err-ids.field-0.0 c.from_residual.ensures.1
    (failed_opened g.met.T.TreeDisk.laws c.args.set.now input old new c.requires.ready refl c.commit.new.catalogue none c.commit.result (c.commit.ensures.ends told) c.in_err-ids.field-0.0 (sym c.on_repository.ensures ∙ c.in_err-ids.was))

pub returns-in_err-committed_text-clause-opened : goal.returns-in_err-committed_text-clause-opened
returns-in_err-committed_text-clause-opened g c told none input =
    let old = disks c.args.root.now c.args.repo.now c.args.opened.now in
    let new = disks c.args.root.now c.commit.new.disk (record { db = c.args.opened.now.db; catalogue = c.commit.new.catalogue }) in
    err_is (AnswersByOpened g.T.TreeDisk.disk g.P.TreeDisk.disk (commit_of c.args.set.now) input old new) c.from_residual-in_err-committed_text.result failure.Memory c.from_residual-in_err-committed_text.ensures.1
    (told_memory g.met.T.TreeDisk.laws c.args.set.now input old new c.requires.ready refl c.commit.new.catalogue)

pub returns-clause-opened : goal.returns-clause-opened
returns-clause-opened g c told none input =
    let old = disks c.args.root.now c.args.repo.now c.args.opened.now in
    let new = disks c.args.root.now c.commit.new.disk (record { db = c.args.opened.now.db; catalogue = c.commit.new.catalogue }) in
    told_opened g.met.T.TreeDisk.laws c.args.set.now input old new c.requires.ready refl c.commit.new.catalogue none c.commit.result (c.commit.ensures.ends told) c.in_ok-ids.ids (sym c.on_repository.ensures ∙ c.in_ok-ids.was)
    c.in_ok-committed_text.field-0 (c.in_ok-committed_text.ensures.value ∙ ap committed_text c.get.ensures)

-- ---- by the catalogue and the contents that stand whole

pub returns-in_err-ids-clause-whole : goal.returns-in_err-ids-clause-whole
returns-in_err-ids-clause-whole g c input =
    let old = disks c.args.root.now c.args.repo.now c.args.opened.now in
    let new = disks c.args.root.now c.commit.new.disk (record { db = c.args.opened.now.db; catalogue = c.commit.new.catalogue }) in
    err_is (AnswersByContents g.T.TreeDisk.disk g.P.TreeDisk.disk (commit_of c.args.set.now) input old new) c.from_residual.result c.in_err-ids.field-0.0 c.from_residual.ensures.1
    (failed_whole g.met.T.TreeDisk.laws c.args.set.now input old new c.requires.ready refl c.commit.new.catalogue c.commit.result c.commit.ensures.ends c.commit.ensures.first c.in_err-ids.field-0.0 (sym c.on_repository.ensures ∙ c.in_err-ids.was))

pub returns-in_err-committed_text-clause-whole : goal.returns-in_err-committed_text-clause-whole
returns-in_err-committed_text-clause-whole g c input =
    let old = disks c.args.root.now c.args.repo.now c.args.opened.now in
    let new = disks c.args.root.now c.commit.new.disk (record { db = c.args.opened.now.db; catalogue = c.commit.new.catalogue }) in
    err_is (AnswersByContents g.T.TreeDisk.disk g.P.TreeDisk.disk (commit_of c.args.set.now) input old new) c.from_residual-in_err-committed_text.result failure.Memory c.from_residual-in_err-committed_text.ensures.1
    (opened_contents (commit_of c.args.set.now) input old new (Err failure.Memory) (told_memory g.met.T.TreeDisk.laws c.args.set.now input old new c.requires.ready refl c.commit.new.catalogue))

pub returns-clause-whole : goal.returns-clause-whole
returns-clause-whole g c input =
    let old = disks c.args.root.now c.args.repo.now c.args.opened.now in
    let new = disks c.args.root.now c.commit.new.disk (record { db = c.args.opened.now.db; catalogue = c.commit.new.catalogue }) in
    told_whole g.met.T.TreeDisk.laws c.args.set.now input old new c.requires.ready refl c.commit.new.catalogue c.commit.result c.commit.ensures.ends c.commit.ensures.sound c.in_ok-ids.ids (sym c.on_repository.ensures ∙ c.in_ok-ids.was)
    c.in_ok-committed_text.field-0 (c.in_ok-committed_text.ensures.value ∙ ap committed_text c.get.ensures)

-- ---- what stays

pub returns-in_err-ids-clause-files : goal.returns-in_err-ids-clause-files
returns-in_err-ids-clause-files g c = files_stay g.P.TreeDisk.disk c.args.set.now c.requires.contents c.args.opened.now.catalogue c.requires.ready.rules c.args.repo.now c.commit.new.disk c.kept_files.ensures.commits c.kept_files.ensures.contents c.commit.ensures.only

pub returns-in_err-committed_text-clause-files : goal.returns-in_err-committed_text-clause-files
returns-in_err-committed_text-clause-files g c = files_stay g.P.TreeDisk.disk c.args.set.now c.requires.contents c.args.opened.now.catalogue c.requires.ready.rules c.args.repo.now c.commit.new.disk c.kept_files.ensures.commits c.kept_files.ensures.contents c.commit.ensures.only

pub returns-clause-files : goal.returns-clause-files
returns-clause-files g c = files_stay g.P.TreeDisk.disk c.args.set.now c.requires.contents c.args.opened.now.catalogue c.requires.ready.rules c.args.repo.now c.commit.new.disk c.kept_files.ensures.commits c.kept_files.ensures.contents c.commit.ensures.only
