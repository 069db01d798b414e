use Rattle.std.proofs.Common.{false, refl, subst}
use Rattle.root_commands.specs.cli-call.Alone.{AnswersByContents, AnswersByOpened, AnswersByTree, PerformsAlone}
use Rattle.root_commands.specs.cli-call.Command.{AreReady, disks, Performs}
use Rattle.root_commands.proofs.cli-call.OpenedEnds.{files_read}
use Rattle.conary_cli.specs.Commands.{erasing, verify}
use Rattle.root_commands.specs.Erase.{erase}
use Rattle.root_commands.specs.UpdateSpecs.{update_specs}
use Rattle.conary_cli.proofs.Performing.{again_as, never, on_both, on_catalogue, on_contents, on_list, on_records, on_repository, on_root, on_tree, performs_as, untouched}
use Rattle.conary_cli.proofs.commands.perform.Goals as goal

pub returns-in-Install-clause-performs : goal.returns-in-Install-clause-performs
returns-in-Install-clause-performs g c =
    let old = disks c.args.root.now c.args.repo.now c.args.opened.now in
    let new = disks c.install_manifest.new.root c.args.repo.now c.install_manifest.new.opened in
    performs_as _ _ c.args.input.now old new c.install_manifest.result _ c.in-Install.is c.as_bytes.ensures
    (on_root g.met.T.TreeDisk.laws g.met.P.TreeDisk.laws c.args.input.now old new c.install_manifest.result _ refl refl refl refl refl refl c.install_manifest.ensures.performs c.install_manifest.ensures.alone c.install_manifest.ensures.opened (λ path none. none) (λ path none. none))

pub returns-in-ShowChangeSet-clause-performs : goal.returns-in-ShowChangeSet-clause-performs
returns-in-ShowChangeSet-clause-performs g c =
    let old = disks c.args.root.now c.args.repo.now c.args.opened.now in
    let new = disks c.args.root.now c.args.repo.now c.args.opened.now in
    performs_as _ _ c.args.input.now old new c.show_change_set.result _ c.in-ShowChangeSet.is c.as_bytes-in-ShowChangeSet.ensures
    (on_list g.met.T.TreeDisk.laws g.met.P.TreeDisk.laws c.args.input.now old new c.show_change_set.result _ refl refl refl refl (never _ refl) c.show_change_set.ensures.performs c.show_change_set.ensures.alone c.show_change_set.ensures.lists (λ path none. none) (λ path none. none))

pub returns-in-Cook-clause-performs : goal.returns-in-Cook-clause-performs
returns-in-Cook-clause-performs g c =
    let old = disks c.args.root.now c.args.repo.now c.args.opened.now in
    let new = disks c.args.root.now c.cook_manifest.new.repo c.cook_manifest.new.opened in
    performs_as _ _ c.args.input.now old new c.cook_manifest.result _ c.in-Cook.is c.as_bytes-in-Cook.ensures
    (on_repository g.met.T.TreeDisk.laws g.met.P.TreeDisk.laws c.args.input.now old new c.cook_manifest.result c.requires _ refl refl refl refl refl refl (λ is. c.cook_manifest.ensures.whole) c.cook_manifest.ensures.files c.cook_manifest.ensures.performs (λ path none. none) (λ path none. none))

pub returns-in-Commit-clause-performs : goal.returns-in-Commit-clause-performs
returns-in-Commit-clause-performs g c =
    let old = disks c.args.root.now c.args.repo.now c.args.opened.now in
    let new = disks c.args.root.now c.commit_input.new.repo c.commit_input.new.opened in
    performs_as _ _ c.args.input.now old new c.commit_input.result _ c.in-Commit.is c.as_bytes-in-Commit.ensures
    (on_repository g.met.T.TreeDisk.laws g.met.P.TreeDisk.laws c.args.input.now old new c.commit_input.result c.requires _ refl refl refl refl refl refl (λ is. c.commit_input.ensures.whole) c.commit_input.ensures.files c.commit_input.ensures.performs (λ path none. none) (λ path none. none))

pub returns-in-ListCommitted-clause-performs : goal.returns-in-ListCommitted-clause-performs
returns-in-ListCommitted-clause-performs g c =
    let old = disks c.args.root.now c.args.repo.now c.args.opened.now in
    let new = disks c.args.root.now c.args.repo.now c.args.opened.now in
    performs_as _ _ c.args.input.now old new c.list_committed.result _ c.in-ListCommitted.is c.as_bytes-in-ListCommitted.ensures
    (on_catalogue g.met.T.TreeDisk.laws g.met.P.TreeDisk.laws c.args.input.now old new c.list_committed.result c.requires _ refl refl refl refl (never _ refl) (c.list_committed.ensures.acts c.args.input.now) (c.list_committed.ensures.lists c.args.input.now) (λ path none. none) (λ path none. none))

pub returns-in-Update-clause-performs : goal.returns-in-Update-clause-performs
returns-in-Update-clause-performs g c =
    let old = disks c.args.root.now c.args.repo.now c.args.opened.now in
    let new = disks c.update_specs.new.root c.update_specs.new.repo c.update_specs.new.opened in
    let by_specs = subst (λ given. Performs g.T.TreeDisk.disk g.P.TreeDisk.disk (update_specs c.in-Update.options c.in-Update.resolve given) c.args.input.now old new c.update_specs.result) c.get.ensures (c.update_specs.ensures.performs c.args.input.now) in
    let whole = subst (λ given. AnswersByContents g.T.TreeDisk.disk g.P.TreeDisk.disk (update_specs c.in-Update.options c.in-Update.resolve given) c.args.input.now old new c.update_specs.result) c.get.ensures (c.update_specs.ensures.whole c.args.input.now) in
    performs_as _ _ c.args.input.now old new c.update_specs.result _ c.in-Update.is c.as_bytes-in-Update.ensures
    (on_both g.met.T.TreeDisk.laws g.met.P.TreeDisk.laws c.args.input.now old new c.update_specs.result _ refl refl refl refl refl (never _ refl) (λ is. whole) (files_read g.met.P.TreeDisk.laws c.args.opened.now.catalogue false c.args.repo.now c.update_specs.new.repo c.update_specs.ensures.repo_read) by_specs (never _ refl) (λ is. c.update_specs.ensures.repo_read) (λ path none. none) (λ path none. none))

pub returns-in-UpdateByInput-clause-performs : goal.returns-in-UpdateByInput-clause-performs
returns-in-UpdateByInput-clause-performs g c =
    let old = disks c.args.root.now c.args.repo.now c.args.opened.now in
    let new = disks c.update_input.new.root c.update_input.new.repo c.update_input.new.opened in
    performs_as _ _ c.args.input.now old new c.update_input.result _ c.in-UpdateByInput.is c.as_bytes-in-UpdateByInput.ensures
    (on_both g.met.T.TreeDisk.laws g.met.P.TreeDisk.laws c.args.input.now old new c.update_input.result _ refl refl refl refl refl (never _ refl) (λ is. c.update_input.ensures.whole) (files_read g.met.P.TreeDisk.laws c.args.opened.now.catalogue false c.args.repo.now c.update_input.new.repo c.update_input.ensures.repo_read) c.update_input.ensures.performs (never _ refl) (λ is. c.update_input.ensures.repo_read) (λ path none. none) (λ path none. none))

pub returns-in-Sync-clause-performs : goal.returns-in-Sync-clause-performs
returns-in-Sync-clause-performs g c =
    let old = disks c.args.root.now c.args.repo.now c.args.opened.now in
    let new = disks c.sync_to_model.new.root c.sync_to_model.new.repo c.sync_to_model.new.opened in
    performs_as _ _ c.args.input.now old new c.sync_to_model.result _ c.in-Sync.is c.as_bytes-in-Sync.ensures
    (on_both g.met.T.TreeDisk.laws g.met.P.TreeDisk.laws c.args.input.now old new c.sync_to_model.result _ refl refl refl refl refl (never _ refl) (λ is. c.sync_to_model.ensures.whole c.args.input.now) (files_read g.met.P.TreeDisk.laws c.args.opened.now.catalogue false c.args.repo.now c.sync_to_model.new.repo c.sync_to_model.ensures.repo_read) (c.sync_to_model.ensures.performs c.args.input.now) (never _ refl) (λ is. c.sync_to_model.ensures.repo_read) (λ path none. none) (λ path none. none))

pub returns-in-Erase-clause-performs : goal.returns-in-Erase-clause-performs
returns-in-Erase-clause-performs g c =
    let old = disks c.args.root.now c.args.repo.now c.args.opened.now in
    let new = disks c.erase_troves.new.root c.args.repo.now c.erase_troves.new.opened in
    let by_options = subst (λ o. Performs g.T.TreeDisk.disk g.P.TreeDisk.disk (erase c.get-in-Erase.result.now o) c.args.input.now old new c.erase_troves.result) c.erasing.ensures (c.erase_troves.ensures.performs c.args.input.now) in
    let by_names = subst (λ n. Performs g.T.TreeDisk.disk g.P.TreeDisk.disk (erase n (erasing c.in-Erase.replace)) c.args.input.now old new c.erase_troves.result) c.get-in-Erase.ensures by_options in
    let alone_by = subst (λ o. PerformsAlone g.T.TreeDisk.disk g.P.TreeDisk.disk (erase c.get-in-Erase.result.now o) c.args.input.now old new c.erase_troves.result) c.erasing.ensures (c.erase_troves.ensures.alone c.args.input.now) in
    let alone = subst (λ n. PerformsAlone g.T.TreeDisk.disk g.P.TreeDisk.disk (erase n (erasing c.in-Erase.replace)) c.args.input.now old new c.erase_troves.result) c.get-in-Erase.ensures alone_by in
    let opened_by = subst (λ o. AnswersByOpened g.T.TreeDisk.disk g.P.TreeDisk.disk (erase c.get-in-Erase.result.now o) c.args.input.now old new c.erase_troves.result) c.erasing.ensures (c.erase_troves.ensures.opened c.args.input.now) in
    let opened = subst (λ n. AnswersByOpened g.T.TreeDisk.disk g.P.TreeDisk.disk (erase n (erasing c.in-Erase.replace)) c.args.input.now old new c.erase_troves.result) c.get-in-Erase.ensures opened_by in
    performs_as _ _ c.args.input.now old new c.erase_troves.result _ c.in-Erase.is c.as_bytes-in-Erase.ensures
    (on_root g.met.T.TreeDisk.laws g.met.P.TreeDisk.laws c.args.input.now old new c.erase_troves.result _ refl refl refl refl refl refl by_names alone opened (λ path none. none) (λ path none. none))

pub returns-in-Rollback-clause-performs : goal.returns-in-Rollback-clause-performs
returns-in-Rollback-clause-performs g c =
    let old = disks c.args.root.now c.args.repo.now c.args.opened.now in
    let new = disks c.roll_back.new.root c.args.repo.now c.roll_back.new.opened in
    performs_as _ _ c.args.input.now old new c.roll_back.result _ c.in-Rollback.is c.as_bytes-in-Rollback.ensures
    (on_records g.met.T.TreeDisk.laws g.met.P.TreeDisk.laws c.args.input.now old new c.roll_back.result _ refl refl refl refl refl (never _ refl) (c.roll_back.ensures.performs c.args.input.now) (c.roll_back.ensures.alone c.args.input.now) (never _ refl) c.roll_back.ensures.records)

pub returns-in-ListInstalled-clause-performs : goal.returns-in-ListInstalled-clause-performs
returns-in-ListInstalled-clause-performs g c =
    let old = disks c.args.root.now c.args.repo.now c.args.opened.now in
    let new = disks c.args.root.now c.args.repo.now c.args.opened.now in
    performs_as _ _ c.args.input.now old new c.list_installed.result _ c.in-ListInstalled.is c.as_bytes-in-ListInstalled.ensures
    (on_list g.met.T.TreeDisk.laws g.met.P.TreeDisk.laws c.args.input.now old new c.list_installed.result _ refl refl refl refl (never _ refl) (c.list_installed.ensures.performs c.args.input.now) (c.list_installed.ensures.alone c.args.input.now) (c.list_installed.ensures.lists c.args.input.now) (λ path none. none) (λ path none. none))

pub returns-in-Verify-clause-performs : goal.returns-in-Verify-clause-performs
returns-in-Verify-clause-performs g c =
    let old = disks c.args.root.now c.args.repo.now c.args.opened.now in
    let new = disks c.verify.new.root c.verify.new.repo c.args.opened.now in
    let by_names = subst (λ n. Performs g.T.TreeDisk.disk g.P.TreeDisk.disk (verify c.in-Verify.full n) c.args.input.now old new c.verify.result) c.get-in-Verify.ensures (c.verify.ensures.performs c.args.input.now) in
    performs_as _ _ c.args.input.now old new c.verify.result _ c.in-Verify.is c.as_bytes-in-Verify.ensures
    (on_tree g.met.T.TreeDisk.laws g.met.P.TreeDisk.laws c.args.input.now old new c.verify.result _ refl refl refl refl (λ is. subst (λ n. AnswersByContents g.T.TreeDisk.disk g.P.TreeDisk.disk (verify c.in-Verify.full n) c.args.input.now old new c.verify.result) c.get-in-Verify.ensures (c.verify.ensures.whole is c.args.input.now)) by_names (λ is. subst (λ n. PerformsAlone g.T.TreeDisk.disk g.P.TreeDisk.disk (verify c.in-Verify.full n) c.args.input.now old new c.verify.result) c.get-in-Verify.ensures (c.verify.ensures.alone is c.args.input.now)) (λ is. subst (λ n. AnswersByTree g.T.TreeDisk.disk g.P.TreeDisk.disk (verify c.in-Verify.full n) c.args.input.now old new c.verify.result) c.get-in-Verify.ensures (c.verify.ensures.tree is c.args.input.now)) c.verify.ensures.root_read c.verify.ensures.repo_read (λ path none. none) (λ path none. none))

pub returns-in-ListJobs-clause-performs : goal.returns-in-ListJobs-clause-performs
returns-in-ListJobs-clause-performs g c =
    let old = disks c.args.root.now c.args.repo.now c.args.opened.now in
    let new = disks c.list_jobs.new.root c.args.repo.now c.args.opened.now in
    performs_as _ _ c.args.input.now old new c.list_jobs.result _ c.in-ListJobs.is c.as_bytes-in-ListJobs.ensures
    (on_records g.met.T.TreeDisk.laws g.met.P.TreeDisk.laws c.args.input.now old new c.list_jobs.result _ refl refl refl refl refl (λ is. c.list_jobs.ensures.by_records c.args.input.now) (c.list_jobs.ensures.performs c.args.input.now) (c.list_jobs.ensures.alone c.args.input.now) (λ is. c.list_jobs.ensures.root_read) c.list_jobs.ensures.records)

pub returns-in-LocalChanges-clause-performs : goal.returns-in-LocalChanges-clause-performs
returns-in-LocalChanges-clause-performs g c =
    let old = disks c.args.root.now c.args.repo.now c.args.opened.now in
    let new = disks c.change_locally.new.root c.args.repo.now c.args.opened.now in
    performs_as _ _ c.args.input.now old new c.change_locally.result _ c.in-LocalChanges.is refl
    (on_tree g.met.T.TreeDisk.laws g.met.P.TreeDisk.laws c.args.input.now old new c.change_locally.result _ refl refl refl refl (never _ refl) (c.change_locally.ensures.performs c.args.input.now) (λ is. c.change_locally.ensures.alone c.args.input.now) (λ is. c.change_locally.ensures.tree c.args.input.now) (c.change_locally.ensures.tree c.args.input.now).root (untouched g.met.P.TreeDisk.laws c.args.repo.now c.args.repo.now refl) (λ path none. none) (λ path none. none))

pub returns-in-SendChanges-clause-performs : goal.returns-in-SendChanges-clause-performs
returns-in-SendChanges-clause-performs g c =
    let old = disks c.args.root.now c.args.repo.now c.args.opened.now in
    let new = disks c.send_changes.new.root c.send_changes.new.repo c.args.opened.now in
    performs_as _ _ c.args.input.now old new c.send_changes.result _ c.in-SendChanges.is refl
    (on_both g.met.T.TreeDisk.laws g.met.P.TreeDisk.laws c.args.input.now old new c.send_changes.result _ refl refl refl refl refl (never _ refl) (λ is. c.send_changes.ensures.whole c.args.input.now) (files_read g.met.P.TreeDisk.laws c.args.opened.now.catalogue false c.args.repo.now c.send_changes.new.repo c.send_changes.ensures.repo_read) (c.send_changes.ensures.performs c.args.input.now) (λ is. c.send_changes.ensures.root_read) (λ is. c.send_changes.ensures.repo_read) (λ path none. none) (λ path none. none))

pub returns-in-Serve-clause-performs : goal.returns-in-Serve-clause-performs
returns-in-Serve-clause-performs g c =
    let old = disks c.args.root.now c.args.repo.now c.args.opened.now in
    let new = disks c.args.root.now c.serve_requests.new.repo c.args.opened.now in
    performs_as _ _ c.args.input.now old new c.serve_requests.result _ c.in-Serve.is refl
    (on_contents g.met.T.TreeDisk.laws g.met.P.TreeDisk.laws c.args.input.now old new c.serve_requests.result c.requires _ refl refl refl refl refl (never _ refl) c.serve_requests.ensures.acts c.serve_requests.ensures.repo_read (λ path none. none) (λ path none. none))

pub returns-in-AskMirror-clause-performs : goal.returns-in-AskMirror-clause-performs
returns-in-AskMirror-clause-performs g c =
    let old = disks c.args.root.now c.args.repo.now c.args.opened.now in
    let new = disks c.args.root.now c.args.repo.now c.args.opened.now in
    performs_as _ _ c.args.input.now old new c.ask_mirror.result _ c.in-AskMirror.is refl
    (on_catalogue g.met.T.TreeDisk.laws g.met.P.TreeDisk.laws c.args.input.now old new c.ask_mirror.result c.requires _ refl refl refl refl (never _ refl) (c.ask_mirror.ensures.acts c.args.input.now) (c.ask_mirror.ensures.lists c.args.input.now) (λ path none. none) (λ path none. none))

pub returns-in-TakeMirror-clause-performs : goal.returns-in-TakeMirror-clause-performs
returns-in-TakeMirror-clause-performs g c =
    let old = disks c.args.root.now c.args.repo.now c.args.opened.now in
    let new = disks c.args.root.now c.take_mirror.new.repo c.take_mirror.new.opened in
    performs_as _ _ c.args.input.now old new c.take_mirror.result _ c.in-TakeMirror.is c.as_bytes-in-TakeMirror.ensures
    (on_repository g.met.T.TreeDisk.laws g.met.P.TreeDisk.laws c.args.input.now old new c.take_mirror.result c.requires _ refl refl refl refl refl refl (λ is. c.take_mirror.ensures.whole) c.take_mirror.ensures.files c.take_mirror.ensures.performs (λ path none. none) (λ path none. none))

pub returns-in-Move-clause-performs : goal.returns-in-Move-clause-performs
returns-in-Move-clause-performs g c =
    let old = disks c.args.root.now c.args.repo.now c.args.opened.now in
    let new = disks c.commit_moved.new.root c.commit_moved.new.repo c.commit_moved.new.opened in
    performs_as _ _ c.args.input.now old new c.commit_moved.result _ c.in-Move.is c.as_bytes-in-Move.ensures
    (on_both g.met.T.TreeDisk.laws g.met.P.TreeDisk.laws c.args.input.now old new c.commit_moved.result _ refl refl refl refl refl (λ is repo_told. c.commit_moved.ensures.opened (repo_told refl) c.args.input.now) (never _ refl) c.commit_moved.ensures.files (c.commit_moved.ensures.performs c.args.input.now) (λ is. c.commit_moved.ensures.root_read) (never _ refl) (λ path none. none) (λ path none. none))

pub returns-in-Install-clause-again : goal.returns-in-Install-clause-again
returns-in-Install-clause-again g c = again_as (AreReady g.T.TreeDisk.disk g.P.TreeDisk.disk (disks c.install_manifest.new.root c.args.repo.now c.install_manifest.new.opened)) c.install_manifest.result c.as_bytes.result c.as_bytes.ensures c.install_manifest.ensures.again

pub returns-in-ShowChangeSet-clause-again : goal.returns-in-ShowChangeSet-clause-again
returns-in-ShowChangeSet-clause-again g c = again_as (AreReady g.T.TreeDisk.disk g.P.TreeDisk.disk (disks c.args.root.now c.args.repo.now c.args.opened.now)) c.show_change_set.result c.as_bytes-in-ShowChangeSet.result c.as_bytes-in-ShowChangeSet.ensures c.show_change_set.ensures.again

pub returns-in-Cook-clause-again : goal.returns-in-Cook-clause-again
returns-in-Cook-clause-again g c = again_as (AreReady g.T.TreeDisk.disk g.P.TreeDisk.disk (disks c.args.root.now c.cook_manifest.new.repo c.cook_manifest.new.opened)) c.cook_manifest.result c.as_bytes-in-Cook.result c.as_bytes-in-Cook.ensures c.cook_manifest.ensures.again

pub returns-in-Commit-clause-again : goal.returns-in-Commit-clause-again
returns-in-Commit-clause-again g c = again_as (AreReady g.T.TreeDisk.disk g.P.TreeDisk.disk (disks c.args.root.now c.commit_input.new.repo c.commit_input.new.opened)) c.commit_input.result c.as_bytes-in-Commit.result c.as_bytes-in-Commit.ensures c.commit_input.ensures.again

pub returns-in-ListCommitted-clause-again : goal.returns-in-ListCommitted-clause-again
returns-in-ListCommitted-clause-again g c = again_as (AreReady g.T.TreeDisk.disk g.P.TreeDisk.disk (disks c.args.root.now c.args.repo.now c.args.opened.now)) c.list_committed.result c.as_bytes-in-ListCommitted.result c.as_bytes-in-ListCommitted.ensures c.list_committed.ensures.again

pub returns-in-Update-clause-again : goal.returns-in-Update-clause-again
returns-in-Update-clause-again g c = again_as (AreReady g.T.TreeDisk.disk g.P.TreeDisk.disk (disks c.update_specs.new.root c.update_specs.new.repo c.update_specs.new.opened)) c.update_specs.result c.as_bytes-in-Update.result c.as_bytes-in-Update.ensures c.update_specs.ensures.again

pub returns-in-UpdateByInput-clause-again : goal.returns-in-UpdateByInput-clause-again
returns-in-UpdateByInput-clause-again g c = again_as (AreReady g.T.TreeDisk.disk g.P.TreeDisk.disk (disks c.update_input.new.root c.update_input.new.repo c.update_input.new.opened)) c.update_input.result c.as_bytes-in-UpdateByInput.result c.as_bytes-in-UpdateByInput.ensures c.update_input.ensures.again

pub returns-in-Sync-clause-again : goal.returns-in-Sync-clause-again
returns-in-Sync-clause-again g c = again_as (AreReady g.T.TreeDisk.disk g.P.TreeDisk.disk (disks c.sync_to_model.new.root c.sync_to_model.new.repo c.sync_to_model.new.opened)) c.sync_to_model.result c.as_bytes-in-Sync.result c.as_bytes-in-Sync.ensures c.sync_to_model.ensures.again

pub returns-in-Erase-clause-again : goal.returns-in-Erase-clause-again
returns-in-Erase-clause-again g c = again_as (AreReady g.T.TreeDisk.disk g.P.TreeDisk.disk (disks c.erase_troves.new.root c.args.repo.now c.erase_troves.new.opened)) c.erase_troves.result c.as_bytes-in-Erase.result c.as_bytes-in-Erase.ensures c.erase_troves.ensures.again

pub returns-in-Rollback-clause-again : goal.returns-in-Rollback-clause-again
returns-in-Rollback-clause-again g c = again_as (AreReady g.T.TreeDisk.disk g.P.TreeDisk.disk (disks c.roll_back.new.root c.args.repo.now c.roll_back.new.opened)) c.roll_back.result c.as_bytes-in-Rollback.result c.as_bytes-in-Rollback.ensures c.roll_back.ensures.again

pub returns-in-ListInstalled-clause-again : goal.returns-in-ListInstalled-clause-again
returns-in-ListInstalled-clause-again g c = again_as (AreReady g.T.TreeDisk.disk g.P.TreeDisk.disk (disks c.args.root.now c.args.repo.now c.args.opened.now)) c.list_installed.result c.as_bytes-in-ListInstalled.result c.as_bytes-in-ListInstalled.ensures c.list_installed.ensures.again

pub returns-in-Verify-clause-again : goal.returns-in-Verify-clause-again
returns-in-Verify-clause-again g c = again_as (AreReady g.T.TreeDisk.disk g.P.TreeDisk.disk (disks c.verify.new.root c.verify.new.repo c.args.opened.now)) c.verify.result c.as_bytes-in-Verify.result c.as_bytes-in-Verify.ensures c.verify.ensures.again

pub returns-in-ListJobs-clause-again : goal.returns-in-ListJobs-clause-again
returns-in-ListJobs-clause-again g c = again_as (AreReady g.T.TreeDisk.disk g.P.TreeDisk.disk (disks c.list_jobs.new.root c.args.repo.now c.args.opened.now)) c.list_jobs.result c.as_bytes-in-ListJobs.result c.as_bytes-in-ListJobs.ensures c.list_jobs.ensures.again

pub returns-in-TakeMirror-clause-again : goal.returns-in-TakeMirror-clause-again
returns-in-TakeMirror-clause-again g c = again_as (AreReady g.T.TreeDisk.disk g.P.TreeDisk.disk (disks c.args.root.now c.take_mirror.new.repo c.take_mirror.new.opened)) c.take_mirror.result c.as_bytes-in-TakeMirror.result c.as_bytes-in-TakeMirror.ensures c.take_mirror.ensures.again

pub returns-in-Move-clause-again : goal.returns-in-Move-clause-again
returns-in-Move-clause-again g c = again_as (AreReady g.T.TreeDisk.disk g.P.TreeDisk.disk (disks c.commit_moved.new.root c.commit_moved.new.repo c.commit_moved.new.opened)) c.commit_moved.result c.as_bytes-in-Move.result c.as_bytes-in-Move.ensures c.commit_moved.ensures.again
