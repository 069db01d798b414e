use Rattle.std.proofs.Common.{List, Err, sym, subst, ◌∙◌}
use Rattle.cli_call.specs.trove-stream.Installed.{IsRising}
use Rattle.cli_call.specs.trove-stream.declared.parts.TroveParts.{TroveParts}
use Rattle.repo_index.specs.Catalogue.{AreCommitted}
use Rattle.cli_call.specs.Alone.{AnswersByContents}
use Rattle.cli_call.specs.Command.{disks, Performs}
use Rattle.cli_call.proofs.OpenedEnds.{opened_contents}
use Rattle.cli_call.specs.cny-laws.Failures.{failure_of_fault}
use Rattle.repo_commands.specs.Sending.{changeset, SendsFrom}
use Rattle.cli_call.proofs.Again.{ready_both}
use Rattle.cli_call.proofs.ReadingEnds.{configuration, file_made, file_stopped, file_stopped_opened}
use Rattle.repo_commands.proofs.SendingEnds.{after_ok, fresh_fails, fresh_fails_whole, old_fails, old_fails_whole, refused_config, sent_ends, sent_whole, SendingLaws}
use Rattle.cny_version.proofs.cny-base.Passing.{err_is}
use Rattle.cli_call.proofs.StoreLaws.{nothing_done}
use Rattle.repo_commands.proofs.sending.send_changes.Goals as goal

pub returns-in_err-config-clause-performs : goal.returns-in_err-config-clause-performs
returns-in_err-config-clause-performs g c input =
    let from = c.args.from.now in
    let to = c.args.to.now in
    let old = disks c.args.root.now c.args.repo.now c.args.opened.now in
    let new = disks c.read_config.new.root c.args.repo.now c.args.opened.now in
    err_is (Performs g.T.TreeDisk.disk g.P.TreeDisk.disk (changeset from to) input old new) c.from_residual.result c.in_err-config.field-0.0 c.from_residual.ensures.1
    (file_stopped g.met.T.TreeDisk.laws g.met.P.TreeDisk.laws c.store_laws.ensures (changeset from to) input configuration c.args.root.now c.read_config.new.root c.args.repo.now c.args.opened.now c.requires (refused_config from to)
    c.read_config.result c.read_config.ensures c.in_err-config.field-0.0 (sym c.on_root.ensures ∙ c.in_err-config.was))

pub returns-in_err-old-clause-performs : goal.returns-in_err-old-clause-performs
returns-in_err-old-clause-performs g c input =
    let from = c.args.from.now in
    let to = c.args.to.now in
    let old = disks c.args.root.now c.args.repo.now c.args.opened.now in
    let new = disks c.read_config.new.root c.args.repo.now c.args.opened.now in
    let laws : SendingLaws = record { catalogue = c.stored_state.ensures.catalogue; undamaged = c.stored_between.ensures.undamaged; contents = c.stored_between.ensures.contents; store = c.store_laws.ensures } in
    let configured = file_made g.T.TreeDisk.disk c.args.root.now c.read_config.new.root c.read_config.result c.read_config.ensures c.in_ok-config.config (sym c.on_root.ensures ∙ c.in_ok-config.was) in
    err_is (Performs g.T.TreeDisk.disk g.P.TreeDisk.disk (changeset from to) input old new) c.from_residual-in_err-old.result (failure_of_fault c.in_err-old.field-0.0) c.from_residual-in_err-old.ensures.1
    (old_fails g.met.T.TreeDisk.laws g.met.P.TreeDisk.laws laws from to input c.args.root.now c.read_config.new.root c.args.repo.now c.args.opened.now c.requires c.in_ok-config.config configured c.in_err-old.field-0.0 c.in_err-old.ensures.ends)

pub returns-in_err-fresh-clause-performs : goal.returns-in_err-fresh-clause-performs
returns-in_err-fresh-clause-performs g c input =
    let from = c.args.from.now in
    let to = c.args.to.now in
    let old = disks c.args.root.now c.args.repo.now c.args.opened.now in
    let new = disks c.read_config.new.root c.args.repo.now c.args.opened.now in
    let laws : SendingLaws = record { catalogue = c.stored_state.ensures.catalogue; undamaged = c.stored_between.ensures.undamaged; contents = c.stored_between.ensures.contents; store = c.store_laws.ensures } in
    let configured = file_made g.T.TreeDisk.disk c.args.root.now c.read_config.new.root c.read_config.result c.read_config.ensures c.in_ok-config.config (sym c.on_root.ensures ∙ c.in_ok-config.was) in
    err_is (Performs g.T.TreeDisk.disk g.P.TreeDisk.disk (changeset from to) input old new) c.from_residual-in_err-fresh.result (failure_of_fault c.in_err-fresh.field-0.0) c.from_residual-in_err-fresh.ensures.1
    (fresh_fails g.met.T.TreeDisk.laws g.met.P.TreeDisk.laws laws from to input c.args.root.now c.read_config.new.root c.args.repo.now c.args.opened.now c.requires c.in_ok-config.config configured
    c.in_ok-old.old c.in_ok-old.ensures.ends c.in_err-fresh.field-0.0 c.in_err-fresh.ensures.ends)

pub send-requires : goal.send-requires
send-requires g c = record {
  old_committed = subst (AreCommitted c.args.opened.now.catalogue.troves) (sym c.get.ensures) c.in_ok-old.ensures.committed;
  fresh_committed = subst (AreCommitted c.args.opened.now.catalogue.troves) (sym c.get-2.ensures) c.in_ok-fresh.ensures.committed;
  old_rises = subst (λ (l : List TroveParts). IsRising l) (sym c.get.ensures) c.in_ok-old.ensures.rises;
}

pub returns-clause-performs : goal.returns-clause-performs
returns-clause-performs g c input =
    let from = c.args.from.now in
    let to = c.args.to.now in
    let old = disks c.args.root.now c.args.repo.now c.args.opened.now in
    let new = disks c.read_config.new.root c.send.new.repo c.args.opened.now in
    let laws : SendingLaws = record { catalogue = c.stored_state.ensures.catalogue; undamaged = c.stored_between.ensures.undamaged; contents = c.stored_between.ensures.contents; store = c.store_laws.ensures } in
    let configured = file_made g.T.TreeDisk.disk c.args.root.now c.read_config.new.root c.read_config.result c.read_config.ensures c.in_ok-config.config (sym c.on_root.ensures ∙ c.in_ok-config.was) in
    let sent = subst (λ (l : List TroveParts). SendsFrom g.P.TreeDisk.disk l c.in_ok-fresh.fresh c.args.repo.now c.send.new.repo c.send.result) c.get.ensures
    (subst (λ (l : List TroveParts). SendsFrom g.P.TreeDisk.disk c.get.result.now l c.args.repo.now c.send.new.repo c.send.result) c.get-2.ensures c.send.ensures) in
    subst (Performs g.T.TreeDisk.disk g.P.TreeDisk.disk (changeset from to) input old new) (sym c.on_repository.ensures)
    (sent_ends g.met.T.TreeDisk.laws g.met.P.TreeDisk.laws laws from to input c.args.root.now c.read_config.new.root c.args.repo.now c.args.opened.now c.requires c.in_ok-config.config configured
    c.in_ok-old.old c.in_ok-old.ensures.ends c.in_ok-fresh.fresh c.in_ok-fresh.ensures.ends c.in_ok-fresh.ensures.committed c.send.new.repo c.send.result sent)

-- both disks were only read
pub returns-clause-again : goal.returns-clause-again
returns-clause-again g c =
    after_ok c.on_repository.result (ready_both c.args.root.now c.read_config.new.root c.args.repo.now c.send.new.repo c.args.opened.now c.read_config.ensures.same c.send.ensures.same c.requires)

-- the root was only read
pub returns-in_err-config-clause-root_read : goal.returns-in_err-config-clause-root_read
returns-in_err-config-clause-root_read g c = c.read_config.ensures.same

pub returns-in_err-old-clause-root_read : goal.returns-in_err-old-clause-root_read
returns-in_err-old-clause-root_read g c = c.read_config.ensures.same

pub returns-in_err-fresh-clause-root_read : goal.returns-in_err-fresh-clause-root_read
returns-in_err-fresh-clause-root_read g c = c.read_config.ensures.same

pub returns-clause-root_read : goal.returns-clause-root_read
returns-clause-root_read g c = c.read_config.ensures.same

-- and the repository
pub returns-in_err-config-clause-repo_read : goal.returns-in_err-config-clause-repo_read
returns-in_err-config-clause-repo_read g c = λ told. nothing_done g.met.P.TreeDisk.laws c.args.repo.now

pub returns-in_err-old-clause-repo_read : goal.returns-in_err-old-clause-repo_read
returns-in_err-old-clause-repo_read g c = λ told. nothing_done g.met.P.TreeDisk.laws c.args.repo.now

pub returns-in_err-fresh-clause-repo_read : goal.returns-in_err-fresh-clause-repo_read
returns-in_err-fresh-clause-repo_read g c = λ told. nothing_done g.met.P.TreeDisk.laws c.args.repo.now

pub returns-clause-repo_read : goal.returns-clause-repo_read
returns-clause-repo_read g c = c.send.ensures.same

-- ---- by what was read when the disks were opened, and the contents that stand whole

pub returns-in_err-config-clause-whole : goal.returns-in_err-config-clause-whole
returns-in_err-config-clause-whole g c input =
    let means = changeset c.args.from.now c.args.to.now in
    let old = disks c.args.root.now c.args.repo.now c.args.opened.now in
    let new = disks c.read_config.new.root c.args.repo.now c.args.opened.now in
    err_is (AnswersByContents g.T.TreeDisk.disk g.P.TreeDisk.disk means input old new) c.from_residual.result c.in_err-config.field-0.0 c.from_residual.ensures.1
    (opened_contents means input old new (Err c.in_err-config.field-0.0)
    (file_stopped_opened g.met.T.TreeDisk.laws g.met.P.TreeDisk.laws c.store_laws.ensures means input configuration c.args.root.now c.read_config.new.root c.args.repo.now c.args.opened.now c.requires (refused_config c.args.from.now c.args.to.now)
    c.read_config.result c.read_config.ensures c.in_err-config.field-0.0 (sym c.on_root.ensures ∙ c.in_err-config.was)))

pub returns-in_err-old-clause-whole : goal.returns-in_err-old-clause-whole
returns-in_err-old-clause-whole g c input =
    let means = changeset c.args.from.now c.args.to.now in
    let old = disks c.args.root.now c.args.repo.now c.args.opened.now in
    let new = disks c.read_config.new.root c.args.repo.now c.args.opened.now in
    let configured = file_made g.T.TreeDisk.disk c.args.root.now c.read_config.new.root c.read_config.result c.read_config.ensures c.in_ok-config.config (sym c.on_root.ensures ∙ c.in_ok-config.was) in
    err_is (AnswersByContents g.T.TreeDisk.disk g.P.TreeDisk.disk means input old new) c.from_residual-in_err-old.result (failure_of_fault c.in_err-old.field-0.0) c.from_residual-in_err-old.ensures.1
    (old_fails_whole g.met.T.TreeDisk.laws c.args.from.now c.args.to.now input c.args.root.now c.read_config.new.root c.args.repo.now c.args.opened.now c.requires c.in_ok-config.config configured c.in_err-old.field-0.0 c.in_err-old.ensures.ends)

pub returns-in_err-fresh-clause-whole : goal.returns-in_err-fresh-clause-whole
returns-in_err-fresh-clause-whole g c input =
    let means = changeset c.args.from.now c.args.to.now in
    let old = disks c.args.root.now c.args.repo.now c.args.opened.now in
    let new = disks c.read_config.new.root c.args.repo.now c.args.opened.now in
    let configured = file_made g.T.TreeDisk.disk c.args.root.now c.read_config.new.root c.read_config.result c.read_config.ensures c.in_ok-config.config (sym c.on_root.ensures ∙ c.in_ok-config.was) in
    err_is (AnswersByContents g.T.TreeDisk.disk g.P.TreeDisk.disk means input old new) c.from_residual-in_err-fresh.result (failure_of_fault c.in_err-fresh.field-0.0) c.from_residual-in_err-fresh.ensures.1
    (fresh_fails_whole g.met.T.TreeDisk.laws c.args.from.now c.args.to.now input c.args.root.now c.read_config.new.root c.args.repo.now c.args.opened.now c.requires c.in_ok-config.config configured
    c.in_ok-old.old c.in_ok-old.ensures.ends c.in_err-fresh.field-0.0 c.in_err-fresh.ensures.ends)

pub returns-clause-whole : goal.returns-clause-whole
returns-clause-whole g c input =
    let means = changeset c.args.from.now c.args.to.now in
    let old = disks c.args.root.now c.args.repo.now c.args.opened.now in
    let new = disks c.read_config.new.root c.send.new.repo c.args.opened.now in
    let configured = file_made g.T.TreeDisk.disk c.args.root.now c.read_config.new.root c.read_config.result c.read_config.ensures c.in_ok-config.config (sym c.on_root.ensures ∙ c.in_ok-config.was) in
    let sent = subst (λ (l : List TroveParts). SendsFrom g.P.TreeDisk.disk l c.in_ok-fresh.fresh c.args.repo.now c.send.new.repo c.send.result) c.get.ensures
    (subst (λ (l : List TroveParts). SendsFrom g.P.TreeDisk.disk c.get.result.now l c.args.repo.now c.send.new.repo c.send.result) c.get-2.ensures c.send.ensures) in
    subst (AnswersByContents g.T.TreeDisk.disk g.P.TreeDisk.disk means input old new) (sym c.on_repository.ensures)
    (sent_whole g.met.T.TreeDisk.laws c.args.from.now c.args.to.now input c.args.root.now c.read_config.new.root c.args.repo.now c.args.opened.now c.requires c.in_ok-config.config configured
    c.in_ok-old.old c.in_ok-old.ensures.ends c.in_ok-fresh.fresh c.in_ok-fresh.ensures.ends c.in_ok-fresh.ensures.committed c.send.new.repo c.send.result sent)
