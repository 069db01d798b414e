use Rattle.std.proofs.Common.{true, sym, subst, ◌∙◌}
use Rattle.cli_call.specs.change-set.ChangeSet.{HasContents}
use Rattle.cli_call.specs.change-set.declared.change.ChangeSet.{ChangeSet}
use Rattle.cli_call.proofs.CommandLaws.{acts_performed}
use Rattle.cli_call.proofs.RootLaws.{root_laws}
use Rattle.cli_call.specs.Alone.{AnswersByOpened}
use Rattle.cli_call.specs.Command.{disks, Performs}
use Rattle.cli_call.specs.cny-laws.Failures.{failure_of_fault}
use Rattle.repo_commands.specs.Commit.{commit_of}
use Rattle.repo_commands.specs.Moving.{move}
use Rattle.repo_commands.proofs.CommittedTroves.{refer_within}
use Rattle.cli_call.proofs.OpenedEnds.{files_kept, memory_opened}
use Rattle.cli_call.proofs.ReadingEnds.{configuration, file_made, file_stopped, file_stopped_opened, ready_on}
use Rattle.repo_commands.proofs.MovingEnds.{committed_opened, meant_fails, meant_opened, memory_ends, moved_ends, moved_fails, moved_opened, no_contents, refused_config, set_is, unmoved}
use Rattle.cny_version.proofs.cny-base.Passing.{err_is}
use Rattle.repo_commands.proofs.moving.commit_moved.Goals as goal

pub returns-in_err-config-clause-performs : goal.returns-in_err-config-clause-performs
returns-in_err-config-clause-performs g c input =
    let means = move c.args.way c.args.label.now c.args.given.now in
    let old = disks c.args.root.now c.args.repo.now c.args.opened.now in
    let new = disks c.read_config.new.root c.args.repo.now c.args.opened.now in
    err_is (Performs g.T.TreeDisk.disk g.P.TreeDisk.disk means input old new) c.from_residual.result c.in_err-config.field-0.0 c.from_residual.ensures.1
    (file_stopped g.met.T.TreeDisk.laws g.met.P.TreeDisk.laws c.store_laws.ensures means input configuration c.args.root.now c.read_config.new.root c.args.repo.now c.args.opened.now c.requires (refused_config c.args.way c.args.label.now c.args.given.now)
    c.read_config.result c.read_config.ensures c.in_err-config.field-0.0 (sym c.on_root.ensures ∙ c.in_err-config.was))

pub returns-in_err-id-clause-performs : goal.returns-in_err-id-clause-performs
returns-in_err-id-clause-performs g c input =
    let means = move c.args.way c.args.label.now c.args.given.now in
    let old = disks c.args.root.now c.args.repo.now c.args.opened.now in
    let new = disks c.read_config.new.root c.args.repo.now c.args.opened.now in
    let configured = file_made g.T.TreeDisk.disk c.args.root.now c.read_config.new.root c.read_config.result c.read_config.ensures c.in_ok-config.config (sym c.on_root.ensures ∙ c.in_ok-config.was) in
    err_is (Performs g.T.TreeDisk.disk g.P.TreeDisk.disk means input old new) c.from_residual-in_err-id.result (failure_of_fault c.in_err-id.field-0.0) c.from_residual-in_err-id.ensures.1
    (meant_fails g.met.T.TreeDisk.laws g.met.P.TreeDisk.laws c.stored_state.ensures.catalogue c.store_laws.ensures c.args.way c.args.label.now c.args.given.now input c.args.root.now c.read_config.new.root c.args.repo.now c.args.opened.now c.requires
    c.in_ok-config.config configured c.in_err-id.field-0.0 c.in_err-id.ensures)

pub moved-requires : goal.moved-requires
moved-requires g c = refer_within c.refs_found.ensures c.args.opened.now.catalogue c.requires.rules

pub returns-in_err-troves-clause-performs : goal.returns-in_err-troves-clause-performs
returns-in_err-troves-clause-performs g c input =
    let means = move c.args.way c.args.label.now c.args.given.now in
    let old = disks c.args.root.now c.args.repo.now c.args.opened.now in
    let new = disks c.read_config.new.root c.args.repo.now c.args.opened.now in
    let configured = file_made g.T.TreeDisk.disk c.args.root.now c.read_config.new.root c.read_config.result c.read_config.ensures c.in_ok-config.config (sym c.on_root.ensures ∙ c.in_ok-config.was) in
    let f = c.in_err-troves.field-0.0 in
    err_is (Performs g.T.TreeDisk.disk g.P.TreeDisk.disk means input old new) c.from_residual-in_err-troves.result (failure_of_fault f) c.from_residual-in_err-troves.ensures.1
    (moved_fails g.met.T.TreeDisk.laws g.met.P.TreeDisk.laws c.stored_state.ensures.catalogue c.store_laws.ensures c.args.way c.args.label.now c.args.given.now input c.args.root.now c.read_config.new.root c.args.repo.now c.args.opened.now c.requires
    c.in_ok-config.config configured c.in_ok-id.id c.in_ok-id.ensures f (unmoved c.args.way c.args.label.now c.args.opened.now.catalogue.troves c.in_ok-id.id f c.in_err-troves.ensures.fault))

pub returns-in_err-set-clause-performs : goal.returns-in_err-set-clause-performs
returns-in_err-set-clause-performs g c input =
    let means = move c.args.way c.args.label.now c.args.given.now in
    let old = disks c.args.root.now c.args.repo.now c.args.opened.now in
    let new = disks c.read_config.new.root c.args.repo.now c.args.opened.now in
    let configured = file_made g.T.TreeDisk.disk c.args.root.now c.read_config.new.root c.read_config.result c.read_config.ensures c.in_ok-config.config (sym c.on_root.ensures ∙ c.in_ok-config.was) in
    err_is (Performs g.T.TreeDisk.disk g.P.TreeDisk.disk means input old new) c.from_residual-in_err-set.result _ c.from_residual-in_err-set.ensures.1
    (memory_ends g.met.T.TreeDisk.laws g.met.P.TreeDisk.laws c.stored_state.ensures.catalogue c.store_laws.ensures c.args.way c.args.label.now c.args.given.now input c.args.root.now c.read_config.new.root c.args.repo.now c.args.opened.now c.requires
    c.in_ok-config.config configured c.in_ok-id.id c.in_ok-id.ensures)

pub commit_set-requires-clause-contents : goal.commit_set-requires-clause-contents
commit_set-requires-clause-contents g c = subst (λ (set : ChangeSet). HasContents set) (sym (set_is c.in_ok-set.set c.in_ok-troves.troves c.in_ok-set.ensures.parts c.in_ok-set.ensures.contents)) (no_contents c.in_ok-troves.troves)

pub commit_set-requires-clause-ready : goal.commit_set-requires-clause-ready
commit_set-requires-clause-ready g c = ready_on c.args.root.now c.read_config.new.root c.args.repo.now c.args.opened.now c.read_config.ensures.same c.requires

pub returns-clause-performs : goal.returns-clause-performs
returns-clause-performs g c input =
    let configured = file_made g.T.TreeDisk.disk c.args.root.now c.read_config.new.root c.read_config.result c.read_config.ensures c.in_ok-config.config (sym c.on_root.ensures ∙ c.in_ok-config.was) in
    let mid = disks c.read_config.new.root c.args.repo.now c.args.opened.now in
    let new = disks c.read_config.new.root c.commit_set.new.repo c.commit_set.new.opened in
    moved_ends g.met.T.TreeDisk.laws g.met.P.TreeDisk.laws c.stored_state.ensures.catalogue c.store_laws.ensures c.args.way c.args.label.now c.args.given.now input c.args.root.now c.read_config.new.root c.args.repo.now c.args.opened.now c.requires
    c.in_ok-config.config configured c.in_ok-id.id c.in_ok-id.ensures c.in_ok-troves.troves c.in_ok-troves.ensures.value new c.commit_set.result
    (subst (λ (set : ChangeSet). Performs g.T.TreeDisk.disk g.P.TreeDisk.disk (commit_of set) input mid new c.commit_set.result) (set_is c.in_ok-set.set c.in_ok-troves.troves c.in_ok-set.ensures.parts c.in_ok-set.ensures.contents)
    (acts_performed g.met.T.TreeDisk.laws root_laws (commit_of c.in_ok-set.set) input mid new c.commit_set.result (ready_on c.args.root.now c.read_config.new.root c.args.repo.now c.args.opened.now c.read_config.ensures.same c.requires) (c.commit_set.ensures.performs input)))

-- ---- by what was read when the disks were opened

pub returns-in_err-config-clause-opened : goal.returns-in_err-config-clause-opened
returns-in_err-config-clause-opened g c told input =
    let means = move c.args.way c.args.label.now c.args.given.now in
    let old = disks c.args.root.now c.args.repo.now c.args.opened.now in
    let new = disks c.read_config.new.root c.args.repo.now c.args.opened.now in
    err_is (AnswersByOpened g.T.TreeDisk.disk g.P.TreeDisk.disk means input old new) c.from_residual.result c.in_err-config.field-0.0 c.from_residual.ensures.1
    (file_stopped_opened g.met.T.TreeDisk.laws g.met.P.TreeDisk.laws c.store_laws.ensures means input configuration c.args.root.now c.read_config.new.root c.args.repo.now c.args.opened.now c.requires (refused_config c.args.way c.args.label.now c.args.given.now)
    c.read_config.result c.read_config.ensures c.in_err-config.field-0.0 (sym c.on_root.ensures ∙ c.in_err-config.was))

pub returns-in_err-id-clause-opened : goal.returns-in_err-id-clause-opened
returns-in_err-id-clause-opened g c told input =
    let means = move c.args.way c.args.label.now c.args.given.now in
    let old = disks c.args.root.now c.args.repo.now c.args.opened.now in
    let new = disks c.read_config.new.root c.args.repo.now c.args.opened.now in
    let configured = file_made g.T.TreeDisk.disk c.args.root.now c.read_config.new.root c.read_config.result c.read_config.ensures c.in_ok-config.config (sym c.on_root.ensures ∙ c.in_ok-config.was) in
    err_is (AnswersByOpened g.T.TreeDisk.disk g.P.TreeDisk.disk means input old new) c.from_residual-in_err-id.result (failure_of_fault c.in_err-id.field-0.0) c.from_residual-in_err-id.ensures.1
    (meant_opened g.met.T.TreeDisk.laws g.met.P.TreeDisk.laws c.args.way c.args.label.now c.args.given.now input c.args.root.now c.read_config.new.root c.args.repo.now c.args.opened.now c.requires c.in_ok-config.config configured
    c.in_err-id.field-0.0 c.in_err-id.ensures)

pub returns-in_err-troves-clause-opened : goal.returns-in_err-troves-clause-opened
returns-in_err-troves-clause-opened g c told input =
    let means = move c.args.way c.args.label.now c.args.given.now in
    let old = disks c.args.root.now c.args.repo.now c.args.opened.now in
    let new = disks c.read_config.new.root c.args.repo.now c.args.opened.now in
    let configured = file_made g.T.TreeDisk.disk c.args.root.now c.read_config.new.root c.read_config.result c.read_config.ensures c.in_ok-config.config (sym c.on_root.ensures ∙ c.in_ok-config.was) in
    let f = c.in_err-troves.field-0.0 in
    err_is (AnswersByOpened g.T.TreeDisk.disk g.P.TreeDisk.disk means input old new) c.from_residual-in_err-troves.result (failure_of_fault f) c.from_residual-in_err-troves.ensures.1
    (moved_opened g.met.T.TreeDisk.laws g.met.P.TreeDisk.laws c.args.way c.args.label.now c.args.given.now input c.args.root.now c.read_config.new.root c.args.repo.now c.args.opened.now c.requires c.in_ok-config.config configured
    c.in_ok-id.id c.in_ok-id.ensures f (unmoved c.args.way c.args.label.now c.args.opened.now.catalogue.troves c.in_ok-id.id f c.in_err-troves.ensures.fault))

pub returns-in_err-set-clause-opened : goal.returns-in_err-set-clause-opened
returns-in_err-set-clause-opened g c told input =
    let means = move c.args.way c.args.label.now c.args.given.now in
    let old = disks c.args.root.now c.args.repo.now c.args.opened.now in
    let new = disks c.read_config.new.root c.args.repo.now c.args.opened.now in
    err_is (AnswersByOpened g.T.TreeDisk.disk g.P.TreeDisk.disk means input old new) c.from_residual-in_err-set.result _ c.from_residual-in_err-set.ensures.1 (memory_opened g.met.T.TreeDisk.laws means input old new c.requires c.read_config.ensures.same)

pub returns-clause-opened : goal.returns-clause-opened
returns-clause-opened g c told input =
    let configured = file_made g.T.TreeDisk.disk c.args.root.now c.read_config.new.root c.read_config.result c.read_config.ensures c.in_ok-config.config (sym c.on_root.ensures ∙ c.in_ok-config.was) in
    let mid = disks c.read_config.new.root c.args.repo.now c.args.opened.now in
    let new = disks c.read_config.new.root c.commit_set.new.repo c.commit_set.new.opened in
    committed_opened g.met.T.TreeDisk.laws g.met.P.TreeDisk.laws c.args.way c.args.label.now c.args.given.now input c.args.root.now c.read_config.new.root c.args.repo.now c.args.opened.now c.requires c.in_ok-config.config configured
    c.in_ok-id.id c.in_ok-id.ensures c.in_ok-troves.troves c.in_ok-troves.ensures.value new c.commit_set.result
    (subst (λ (set : ChangeSet). AnswersByOpened g.T.TreeDisk.disk g.P.TreeDisk.disk (commit_of set) input mid new c.commit_set.result) (set_is c.in_ok-set.set c.in_ok-troves.troves c.in_ok-set.ensures.parts c.in_ok-set.ensures.contents)
    (c.commit_set.ensures.opened told c.in_ok-set.ensures.contents input))

-- the root was only read
pub returns-in_err-config-clause-root_read : goal.returns-in_err-config-clause-root_read
returns-in_err-config-clause-root_read g c = c.read_config.ensures.same

pub returns-in_err-id-clause-root_read : goal.returns-in_err-id-clause-root_read
returns-in_err-id-clause-root_read g c = c.read_config.ensures.same

pub returns-in_err-troves-clause-root_read : goal.returns-in_err-troves-clause-root_read
returns-in_err-troves-clause-root_read g c = c.read_config.ensures.same

pub returns-in_err-set-clause-root_read : goal.returns-in_err-set-clause-root_read
returns-in_err-set-clause-root_read g c = c.read_config.ensures.same

pub returns-clause-root_read : goal.returns-clause-root_read
returns-clause-root_read g c = c.read_config.ensures.same

-- ---- what stays

pub returns-in_err-config-clause-files : goal.returns-in_err-config-clause-files
returns-in_err-config-clause-files g c = files_kept g.met.P.TreeDisk.laws c.args.opened.now.catalogue true c.args.repo.now

pub returns-in_err-id-clause-files : goal.returns-in_err-id-clause-files
returns-in_err-id-clause-files g c = files_kept g.met.P.TreeDisk.laws c.args.opened.now.catalogue true c.args.repo.now

pub returns-in_err-troves-clause-files : goal.returns-in_err-troves-clause-files
returns-in_err-troves-clause-files g c = files_kept g.met.P.TreeDisk.laws c.args.opened.now.catalogue true c.args.repo.now

pub returns-in_err-set-clause-files : goal.returns-in_err-set-clause-files
returns-in_err-set-clause-files g c = files_kept g.met.P.TreeDisk.laws c.args.opened.now.catalogue true c.args.repo.now

pub returns-clause-files : goal.returns-clause-files
returns-clause-files g c = c.commit_set.ensures.files true (λ is. c.in_ok-set.ensures.contents)
