use Rattle.std.proofs.Common.{[], List, Ok, Err, ap, sym, subst, ◌∙◌, inr, refl}
use Rattle.local_db.specs.declared.db.Db.{Db}
use Rattle.repo_index.specs.Catalogue.{CatalogueParts}
use Rattle.cli_call.specs.trove-parts.declared.id.TroveId.{TroveId}
use Rattle.cli_call.specs.Alone.{AnswersByContents}
use Rattle.cli_call.specs.Command.{disks, Performs}
use Rattle.cli_call.proofs.OpenedEnds.{contents_since, fault_whole, opened_contents}
use Rattle.cli_call.specs.cny-laws.Failures.{failure_of_fault}
use Rattle.trove_spec.specs.AndThen.{EndsAs}
use Rattle.cli_call.proofs.AfterReading.{performs_since}
use Rattle.cli_call.proofs.ReadingEnds.{configuration, fault_ends, file_made, file_opened, file_stopped, file_stopped_opened, ready_on, root_read}
use Rattle.root_commands.specs.Update as update
use Rattle.root_commands.specs.UpdateSpecs as spec
use Rattle.root_commands.proofs.SpecEnds.{all_updated, none_meant, none_brought, refused_as, unbrought_on, unmeant_on, updated_on}
use Rattle.local_db.proofs.cny-base.Passing.{err_is}
use Rattle.update_job.proofs.change-set.Carrying.{no_carried}
use Rattle.cli_call.proofs.StoreLaws.{nothing_done}
use Rattle.root_commands.proofs.specified.update_specs.Goals as goal

pub returns-in_err-config-clause-performs : goal.returns-in_err-config-clause-performs
returns-in_err-config-clause-performs g c = λ input.
    let meaning = spec.update_specs c.args.options.now c.args.resolve c.args.givens.now in
    let old = disks c.args.root.now c.args.repo.now c.args.opened.now in
    let mid = disks c.read_config.new.root c.args.repo.now c.args.opened.now in
    err_is (Performs g.T.TreeDisk.disk g.P.TreeDisk.disk meaning input old mid) c.from_residual.result c.in_err-config.field-0.0 c.from_residual.ensures.1
    (file_stopped g.met.T.TreeDisk.laws g.met.P.TreeDisk.laws c.store_laws.ensures meaning input configuration c.args.root.now c.read_config.new.root c.args.repo.now c.args.opened.now c.requires
    (λ s refused has. inr (record { refusal = refused; refused = has; is = refl }))
    c.read_config.result c.read_config.ensures c.in_err-config.field-0.0 (sym c.on_root.ensures ∙ c.in_err-config.was))

pub returns-in_err-ids-clause-performs : goal.returns-in_err-ids-clause-performs
returns-in_err-ids-clause-performs g c = λ input.
    let meaning = spec.update_specs c.args.options.now c.args.resolve c.args.givens.now in
    let old = disks c.args.root.now c.args.repo.now c.args.opened.now in
    let mid = disks c.read_config.new.root c.args.repo.now c.args.opened.now in
    let configured = file_made g.T.TreeDisk.disk c.args.root.now c.read_config.new.root c.read_config.result c.read_config.ensures c.in_ok-config.config (sym c.on_root.ensures ∙ c.in_ok-config.was) in
    err_is (Performs g.T.TreeDisk.disk g.P.TreeDisk.disk meaning input old mid) c.from_residual-in_err-ids.result (failure_of_fault c.in_err-ids.field-0.0) c.from_residual-in_err-ids.ensures.1
    (fault_ends g.met.T.TreeDisk.laws g.met.P.TreeDisk.laws c.store_laws.ensures meaning input old mid c.requires
    (root_read g.met.T.TreeDisk.laws g.met.P.TreeDisk.laws c.args.root.now c.read_config.new.root c.args.repo.now c.args.opened.now configured.later configured.same) c.in_err-ids.field-0.0
    (λ refused is told repo_told s stands. none_meant c.stored_state.ensures.catalogue c.distinct_databases.ensures.unique c.args.options.now c.args.resolve c.args.givens.now old c.requires c.in_ok-config.config configured.ends told repo_told s stands refused
    (refused_as (spec.MeanAll c.args.opened.now.catalogue.troves c.in_ok-config.config c.args.givens.now) c.in_err-ids.field-0.0 c.in_err-ids.ensures refused is)))

pub returns-in_err-troves-clause-performs : goal.returns-in_err-troves-clause-performs
returns-in_err-troves-clause-performs g c = λ input.
    let meaning = spec.update_specs c.args.options.now c.args.resolve c.args.givens.now in
    let old = disks c.args.root.now c.args.repo.now c.args.opened.now in
    let mid = disks c.read_config.new.root c.args.repo.now c.args.opened.now in
    let configured = file_made g.T.TreeDisk.disk c.args.root.now c.read_config.new.root c.read_config.result c.read_config.ensures c.in_ok-config.config (sym c.on_root.ensures ∙ c.in_ok-config.was) in
    err_is (Performs g.T.TreeDisk.disk g.P.TreeDisk.disk meaning input old mid) c.from_residual-in_err-troves.result (failure_of_fault c.in_err-troves.field-0.0) c.from_residual-in_err-troves.ensures.1
    (fault_ends g.met.T.TreeDisk.laws g.met.P.TreeDisk.laws c.store_laws.ensures meaning input old mid c.requires
    (root_read g.met.T.TreeDisk.laws g.met.P.TreeDisk.laws c.args.root.now c.read_config.new.root c.args.repo.now c.args.opened.now configured.later configured.same) c.in_err-troves.field-0.0
    (λ refused is told repo_told s stands. none_brought c.stored_state.ensures.catalogue c.distinct_databases.ensures.unique c.args.options.now c.args.resolve c.args.givens.now old c.requires c.in_ok-config.config configured.ends told repo_told s stands c.in_ok-ids.ids c.in_ok-ids.ensures refused
    (refused_as (spec.BringAll c.args.resolve c.args.opened.now.catalogue.troves c.args.opened.now.db.installed c.in_ok-config.config c.in_ok-ids.ids) c.in_err-troves.field-0.0
    (subst (λ (ids : List TroveId). EndsAs (spec.BringAll c.args.resolve c.args.opened.now.catalogue.troves c.args.opened.now.db.installed c.in_ok-config.config ids) (Err c.in_err-troves.field-0.0)) c.get.ensures c.in_err-troves.ensures.ends) refused is)))

pub all_brought-requires : goal.all_brought-requires
all_brought-requires g c = c.requires.rules

pub update_to-requires-clause-allowed : goal.update_to-requires-clause-allowed
update_to-requires-clause-allowed g c = rw c.get-2.ensures c.in_ok-troves.ensures.allowed

pub update_to-requires-clause-rising : goal.update_to-requires-clause-rising
update_to-requires-clause-rising g c = no_carried

pub update_to-requires-clause-ready : goal.update_to-requires-clause-ready
update_to-requires-clause-ready g c =
    let configured = file_made g.T.TreeDisk.disk c.args.root.now c.read_config.new.root c.read_config.result c.read_config.ensures c.in_ok-config.config (sym c.on_root.ensures ∙ c.in_ok-config.was) in
    ready_on c.args.root.now c.read_config.new.root c.args.repo.now c.args.opened.now configured.same c.requires

pub returns-clause-performs : goal.returns-clause-performs
returns-clause-performs g c = λ input.
    let old = disks c.args.root.now c.args.repo.now c.args.opened.now in
    let mid = disks c.read_config.new.root c.args.repo.now c.args.opened.now in
    let new = disks c.update_to.new.root c.update_to.new.repo c.update_to.new.opened in
    let configured = file_made g.T.TreeDisk.disk c.args.root.now c.read_config.new.root c.read_config.result c.read_config.ensures c.in_ok-config.config (sym c.on_root.ensures ∙ c.in_ok-config.was) in
    performs_since g.met.T.TreeDisk.laws g.met.P.TreeDisk.laws c.store_laws.ensures old mid new
    (root_read g.met.T.TreeDisk.laws g.met.P.TreeDisk.laws c.args.root.now c.read_config.new.root c.args.repo.now c.args.opened.now configured.later configured.same) c.update_to.result
    (update.update_to c.args.options.now [] c.in_ok-troves.troves) (spec.update_specs c.args.options.now c.args.resolve c.args.givens.now) input input
    (λ told repo_told s stands outcome is. all_updated c.stored_state.ensures.catalogue c.distinct_databases.ensures.unique c.args.options.now c.args.resolve c.args.givens.now old c.requires c.in_ok-config.config configured.ends told repo_told s stands c.in_ok-ids.ids c.in_ok-ids.ensures c.in_ok-troves.troves (rw c.get.ensures at c.in_ok-troves.ensures.ends) outcome is)
    (rw c.get-2.ensures at c.update_to.ensures.performs input)

pub returns-in_err-config-clause-repo_read : goal.returns-in_err-config-clause-repo_read
returns-in_err-config-clause-repo_read g c = λ told. nothing_done g.met.P.TreeDisk.laws c.args.repo.now

pub returns-in_err-ids-clause-repo_read : goal.returns-in_err-ids-clause-repo_read
returns-in_err-ids-clause-repo_read g c = λ told. nothing_done g.met.P.TreeDisk.laws c.args.repo.now

pub returns-in_err-troves-clause-repo_read : goal.returns-in_err-troves-clause-repo_read
returns-in_err-troves-clause-repo_read g c = λ told. nothing_done g.met.P.TreeDisk.laws c.args.repo.now

pub returns-clause-repo_read : goal.returns-clause-repo_read
returns-clause-repo_read g c = c.update_to.ensures.repo_read

-- ---- by what was read when the disks were opened, and the contents that stand whole

pub returns-in_err-config-clause-whole : goal.returns-in_err-config-clause-whole
returns-in_err-config-clause-whole g c = λ input.
    let meaning = spec.update_specs c.args.options.now c.args.resolve c.args.givens.now in
    let old = disks c.args.root.now c.args.repo.now c.args.opened.now in
    let mid = disks c.read_config.new.root c.args.repo.now c.args.opened.now in
    err_is (AnswersByContents g.T.TreeDisk.disk g.P.TreeDisk.disk meaning input old mid) c.from_residual.result c.in_err-config.field-0.0 c.from_residual.ensures.1
    (opened_contents meaning input old mid (Err c.in_err-config.field-0.0)
    (file_stopped_opened g.met.T.TreeDisk.laws g.met.P.TreeDisk.laws c.store_laws.ensures meaning input configuration c.args.root.now c.read_config.new.root c.args.repo.now c.args.opened.now c.requires
    (λ s refused has. inr (record { refusal = refused; refused = has; is = refl }))
    c.read_config.result c.read_config.ensures c.in_err-config.field-0.0 (sym c.on_root.ensures ∙ c.in_err-config.was)))

pub returns-in_err-ids-clause-whole : goal.returns-in_err-ids-clause-whole
returns-in_err-ids-clause-whole g c = λ input.
    let meaning = spec.update_specs c.args.options.now c.args.resolve c.args.givens.now in
    let old = disks c.args.root.now c.args.repo.now c.args.opened.now in
    let mid = disks c.read_config.new.root c.args.repo.now c.args.opened.now in
    let configured = file_made g.T.TreeDisk.disk c.args.root.now c.read_config.new.root c.read_config.result c.read_config.ensures c.in_ok-config.config (sym c.on_root.ensures ∙ c.in_ok-config.was) in
    err_is (AnswersByContents g.T.TreeDisk.disk g.P.TreeDisk.disk meaning input old mid) c.from_residual-in_err-ids.result (failure_of_fault c.in_err-ids.field-0.0) c.from_residual-in_err-ids.ensures.1
    (fault_whole g.met.T.TreeDisk.laws meaning input old mid c.requires configured.same (λ told. refl) c.in_err-ids.field-0.0
    (λ refused is told s has. unmeant_on s c.args.opened.now.catalogue.troves c.args.opened.now.db.installed (ap (λ (k : CatalogueParts). k.troves) (sym has.catalogue)) (ap (λ (d : Db). d.installed) (sym has.database)) c.args.options.now c.args.resolve c.args.givens.now c.in_ok-config.config (file_opened configuration c.args.root.now c.args.opened.now (Ok c.in_ok-config.config) (configured.ends told) s has) refused
    (refused_as (spec.MeanAll c.args.opened.now.catalogue.troves c.in_ok-config.config c.args.givens.now) c.in_err-ids.field-0.0 c.in_err-ids.ensures refused is)))

pub returns-in_err-troves-clause-whole : goal.returns-in_err-troves-clause-whole
returns-in_err-troves-clause-whole g c = λ input.
    let meaning = spec.update_specs c.args.options.now c.args.resolve c.args.givens.now in
    let old = disks c.args.root.now c.args.repo.now c.args.opened.now in
    let mid = disks c.read_config.new.root c.args.repo.now c.args.opened.now in
    let configured = file_made g.T.TreeDisk.disk c.args.root.now c.read_config.new.root c.read_config.result c.read_config.ensures c.in_ok-config.config (sym c.on_root.ensures ∙ c.in_ok-config.was) in
    err_is (AnswersByContents g.T.TreeDisk.disk g.P.TreeDisk.disk meaning input old mid) c.from_residual-in_err-troves.result (failure_of_fault c.in_err-troves.field-0.0) c.from_residual-in_err-troves.ensures.1
    (fault_whole g.met.T.TreeDisk.laws meaning input old mid c.requires configured.same (λ told. refl) c.in_err-troves.field-0.0
    (λ refused is told s has. unbrought_on s c.args.opened.now.catalogue.troves c.args.opened.now.db.installed (ap (λ (k : CatalogueParts). k.troves) (sym has.catalogue)) (ap (λ (d : Db). d.installed) (sym has.database)) c.args.options.now c.args.resolve c.args.givens.now c.in_ok-config.config (file_opened configuration c.args.root.now c.args.opened.now (Ok c.in_ok-config.config) (configured.ends told) s has) c.in_ok-ids.ids c.in_ok-ids.ensures refused
    (refused_as (spec.BringAll c.args.resolve c.args.opened.now.catalogue.troves c.args.opened.now.db.installed c.in_ok-config.config c.in_ok-ids.ids) c.in_err-troves.field-0.0
    (subst (λ (ids : List TroveId). EndsAs (spec.BringAll c.args.resolve c.args.opened.now.catalogue.troves c.args.opened.now.db.installed c.in_ok-config.config ids) (Err c.in_err-troves.field-0.0)) c.get.ensures c.in_err-troves.ensures.ends) refused is)))

pub returns-clause-whole : goal.returns-clause-whole
returns-clause-whole g c = λ input.
    let old = disks c.args.root.now c.args.repo.now c.args.opened.now in
    let mid = disks c.read_config.new.root c.args.repo.now c.args.opened.now in
    let new = disks c.update_to.new.root c.update_to.new.repo c.update_to.new.opened in
    let configured = file_made g.T.TreeDisk.disk c.args.root.now c.read_config.new.root c.read_config.result c.read_config.ensures c.in_ok-config.config (sym c.on_root.ensures ∙ c.in_ok-config.was) in
    contents_since g.met.T.TreeDisk.laws (update.update_to c.args.options.now [] c.in_ok-troves.troves) (spec.update_specs c.args.options.now c.args.resolve c.args.givens.now) input input old mid new c.update_to.result c.requires
    (root_read g.met.T.TreeDisk.laws g.met.P.TreeDisk.laws c.args.root.now c.read_config.new.root c.args.repo.now c.args.opened.now configured.later configured.same) refl
    (λ told s has outcome is. updated_on s c.args.opened.now.catalogue.troves c.args.opened.now.db.installed (ap (λ (k : CatalogueParts). k.troves) (sym has.catalogue)) (ap (λ (d : Db). d.installed) (sym has.database)) c.args.options.now c.args.resolve c.args.givens.now c.in_ok-config.config (file_opened configuration c.args.root.now c.args.opened.now (Ok c.in_ok-config.config) (configured.ends told) s has) c.in_ok-ids.ids c.in_ok-ids.ensures c.in_ok-troves.troves (rw c.get.ensures at c.in_ok-troves.ensures.ends) outcome is)
    (rw c.get-2.ensures at c.update_to.ensures.whole input)
