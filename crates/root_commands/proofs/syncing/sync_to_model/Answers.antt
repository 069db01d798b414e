use Rattle.std.proofs.Common.{Ok, Err, sym, ◌∙◌, inl, inr, refl}
use Rattle.cli_call.specs.Alone.{AnswersByContents}
use Rattle.cli_call.specs.Command.{disks, Performs}
use Rattle.cli_call.proofs.OpenedEnds.{contents_since, opened_contents}
use Rattle.cli_call.proofs.AfterReading.{performs_since}
use Rattle.cli_call.proofs.ReadingEnds.{configuration, file_at, file_made, file_opened, file_stopped, file_stopped_opened, ready_on, root_read}
use Rattle.cli_call.proofs.StoreLaws.{nothing_done}
use Rattle.root_commands.specs.Syncing as spec
use Rattle.local_db.proofs.cny-base.Passing.{err_is}
use Rattle.root_commands.proofs.syncing.sync_to_model.Goals as goal

pub returns-in_err-config-clause-performs : goal.returns-in_err-config-clause-performs
returns-in_err-config-clause-performs g c = λ input.
    let meaning = spec.sync c.args.options.now in
    let old = disks c.args.root.now c.args.repo.now c.args.opened.now in
    let mid = disks c.read_config.new.root c.args.repo.now c.args.opened.now in
    err_is (Performs g.T.TreeDisk.disk g.P.TreeDisk.disk meaning input old mid) c.from_residual.result c.in_err-config.field-0.0 c.from_residual.ensures.1
    (file_stopped g.met.T.TreeDisk.laws g.met.P.TreeDisk.laws c.store_laws.ensures meaning input configuration c.args.root.now c.read_config.new.root c.args.repo.now c.args.opened.now c.requires
    (λ s refused has. inr (record { refusal = refused; refused = has; is = refl }))
    c.read_config.result c.read_config.ensures c.in_err-config.field-0.0 (sym c.on_root.ensures ∙ c.in_err-config.was))

pub sync_with-requires : goal.sync_with-requires
sync_with-requires g c =
    let told = file_made g.T.TreeDisk.disk c.args.root.now c.read_config.new.root c.read_config.result c.read_config.ensures c.in_ok-config.config (sym c.on_root.ensures ∙ c.in_ok-config.was) in
    ready_on c.args.root.now c.read_config.new.root c.args.repo.now c.args.opened.now told.same c.requires

pub returns-clause-performs : goal.returns-clause-performs
returns-clause-performs g c = λ input.
    let old = disks c.args.root.now c.args.repo.now c.args.opened.now in
    let mid = disks c.read_config.new.root c.args.repo.now c.args.opened.now in
    let new = disks c.sync_with.new.root c.sync_with.new.repo c.sync_with.new.opened in
    let config = c.in_ok-config.config in
    let read = file_made g.T.TreeDisk.disk c.args.root.now c.read_config.new.root c.read_config.result c.read_config.ensures config (sym c.on_root.ensures ∙ c.in_ok-config.was) in
    performs_since g.met.T.TreeDisk.laws g.met.P.TreeDisk.laws c.store_laws.ensures old mid new
    (root_read g.met.T.TreeDisk.laws g.met.P.TreeDisk.laws c.args.root.now c.read_config.new.root c.args.repo.now c.args.opened.now read.later read.same) c.sync_with.result
    (spec.sync_with c.args.options.now config) (spec.sync c.args.options.now) input input
    (λ told repo_told s stands outcome is. inl (record { value = config; found = file_at configuration old (Ok config) (read.ends told) s stands; rest = is }))
    (c.sync_with.ensures.performs input)

pub returns-in_err-config-clause-repo_read : goal.returns-in_err-config-clause-repo_read
returns-in_err-config-clause-repo_read g c = λ told. nothing_done g.met.P.TreeDisk.laws c.args.repo.now

pub returns-clause-repo_read : goal.returns-clause-repo_read
returns-clause-repo_read g c = c.sync_with.ensures.repo_read

-- ---- by what was read when the disks were opened, and the contents that stand whole

pub returns-in_err-config-clause-whole : goal.returns-in_err-config-clause-whole
returns-in_err-config-clause-whole g c = λ input.
    let meaning = spec.sync c.args.options.now in
    let old = disks c.args.root.now c.args.repo.now c.args.opened.now in
    let mid = disks c.read_config.new.root c.args.repo.now c.args.opened.now in
    err_is (AnswersByContents g.T.TreeDisk.disk g.P.TreeDisk.disk meaning input old mid) c.from_residual.result c.in_err-config.field-0.0 c.from_residual.ensures.1
    (opened_contents meaning input old mid (Err c.in_err-config.field-0.0)
    (file_stopped_opened g.met.T.TreeDisk.laws g.met.P.TreeDisk.laws c.store_laws.ensures meaning input configuration c.args.root.now c.read_config.new.root c.args.repo.now c.args.opened.now c.requires
    (λ s refused has. inr (record { refusal = refused; refused = has; is = refl }))
    c.read_config.result c.read_config.ensures c.in_err-config.field-0.0 (sym c.on_root.ensures ∙ c.in_err-config.was)))

pub returns-clause-whole : goal.returns-clause-whole
returns-clause-whole g c = λ input.
    let old = disks c.args.root.now c.args.repo.now c.args.opened.now in
    let mid = disks c.read_config.new.root c.args.repo.now c.args.opened.now in
    let new = disks c.sync_with.new.root c.sync_with.new.repo c.sync_with.new.opened in
    let config = c.in_ok-config.config in
    let read = file_made g.T.TreeDisk.disk c.args.root.now c.read_config.new.root c.read_config.result c.read_config.ensures config (sym c.on_root.ensures ∙ c.in_ok-config.was) in
    contents_since g.met.T.TreeDisk.laws (spec.sync_with c.args.options.now config) (spec.sync c.args.options.now) input input old mid new c.sync_with.result c.requires
    (root_read g.met.T.TreeDisk.laws g.met.P.TreeDisk.laws c.args.root.now c.read_config.new.root c.args.repo.now c.args.opened.now read.later read.same) refl
    (λ told s has outcome is. inl (record { value = config; found = file_opened configuration c.args.root.now c.args.opened.now (Ok config) (read.ends told) s has; rest = is }))
    (c.sync_with.ensures.whole input)
