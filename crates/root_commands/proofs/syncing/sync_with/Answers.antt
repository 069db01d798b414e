use Rattle.std.proofs.Common.{Ok, Err, sym, ◌∙◌, inl, inr, refl}
use Rattle.cli_call.specs.Alone.{AnswersByContents}
use Rattle.cli_call.specs.Command.{disks, Performs}
use Rattle.cli_call.proofs.OpenedEnds.{contents_since, opened_contents}
use Rattle.cli_call.proofs.AfterReading.{performs_since}
use Rattle.cli_call.proofs.ReadingEnds.{file_at, file_made, file_opened, file_stopped, file_stopped_opened, ready_on, root_read}
use Rattle.cli_call.proofs.StoreLaws.{nothing_done}
use Rattle.root_commands.specs.Syncing as spec
use Rattle.root_commands.proofs.SyncEnds.{model_text}
use Rattle.local_db.proofs.cny-base.Passing.{err_is}
use Rattle.root_commands.proofs.syncing.sync_with.Goals as goal

pub returns-in_err-model-clause-performs : goal.returns-in_err-model-clause-performs
returns-in_err-model-clause-performs g c = λ input.
    let meaning = spec.sync_with c.args.options.now c.args.config.now in
    let old = disks c.args.root.now c.args.repo.now c.args.opened.now in
    let mid = disks c.read_model.new.root c.args.repo.now c.args.opened.now in
    err_is (Performs g.T.TreeDisk.disk g.P.TreeDisk.disk meaning input old mid) c.from_residual.result c.in_err-model.field-0.0 c.from_residual.ensures.1
    (file_stopped g.met.T.TreeDisk.laws g.met.P.TreeDisk.laws c.store_laws.ensures meaning input model_text c.args.root.now c.read_model.new.root c.args.repo.now c.args.opened.now c.requires
    (λ s refused has. inr (record { refusal = refused; refused = has; is = refl }))
    c.read_model.result c.read_model.ensures c.in_err-model.field-0.0 (sym c.on_root.ensures ∙ c.in_err-model.was))

pub adopt_wanted-requires : goal.adopt_wanted-requires
adopt_wanted-requires g c =
    let told = file_made g.T.TreeDisk.disk c.args.root.now c.read_model.new.root c.read_model.result c.read_model.ensures c.in_ok-model.model (sym c.on_root.ensures ∙ c.in_ok-model.was) in
    ready_on c.args.root.now c.read_model.new.root c.args.repo.now c.args.opened.now told.same c.requires

pub returns-clause-performs : goal.returns-clause-performs
returns-clause-performs g c = λ input.
    let old = disks c.args.root.now c.args.repo.now c.args.opened.now in
    let mid = disks c.read_model.new.root c.args.repo.now c.args.opened.now in
    let new = disks c.adopt_wanted.new.root c.adopt_wanted.new.repo c.adopt_wanted.new.opened in
    let model = c.in_ok-model.model in
    let read = file_made g.T.TreeDisk.disk c.args.root.now c.read_model.new.root c.read_model.result c.read_model.ensures model (sym c.on_root.ensures ∙ c.in_ok-model.was) in
    performs_since g.met.T.TreeDisk.laws g.met.P.TreeDisk.laws c.store_laws.ensures old mid new
    (root_read g.met.T.TreeDisk.laws g.met.P.TreeDisk.laws c.args.root.now c.read_model.new.root c.args.repo.now c.args.opened.now read.later read.same) c.adopt_wanted.result
    (spec.adopt_wanted c.args.options.now c.args.config.now model) (spec.sync_with c.args.options.now c.args.config.now) input input
    (λ told repo_told s stands outcome is. inl (record { value = model; found = file_at model_text old (Ok model) (read.ends told) s stands; rest = is }))
    (c.adopt_wanted.ensures.performs input)

pub returns-in_err-model-clause-repo_read : goal.returns-in_err-model-clause-repo_read
returns-in_err-model-clause-repo_read g c = λ told. nothing_done g.met.P.TreeDisk.laws c.args.repo.now

pub returns-clause-repo_read : goal.returns-clause-repo_read
returns-clause-repo_read g c = c.adopt_wanted.ensures.repo_read

-- ---- by what was read when the disks were opened, and the contents that stand whole

pub returns-in_err-model-clause-whole : goal.returns-in_err-model-clause-whole
returns-in_err-model-clause-whole g c = λ input.
    let meaning = spec.sync_with c.args.options.now c.args.config.now in
    let old = disks c.args.root.now c.args.repo.now c.args.opened.now in
    let mid = disks c.read_model.new.root c.args.repo.now c.args.opened.now in
    err_is (AnswersByContents g.T.TreeDisk.disk g.P.TreeDisk.disk meaning input old mid) c.from_residual.result c.in_err-model.field-0.0 c.from_residual.ensures.1
    (opened_contents meaning input old mid (Err c.in_err-model.field-0.0)
    (file_stopped_opened g.met.T.TreeDisk.laws g.met.P.TreeDisk.laws c.store_laws.ensures meaning input model_text c.args.root.now c.read_model.new.root c.args.repo.now c.args.opened.now c.requires
    (λ s refused has. inr (record { refusal = refused; refused = has; is = refl }))
    c.read_model.result c.read_model.ensures c.in_err-model.field-0.0 (sym c.on_root.ensures ∙ c.in_err-model.was)))

pub returns-clause-whole : goal.returns-clause-whole
returns-clause-whole g c = λ input.
    let old = disks c.args.root.now c.args.repo.now c.args.opened.now in
    let mid = disks c.read_model.new.root c.args.repo.now c.args.opened.now in
    let new = disks c.adopt_wanted.new.root c.adopt_wanted.new.repo c.adopt_wanted.new.opened in
    let model = c.in_ok-model.model in
    let read = file_made g.T.TreeDisk.disk c.args.root.now c.read_model.new.root c.read_model.result c.read_model.ensures model (sym c.on_root.ensures ∙ c.in_ok-model.was) in
    contents_since g.met.T.TreeDisk.laws (spec.adopt_wanted c.args.options.now c.args.config.now model) (spec.sync_with c.args.options.now c.args.config.now) input input old mid new c.adopt_wanted.result c.requires
    (root_read g.met.T.TreeDisk.laws g.met.P.TreeDisk.laws c.args.root.now c.read_model.new.root c.args.repo.now c.args.opened.now read.later read.same) refl
    (λ told s has outcome is. inl (record { value = model; found = file_opened model_text c.args.root.now c.args.opened.now (Ok model) (read.ends told) s has; rest = is }))
    (c.adopt_wanted.ensures.whole input)
