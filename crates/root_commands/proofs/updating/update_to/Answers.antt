use Rattle.std.proofs.Common.{◌≡◌, Ok, Err, sym, ap, ◌∙◌, rules, subst}
use Rattle.cny_report.specs.Jobs.{changes_text}
use Rattle.repo_load.specs.RepoContents.{repo_contents}
use Rattle.cli_call.proofs.Again.{on_done, ready_changed, ready_far, ready_rests}
use Rattle.cli_call.specs.Alone.{AnswersByContents}
use Rattle.cli_call.specs.Command.{disks, AreReady, Performs}
use Rattle.cli_call.specs.cny-laws.declared.failure.Failure.TheVariants as failure
use Rattle.cli_call.specs.cny-laws.declared.opened.Opened.{Opened}
use Rattle.cli_call.specs.system-core.Job.{sources_of}
use Rattle.cli_call.specs.system-core.Lists.{to_updated}
use Rattle.root_commands.specs.Update as spec
use Rattle.root_commands.proofs.FarJobs.{RanFar, RepositoryLaws, failed_performs, memory_performs, performed_at, ready_at, told_performs}
use Rattle.root_commands.proofs.JobOpened.{updated_out}
use Rattle.root_commands.proofs.SpecifiedEnds.{reads_refused}
use Rattle.root_commands.proofs.WholeJobs.{failed_whole, told_whole, untold_whole, whole_at}
use Rattle.local_db.proofs.cny-base.Passing.{err_is}
use Rattle.cli_call.proofs.CommandLaws.{read_lent}
use Rattle.root_commands.proofs.updating.update_to.Goals as goal

pub returns-in_err-done-clause-performs : goal.returns-in_err-done-clause-performs
returns-in_err-done-clause-performs g c = λ input.
    let disk = g.T.TreeDisk.disk in
    let repo_disk = g.P.TreeDisk.disk in
    let root = c.args.root.now in
    let root' = c.update.new.root in
    let far = c.new-far.result in
    let far' = c.update.new.far in
    let opened = c.args.opened.now in
    let opened' : Opened = record { db = c.update.new.db; catalogue = opened.catalogue } in
    let options = c.args.options.now in
    let carried = c.args.carried.now in
    let troves = c.args.troves.now in
    let laws : RepositoryLaws = record { catalogue = c.stored_state.ensures.catalogue; content = c.stored_state.ensures.content; contents = c.stored_state.ensures.contents; store = c.store_laws.ensures } in
    let ran : RanFar disk repo_disk options carried (spec.with_come troves) root root' far far' c.update.new.db c.update.result = record {
      ends = c.update.ensures.ends;
      rests = λ told. ready_rests _ _ _ c.update.result (c.update.ensures.again told);
      refused = λ told. reads_refused g.met.T.TreeDisk.laws (sources_of carried (let contents = repo_contents repo_disk in contents.answers far) options) (to_updated opened.db.installed troves) opened.db root root' c.update.new.db c.update.result c.update.ensures.answers told;
      causes = c.update.ensures.causes;
      later = c.update.ensures.later;
      searched = c.update.ensures.searches.searched;
    } in
    let ready = ready_at root root' opened opened' far.disk.now c.args.repo.now c.new-far.ensures.disk c.requires.ready in
    let name = c.update.ensures.searches.searched.same_disk ∙ c.new-far.ensures.same_disk in
    let given = c.repo-1.given in
    let after : far'.disk.now ≡ c.repo-1.given.0 = search rules in
    let meaning = spec.update_to options carried troves in
    err_is (Performs disk repo_disk meaning input (disks root c.args.repo.now opened) (disks root' c.repo-1.given.0 opened')) c.from_residual.result c.in_err-done.field-0.0 c.from_residual.ensures.1
    (performed_at root root' opened opened' meaning input (Err c.in_err-done.field-0.0) far.disk.now c.args.repo.now far'.disk.now c.repo-1.given.0 c.new-far.ensures.disk after
    (failed_performs g.met.T.TreeDisk.laws g.met.P.TreeDisk.laws c.distinct_databases.ensures.unique laws root root' far far' opened opened' c.new-far.ensures.catalogue ready options carried (spec.with_come troves) input c.update.result c.in_err-done.field-0.0 (sym c.on_root.ensures ∙ c.in_err-done.was) ran))

pub returns-in_err-changes_text-clause-performs : goal.returns-in_err-changes_text-clause-performs
returns-in_err-changes_text-clause-performs g c = λ input.
    let disk = g.T.TreeDisk.disk in
    let repo_disk = g.P.TreeDisk.disk in
    let root = c.args.root.now in
    let root' = c.update.new.root in
    let far = c.new-far.result in
    let far' = c.update.new.far in
    let opened = c.args.opened.now in
    let opened' : Opened = record { db = c.update.new.db; catalogue = opened.catalogue } in
    let options = c.args.options.now in
    let carried = c.args.carried.now in
    let troves = c.args.troves.now in
    let laws : RepositoryLaws = record { catalogue = c.stored_state.ensures.catalogue; content = c.stored_state.ensures.content; contents = c.stored_state.ensures.contents; store = c.store_laws.ensures } in
    let ran : RanFar disk repo_disk options carried (spec.with_come troves) root root' far far' c.update.new.db c.update.result = record {
      ends = c.update.ensures.ends;
      rests = λ told. ready_rests _ _ _ c.update.result (c.update.ensures.again told);
      refused = λ told. reads_refused g.met.T.TreeDisk.laws (sources_of carried (let contents = repo_contents repo_disk in contents.answers far) options) (to_updated opened.db.installed troves) opened.db root root' c.update.new.db c.update.result c.update.ensures.answers told;
      causes = c.update.ensures.causes;
      later = c.update.ensures.later;
      searched = c.update.ensures.searches.searched;
    } in
    let ready = ready_at root root' opened opened' far.disk.now c.args.repo.now c.new-far.ensures.disk c.requires.ready in
    let name = c.update.ensures.searches.searched.same_disk ∙ c.new-far.ensures.same_disk in
    let given = c.repo-1.given in
    let after : far'.disk.now ≡ c.repo-1.given.0 = search rules in
    let meaning = spec.update_to options carried troves in
    err_is (Performs disk repo_disk meaning input (disks root c.args.repo.now opened) (disks root' c.repo-1.given.0 opened')) c.from_residual-in_err-changes_text.result failure.Memory c.from_residual-in_err-changes_text.ensures.1
    (performed_at root root' opened opened' meaning input (Err failure.Memory) far.disk.now c.args.repo.now far'.disk.now c.repo-1.given.0 c.new-far.ensures.disk after
    (memory_performs g.met.T.TreeDisk.laws g.met.P.TreeDisk.laws c.distinct_databases.ensures.unique laws root root' far far' opened opened' c.new-far.ensures.catalogue ready options carried (spec.with_come troves) input c.update.result c.in_ok-done.done (sym c.on_root.ensures ∙ c.in_ok-done.was) ran))

pub returns-clause-performs : goal.returns-clause-performs
returns-clause-performs g c = λ input.
    let disk = g.T.TreeDisk.disk in
    let repo_disk = g.P.TreeDisk.disk in
    let root = c.args.root.now in
    let root' = c.update.new.root in
    let far = c.new-far.result in
    let far' = c.update.new.far in
    let opened = c.args.opened.now in
    let opened' : Opened = record { db = c.update.new.db; catalogue = opened.catalogue } in
    let options = c.args.options.now in
    let carried = c.args.carried.now in
    let troves = c.args.troves.now in
    let laws : RepositoryLaws = record { catalogue = c.stored_state.ensures.catalogue; content = c.stored_state.ensures.content; contents = c.stored_state.ensures.contents; store = c.store_laws.ensures } in
    let ran : RanFar disk repo_disk options carried (spec.with_come troves) root root' far far' c.update.new.db c.update.result = record {
      ends = c.update.ensures.ends;
      rests = λ told. ready_rests _ _ _ c.update.result (c.update.ensures.again told);
      refused = λ told. reads_refused g.met.T.TreeDisk.laws (sources_of carried (let contents = repo_contents repo_disk in contents.answers far) options) (to_updated opened.db.installed troves) opened.db root root' c.update.new.db c.update.result c.update.ensures.answers told;
      causes = c.update.ensures.causes;
      later = c.update.ensures.later;
      searched = c.update.ensures.searches.searched;
    } in
    let ready = ready_at root root' opened opened' far.disk.now c.args.repo.now c.new-far.ensures.disk c.requires.ready in
    let name = c.update.ensures.searches.searched.same_disk ∙ c.new-far.ensures.same_disk in
    let given = c.repo-1.given in
    let after : far'.disk.now ≡ c.repo-1.given.0 = search rules in
    let meaning = spec.update_to options carried troves in
    (performed_at root root' opened opened' meaning input (Ok c.in_ok-changes_text.field-0) far.disk.now c.args.repo.now far'.disk.now c.repo-1.given.0 c.new-far.ensures.disk after
    (told_performs g.met.T.TreeDisk.laws g.met.P.TreeDisk.laws c.distinct_databases.ensures.unique laws root root' far far' opened opened' c.new-far.ensures.catalogue ready options carried (spec.with_come troves) input c.update.result c.in_ok-done.done c.in_ok-changes_text.field-0 (sym c.on_root.ensures ∙ c.in_ok-done.was) ran
    (c.in_ok-changes_text.ensures.value ∙ ap changes_text c.get.ensures)))

-- a job was done, and the repository was only read
pub returns-clause-again : goal.returns-clause-again
returns-clause-again g c =
    let root = c.args.root.now in
    let root' = c.update.new.root in
    let far = c.new-far.result in
    let far' = c.update.new.far in
    let opened = c.args.opened.now in
    let opened' : Opened = record { db = c.update.new.db; catalogue = opened.catalogue } in
    let ready = ready_at root root' opened opened' far.disk.now c.args.repo.now c.new-far.ensures.disk c.requires.ready in
    let name = c.update.ensures.searches.searched.same_disk ∙ c.new-far.ensures.same_disk in
    let given = c.repo-1.given in
    let after : far'.disk.now ≡ c.repo-1.given.0 = search rules in
    let changed = ready_changed root root' far.disk.now opened c.update.new.db c.update.result c.in_ok-done.done (sym c.on_root.ensures ∙ c.in_ok-done.was) c.update.ensures.again c.update.ensures.fixed c.update.ensures.rules ready in
    subst (λ repo. AreReady g.T.TreeDisk.disk g.P.TreeDisk.disk (disks root' repo opened')) after (ready_far root' far.disk.now far'.disk.now opened' c.update.ensures.searches.searched.same changed)

pub returns-in_err-done-clause-repo_read : goal.returns-in_err-done-clause-repo_read
returns-in_err-done-clause-repo_read g c = read_lent c.new-far.result.disk.now c.update.new.far.disk.now c.new-far.ensures.disk (c.update.ensures.searches.searched.same_disk ∙ c.new-far.ensures.same_disk) c.repo-1.given.1 c.update.ensures.searches.searched.same

pub returns-in_err-changes_text-clause-repo_read : goal.returns-in_err-changes_text-clause-repo_read
returns-in_err-changes_text-clause-repo_read g c = read_lent c.new-far.result.disk.now c.update.new.far.disk.now c.new-far.ensures.disk (c.update.ensures.searches.searched.same_disk ∙ c.new-far.ensures.same_disk) c.repo-1.given.1 c.update.ensures.searches.searched.same

pub returns-clause-repo_read : goal.returns-clause-repo_read
returns-clause-repo_read g c = read_lent c.new-far.result.disk.now c.update.new.far.disk.now c.new-far.ensures.disk (c.update.ensures.searches.searched.same_disk ∙ c.new-far.ensures.same_disk) c.repo-1.given.1 c.update.ensures.searches.searched.same

-- ---- by what was read when the disks were opened, and the contents that stand whole

pub returns-in_err-done-clause-whole : goal.returns-in_err-done-clause-whole
returns-in_err-done-clause-whole g c = λ input.
    let disk = g.T.TreeDisk.disk in
    let repo_disk = g.P.TreeDisk.disk in
    let root = c.args.root.now in
    let root' = c.update.new.root in
    let far = c.new-far.result in
    let far' = c.update.new.far in
    let opened = c.args.opened.now in
    let opened' : Opened = record { db = c.update.new.db; catalogue = opened.catalogue } in
    let options = c.args.options.now in
    let carried = c.args.carried.now in
    let troves = c.args.troves.now in
    let meaning = spec.update_to options carried troves in
    let ready = ready_at root root' opened opened' far.disk.now c.args.repo.now c.new-far.ensures.disk c.requires.ready in
    let name = c.update.ensures.searches.searched.same_disk ∙ c.new-far.ensures.same_disk in
    let given = c.repo-1.given in
    let after : far'.disk.now ≡ c.repo-1.given.0 = search rules in
    err_is (AnswersByContents disk repo_disk meaning input (disks root c.args.repo.now opened) (disks root' c.repo-1.given.0 opened')) c.from_residual.result c.in_err-done.field-0.0 c.from_residual.ensures.1
    (whole_at root root' opened opened' meaning input (Err c.in_err-done.field-0.0) far.disk.now c.args.repo.now far'.disk.now c.repo-1.given.0 c.new-far.ensures.disk after
    (failed_whole g.met.T.TreeDisk.laws root root' far far' opened opened' c.new-far.ensures.catalogue ready c.update.ensures.searches.searched options carried (spec.with_come troves)
    (λ list leads. updated_out opened.db.installed troves list (record { troves = c.requires.ready.database.installed.troves; allowed = c.requires.ready.database.installed.allowed }) (record { troves = c.troves_keep_rules.ensures; allowed = c.requires.allowed }) leads) input c.update.result c.in_err-done.field-0.0 (sym c.on_root.ensures ∙ c.in_err-done.was) c.update.ensures.answers c.update.ensures.moments))

pub returns-in_err-changes_text-clause-whole : goal.returns-in_err-changes_text-clause-whole
returns-in_err-changes_text-clause-whole g c = λ input.
    let disk = g.T.TreeDisk.disk in
    let repo_disk = g.P.TreeDisk.disk in
    let root = c.args.root.now in
    let root' = c.update.new.root in
    let far = c.new-far.result in
    let far' = c.update.new.far in
    let opened = c.args.opened.now in
    let opened' : Opened = record { db = c.update.new.db; catalogue = opened.catalogue } in
    let options = c.args.options.now in
    let carried = c.args.carried.now in
    let troves = c.args.troves.now in
    let meaning = spec.update_to options carried troves in
    let ready = ready_at root root' opened opened' far.disk.now c.args.repo.now c.new-far.ensures.disk c.requires.ready in
    let name = c.update.ensures.searches.searched.same_disk ∙ c.new-far.ensures.same_disk in
    let given = c.repo-1.given in
    let after : far'.disk.now ≡ c.repo-1.given.0 = search rules in
    err_is (AnswersByContents disk repo_disk meaning input (disks root c.args.repo.now opened) (disks root' c.repo-1.given.0 opened')) c.from_residual-in_err-changes_text.result failure.Memory c.from_residual-in_err-changes_text.ensures.1
    (whole_at root root' opened opened' meaning input (Err failure.Memory) far.disk.now c.args.repo.now far'.disk.now c.repo-1.given.0 c.new-far.ensures.disk after
    (untold_whole g.met.T.TreeDisk.laws root root' far far' opened opened' c.new-far.ensures.catalogue ready c.update.ensures.searches.searched options carried (spec.with_come troves)
    (λ list leads. updated_out opened.db.installed troves list (record { troves = c.requires.ready.database.installed.troves; allowed = c.requires.ready.database.installed.allowed }) (record { troves = c.troves_keep_rules.ensures; allowed = c.requires.allowed }) leads) input c.update.result c.in_ok-done.done (sym c.on_root.ensures ∙ c.in_ok-done.was) c.update.ensures.answers (λ told. (on_done c.update.result c.in_ok-done.done (sym c.on_root.ensures ∙ c.in_ok-done.was) (c.update.ensures.again told)).holds)))

pub returns-clause-whole : goal.returns-clause-whole
returns-clause-whole g c = λ input.
    let disk = g.T.TreeDisk.disk in
    let repo_disk = g.P.TreeDisk.disk in
    let root = c.args.root.now in
    let root' = c.update.new.root in
    let far = c.new-far.result in
    let far' = c.update.new.far in
    let opened = c.args.opened.now in
    let opened' : Opened = record { db = c.update.new.db; catalogue = opened.catalogue } in
    let options = c.args.options.now in
    let carried = c.args.carried.now in
    let troves = c.args.troves.now in
    let meaning = spec.update_to options carried troves in
    let ready = ready_at root root' opened opened' far.disk.now c.args.repo.now c.new-far.ensures.disk c.requires.ready in
    let name = c.update.ensures.searches.searched.same_disk ∙ c.new-far.ensures.same_disk in
    let given = c.repo-1.given in
    let after : far'.disk.now ≡ c.repo-1.given.0 = search rules in
    whole_at root root' opened opened' meaning input (Ok c.in_ok-changes_text.field-0) far.disk.now c.args.repo.now far'.disk.now c.repo-1.given.0 c.new-far.ensures.disk after
    (told_whole g.met.T.TreeDisk.laws root root' far far' opened opened' c.new-far.ensures.catalogue ready c.update.ensures.searches.searched options carried (spec.with_come troves)
    (λ list leads. updated_out opened.db.installed troves list (record { troves = c.requires.ready.database.installed.troves; allowed = c.requires.ready.database.installed.allowed }) (record { troves = c.troves_keep_rules.ensures; allowed = c.requires.allowed }) leads) input c.update.result c.in_ok-done.done c.in_ok-changes_text.field-0 (sym c.on_root.ensures ∙ c.in_ok-done.was) c.update.ensures.answers (λ told. (on_done c.update.result c.in_ok-done.done (sym c.on_root.ensures ∙ c.in_ok-done.was) (c.update.ensures.again told)).holds)
    (c.in_ok-changes_text.ensures.value ∙ ap changes_text c.get.ensures))
