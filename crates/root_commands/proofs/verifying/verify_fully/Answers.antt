use Rattle.std.proofs.Common.{◌≡◌, Ok, Err, sym, ◌∙◌, rules, subst}
use Rattle.cli_call.proofs.Again.{ready_both}
use Rattle.cli_call.specs.Alone.{AnswersByContents}
use Rattle.cli_call.specs.Command.{disks, AreReady, Performs}
use Rattle.cli_call.specs.cny-laws.declared.failure.Failure.TheVariants as failure
use Rattle.root_commands.specs.Verifying as spec
use Rattle.root_commands.proofs.FullEnds.{failed_performs, failed_whole, memory_performs, memory_whole, performed_at, ready_at, told_performs, told_whole, VerifyingLaws}
use Rattle.root_commands.proofs.WholeJobs.{whole_at}
use Rattle.local_db.proofs.cny-base.Passing.{err_is}
use Rattle.cli_call.proofs.CommandLaws.{read_lent}
use Rattle.root_commands.proofs.verifying.verify_fully.Goals as goal

pub returns-in_err-found-clause-performs : goal.returns-in_err-found-clause-performs
returns-in_err-found-clause-performs g c = λ input.
    let root = c.args.root.now in
    let root' = c.verify.new.root in
    let far = c.new-contents.result in
    let far' = c.verify.new.far in
    let opened = c.args.opened.now in
    let names = c.args.names.now in
    let laws : VerifyingLaws = record { catalogue = c.stored_state.ensures.catalogue; contents = c.stored_state.ensures.contents; store = c.store_laws.ensures } in
    let ready = ready_at root opened far.disk.now c.args.repo.now c.new-contents.ensures.disk c.requires in
    let name = c.verify.ensures.verified.keeps.searched.same_disk ∙ c.new-contents.ensures.same_disk in
    let given = c.repo-1.given in
    let after : far'.disk.now ≡ c.repo-1.given.0 = search rules in
    err_is (Performs g.T.TreeDisk.disk g.P.TreeDisk.disk (spec.verify_fully names) input (disks root c.args.repo.now opened) (disks root' c.repo-1.given.0 opened)) c.from_residual.result c.in_err-found.field-0.0 c.from_residual.ensures.1
    (performed_at root opened names input root' (Err c.in_err-found.field-0.0) far.disk.now c.args.repo.now far'.disk.now c.repo-1.given.0 c.new-contents.ensures.disk after
    (failed_performs g.met.T.TreeDisk.laws g.met.P.TreeDisk.laws c.distinct_databases.ensures.unique laws names input root root' far far' opened c.new-contents.ensures.catalogue ready c.verify.result c.in_err-found.field-0.0 (sym c.on_root.ensures ∙ c.in_err-found.was) c.verify.ensures.verified))

pub returns-in_err-verified_text-clause-performs : goal.returns-in_err-verified_text-clause-performs
returns-in_err-verified_text-clause-performs g c = λ input.
    let root = c.args.root.now in
    let root' = c.verify.new.root in
    let far = c.new-contents.result in
    let far' = c.verify.new.far in
    let opened = c.args.opened.now in
    let names = c.args.names.now in
    let laws : VerifyingLaws = record { catalogue = c.stored_state.ensures.catalogue; contents = c.stored_state.ensures.contents; store = c.store_laws.ensures } in
    let ready = ready_at root opened far.disk.now c.args.repo.now c.new-contents.ensures.disk c.requires in
    let name = c.verify.ensures.verified.keeps.searched.same_disk ∙ c.new-contents.ensures.same_disk in
    let given = c.repo-1.given in
    let after : far'.disk.now ≡ c.repo-1.given.0 = search rules in
    err_is (Performs g.T.TreeDisk.disk g.P.TreeDisk.disk (spec.verify_fully names) input (disks root c.args.repo.now opened) (disks root' c.repo-1.given.0 opened)) c.from_residual-in_err-verified_text.result failure.Memory c.from_residual-in_err-verified_text.ensures.1
    (performed_at root opened names input root' (Err failure.Memory) far.disk.now c.args.repo.now far'.disk.now c.repo-1.given.0 c.new-contents.ensures.disk after
    (memory_performs g.met.T.TreeDisk.laws g.met.P.TreeDisk.laws c.distinct_databases.ensures.unique laws names input root root' far far' opened c.new-contents.ensures.catalogue ready c.verify.result c.verify.ensures.verified))

pub returns-clause-performs : goal.returns-clause-performs
returns-clause-performs g c = λ input.
    let root = c.args.root.now in
    let root' = c.verify.new.root in
    let far = c.new-contents.result in
    let far' = c.verify.new.far in
    let opened = c.args.opened.now in
    let names = c.args.names.now in
    let laws : VerifyingLaws = record { catalogue = c.stored_state.ensures.catalogue; contents = c.stored_state.ensures.contents; store = c.store_laws.ensures } in
    let ready = ready_at root opened far.disk.now c.args.repo.now c.new-contents.ensures.disk c.requires in
    let name = c.verify.ensures.verified.keeps.searched.same_disk ∙ c.new-contents.ensures.same_disk in
    let given = c.repo-1.given in
    let after : far'.disk.now ≡ c.repo-1.given.0 = search rules in
    (performed_at root opened names input root' (Ok c.in_ok-verified_text.field-0) far.disk.now c.args.repo.now far'.disk.now c.repo-1.given.0 c.new-contents.ensures.disk after
    (told_performs g.met.T.TreeDisk.laws g.met.P.TreeDisk.laws c.distinct_databases.ensures.unique laws names input root root' far far' opened c.new-contents.ensures.catalogue ready c.verify.result c.in_ok-found.found c.in_ok-verified_text.field-0 (sym c.on_root.ensures ∙ c.in_ok-found.was) c.verify.ensures.verified
    c.verify.ensures.mapped c.verify.ensures.installed c.in_ok-verified_text.ensures.value))

-- both disks were only read
pub returns-clause-again : goal.returns-clause-again
returns-clause-again g c =
    let root = c.args.root.now in
    let root' = c.verify.new.root in
    let far = c.new-contents.result in
    let far' = c.verify.new.far in
    let opened = c.args.opened.now in
    let ready = ready_at root opened far.disk.now c.args.repo.now c.new-contents.ensures.disk c.requires in
    let name = c.verify.ensures.verified.keeps.searched.same_disk ∙ c.new-contents.ensures.same_disk in
    let given = c.repo-1.given in
    let after : far'.disk.now ≡ c.repo-1.given.0 = search rules in
    subst (λ repo. AreReady g.T.TreeDisk.disk g.P.TreeDisk.disk (disks root' repo opened)) after
    (ready_both root root' far.disk.now far'.disk.now opened c.verify.ensures.verified.same c.verify.ensures.verified.keeps.searched.same ready)

-- of the root, and of the repository
pub returns-in_err-found-clause-root_read : goal.returns-in_err-found-clause-root_read
returns-in_err-found-clause-root_read g c = c.verify.ensures.verified.same

pub returns-in_err-verified_text-clause-root_read : goal.returns-in_err-verified_text-clause-root_read
returns-in_err-verified_text-clause-root_read g c = c.verify.ensures.verified.same

pub returns-clause-root_read : goal.returns-clause-root_read
returns-clause-root_read g c = c.verify.ensures.verified.same

pub returns-in_err-found-clause-repo_read : goal.returns-in_err-found-clause-repo_read
returns-in_err-found-clause-repo_read g c = read_lent c.new-contents.result.disk.now c.verify.new.far.disk.now c.new-contents.ensures.disk (c.verify.ensures.verified.keeps.searched.same_disk ∙ c.new-contents.ensures.same_disk) c.repo-1.given.1 c.verify.ensures.verified.keeps.searched.same

pub returns-in_err-verified_text-clause-repo_read : goal.returns-in_err-verified_text-clause-repo_read
returns-in_err-verified_text-clause-repo_read g c = read_lent c.new-contents.result.disk.now c.verify.new.far.disk.now c.new-contents.ensures.disk (c.verify.ensures.verified.keeps.searched.same_disk ∙ c.new-contents.ensures.same_disk) c.repo-1.given.1 c.verify.ensures.verified.keeps.searched.same

pub returns-clause-repo_read : goal.returns-clause-repo_read
returns-clause-repo_read g c = read_lent c.new-contents.result.disk.now c.verify.new.far.disk.now c.new-contents.ensures.disk (c.verify.ensures.verified.keeps.searched.same_disk ∙ c.new-contents.ensures.same_disk) c.repo-1.given.1 c.verify.ensures.verified.keeps.searched.same

-- by what was read when the disks were opened, and the contents that stand whole
pub returns-in_err-found-clause-whole : goal.returns-in_err-found-clause-whole
returns-in_err-found-clause-whole g c = λ input.
    let root = c.args.root.now in
    let root' = c.verify.new.root in
    let far = c.new-contents.result in
    let far' = c.verify.new.far in
    let opened = c.args.opened.now in
    let names = c.args.names.now in
    let meaning = spec.verify_fully names in
    let ready = ready_at root opened far.disk.now c.args.repo.now c.new-contents.ensures.disk c.requires in
    let name = c.verify.ensures.verified.keeps.searched.same_disk ∙ c.new-contents.ensures.same_disk in
    let given = c.repo-1.given in
    let after : far'.disk.now ≡ c.repo-1.given.0 = search rules in
    err_is (AnswersByContents g.T.TreeDisk.disk g.P.TreeDisk.disk meaning input (disks root c.args.repo.now opened) (disks root' c.repo-1.given.0 opened)) c.from_residual.result c.in_err-found.field-0.0 c.from_residual.ensures.1
    (whole_at root root' opened opened meaning input (Err c.in_err-found.field-0.0) far.disk.now c.args.repo.now far'.disk.now c.repo-1.given.0 c.new-contents.ensures.disk after
    (failed_whole g.met.T.TreeDisk.laws names input root root' far far' opened c.new-contents.ensures.catalogue ready c.verify.result c.in_err-found.field-0.0 (sym c.on_root.ensures ∙ c.in_err-found.was) c.verify.ensures.verified))

pub returns-in_err-verified_text-clause-whole : goal.returns-in_err-verified_text-clause-whole
returns-in_err-verified_text-clause-whole g c = λ input.
    let root = c.args.root.now in
    let root' = c.verify.new.root in
    let far = c.new-contents.result in
    let far' = c.verify.new.far in
    let opened = c.args.opened.now in
    let names = c.args.names.now in
    let meaning = spec.verify_fully names in
    let ready = ready_at root opened far.disk.now c.args.repo.now c.new-contents.ensures.disk c.requires in
    let name = c.verify.ensures.verified.keeps.searched.same_disk ∙ c.new-contents.ensures.same_disk in
    let given = c.repo-1.given in
    let after : far'.disk.now ≡ c.repo-1.given.0 = search rules in
    err_is (AnswersByContents g.T.TreeDisk.disk g.P.TreeDisk.disk meaning input (disks root c.args.repo.now opened) (disks root' c.repo-1.given.0 opened)) c.from_residual-in_err-verified_text.result failure.Memory c.from_residual-in_err-verified_text.ensures.1
    (whole_at root root' opened opened meaning input (Err failure.Memory) far.disk.now c.args.repo.now far'.disk.now c.repo-1.given.0 c.new-contents.ensures.disk after
    (memory_whole g.met.T.TreeDisk.laws names input root root' far far' opened c.new-contents.ensures.catalogue ready c.verify.result c.verify.ensures.verified))

pub returns-clause-whole : goal.returns-clause-whole
returns-clause-whole g c = λ input.
    let root = c.args.root.now in
    let root' = c.verify.new.root in
    let far = c.new-contents.result in
    let far' = c.verify.new.far in
    let opened = c.args.opened.now in
    let names = c.args.names.now in
    let meaning = spec.verify_fully names in
    let ready = ready_at root opened far.disk.now c.args.repo.now c.new-contents.ensures.disk c.requires in
    let name = c.verify.ensures.verified.keeps.searched.same_disk ∙ c.new-contents.ensures.same_disk in
    let given = c.repo-1.given in
    let after : far'.disk.now ≡ c.repo-1.given.0 = search rules in
    whole_at root root' opened opened meaning input (Ok c.in_ok-verified_text.field-0) far.disk.now c.args.repo.now far'.disk.now c.repo-1.given.0 c.new-contents.ensures.disk after
    (told_whole g.met.T.TreeDisk.laws names input root root' far far' opened c.new-contents.ensures.catalogue ready c.verify.result c.in_ok-found.found c.in_ok-verified_text.field-0 (sym c.on_root.ensures ∙ c.in_ok-found.was) c.verify.ensures.verified
    c.verify.ensures.installed c.in_ok-verified_text.ensures.value)
