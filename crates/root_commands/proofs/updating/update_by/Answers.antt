use Rattle.std.proofs.Common.{refl, ap, sym}
use Rattle.local_db.specs.declared.db.Db.{Db}
use Rattle.cli_call.specs.Alone.{AnswersByContents}
use Rattle.cli_call.specs.Command.{disks, Performs}
use Rattle.cli_call.proofs.OpenedEnds.{contents_more, fault_whole}
use Rattle.cli_call.proofs.CommandLaws.{none_read}
use Rattle.cli_call.specs.cny-laws.Failures.{failure_of_fault}
use Rattle.cli_call.proofs.AfterReading.{performs_since}
use Rattle.cli_call.proofs.ReadingEnds.{fault_ends}
use Rattle.root_commands.specs.Update as spec
use Rattle.root_commands.proofs.ComingEnds.{made_on, refused_on, set_made, set_refused}
use Rattle.local_db.proofs.cny-base.Passing.{err_is}
use Rattle.cli_call.proofs.StoreLaws.{nothing_done}
use Rattle.root_commands.proofs.updating.update_by.Goals as goal

pub returns-in_err-troves-clause-performs : goal.returns-in_err-troves-clause-performs
returns-in_err-troves-clause-performs g c = λ input.
    let m = disks c.args.root.now c.args.repo.now c.args.opened.now in
    let meaning = spec.update_by c.args.options.now c.args.set.now in
    err_is (Performs g.T.TreeDisk.disk g.P.TreeDisk.disk meaning input m m) c.from_residual.result (failure_of_fault c.in_err-troves.field-0.0) c.from_residual.ensures.1
    (fault_ends g.met.T.TreeDisk.laws g.met.P.TreeDisk.laws c.store_laws.ensures meaning input m m c.requires.ready (none_read g.met.T.TreeDisk.laws g.met.P.TreeDisk.laws m m refl refl) c.in_err-troves.field-0.0
    (λ refused is told repo_told s stands. set_refused c.distinct_databases.ensures.unique m c.requires.ready told s stands c.args.options.now c.args.set.now c.in_err-troves.field-0.0 (rw c.get.ensures at c.in_err-troves.ensures.refused) refused is))

pub returns-clause-performs : goal.returns-clause-performs
returns-clause-performs g c = λ input.
    let old = disks c.args.root.now c.args.repo.now c.args.opened.now in
    let new = disks c.update_to.new.root c.update_to.new.repo c.update_to.new.opened in
    performs_since g.met.T.TreeDisk.laws g.met.P.TreeDisk.laws c.store_laws.ensures old old new (none_read g.met.T.TreeDisk.laws g.met.P.TreeDisk.laws old old refl refl) c.update_to.result
    (spec.update_to c.args.options.now c.args.set.now.contents c.in_ok-troves.troves) (spec.update_by c.args.options.now c.args.set.now) input input
    (λ told repo_told s stands outcome is. set_made c.distinct_databases.ensures.unique old c.requires.ready told s stands c.args.options.now c.args.set.now c.in_ok-troves.troves (rw c.get.ensures at c.in_ok-troves.ensures.made) outcome is)
    (rw (c.get-2.ensures, c.get-3.ensures) at c.update_to.ensures.performs input)

pub update_to-requires-clause-allowed : goal.update_to-requires-clause-allowed
update_to-requires-clause-allowed g c = rw c.get-2.ensures c.in_ok-troves.ensures.made.allowed

pub returns-in_err-troves-clause-repo_read : goal.returns-in_err-troves-clause-repo_read
returns-in_err-troves-clause-repo_read g c = λ told. nothing_done g.met.P.TreeDisk.laws c.args.repo.now

pub returns-clause-repo_read : goal.returns-clause-repo_read
returns-clause-repo_read g c = c.update_to.ensures.repo_read

-- ---- by what was read when the disks were opened, and the contents that stand whole

pub returns-in_err-troves-clause-whole : goal.returns-in_err-troves-clause-whole
returns-in_err-troves-clause-whole g c = λ input.
    let m = disks c.args.root.now c.args.repo.now c.args.opened.now in
    let meaning = spec.update_by c.args.options.now c.args.set.now in
    err_is (AnswersByContents g.T.TreeDisk.disk g.P.TreeDisk.disk meaning input m m) c.from_residual.result (failure_of_fault c.in_err-troves.field-0.0) c.from_residual.ensures.1
    (fault_whole g.met.T.TreeDisk.laws meaning input m m c.requires.ready (λ told. nothing_done g.met.T.TreeDisk.laws c.args.root.now) (λ told. refl) c.in_err-troves.field-0.0
    (λ refused is told s has. refused_on s c.args.opened.now.db.installed (ap (λ (d : Db). d.installed) (sym has.database)) c.args.options.now c.args.set.now c.in_err-troves.field-0.0 (rw c.get.ensures at c.in_err-troves.ensures.refused) refused is))

pub returns-clause-whole : goal.returns-clause-whole
returns-clause-whole g c = λ input.
    let old = disks c.args.root.now c.args.repo.now c.args.opened.now in
    let new = disks c.update_to.new.root c.update_to.new.repo c.update_to.new.opened in
    contents_more (spec.update_to c.args.options.now c.args.set.now.contents c.in_ok-troves.troves) (spec.update_by c.args.options.now c.args.set.now) input input old new c.update_to.result
    (λ s has outcome is. made_on s c.args.opened.now.db.installed (ap (λ (d : Db). d.installed) (sym has.database)) c.args.options.now c.args.set.now c.in_ok-troves.troves (rw c.get.ensures at c.in_ok-troves.ensures.made) outcome is)
    (rw (c.get-2.ensures, c.get-3.ensures) at c.update_to.ensures.whole input)
