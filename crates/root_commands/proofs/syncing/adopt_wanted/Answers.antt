use Rattle.std.proofs.Common.{ap, refl, sym}
use Rattle.repo_index.specs.Catalogue.{CatalogueParts}
use Rattle.cli_call.specs.Alone.{AnswersByContents}
use Rattle.cli_call.specs.Command.{disks, Performs}
use Rattle.cli_call.proofs.OpenedEnds.{contents_more, fault_whole}
use Rattle.cli_call.specs.cny-laws.Failures.{failure_of_fault}
use Rattle.cli_call.proofs.AfterReading.{performs_since}
use Rattle.cli_call.proofs.CommandLaws.{none_read}
use Rattle.cli_call.proofs.ReadingEnds.{fault_ends}
use Rattle.cli_call.proofs.StoreLaws.{nothing_done}
use Rattle.sys_model.specs.Wanted.{Wants}
use Rattle.root_commands.specs.Syncing as spec
use Rattle.root_commands.proofs.SpecEnds.{all_allowed, refused_as}
use Rattle.root_commands.proofs.SyncEnds.{adopted_on, list_adopted, none_wanted, unwanted_on}
use Rattle.local_db.proofs.cny-base.Passing.{err_is}
use Rattle.root_commands.proofs.syncing.adopt_wanted.Goals as goal

pub returns-in_err-list-clause-performs : goal.returns-in_err-list-clause-performs
returns-in_err-list-clause-performs g c = λ input.
    let m = disks c.args.root.now c.args.repo.now c.args.opened.now in
    let config = c.args.config.now in
    let model = c.args.model.now in
    let meaning = spec.adopt_wanted c.args.options.now config model in
    err_is (Performs g.T.TreeDisk.disk g.P.TreeDisk.disk meaning input m m) c.from_residual.result (failure_of_fault c.in_err-list.field-0.0) c.from_residual.ensures.1
    (fault_ends g.met.T.TreeDisk.laws g.met.P.TreeDisk.laws c.store_laws.ensures meaning input m m c.requires (none_read g.met.T.TreeDisk.laws g.met.P.TreeDisk.laws m m refl refl) c.in_err-list.field-0.0
    (λ refused is told repo_told s stands. none_wanted c.stored_state.ensures.catalogue c.args.options.now config model m c.requires repo_told s stands refused
    (refused_as (Wants c.args.opened.now.catalogue.troves config model.lines) c.in_err-list.field-0.0 c.in_err-list.ensures.ends refused is)))

pub adopt_list-requires-clause-allowed : goal.adopt_list-requires-clause-allowed
adopt_list-requires-clause-allowed g c = all_allowed c.args.opened.now.catalogue c.requires.rules c.in_ok-list.list c.in_ok-list.ensures.committed

pub returns-clause-performs : goal.returns-clause-performs
returns-clause-performs g c = λ input.
    let old = disks c.args.root.now c.args.repo.now c.args.opened.now in
    let new = disks c.adopt_list.new.root c.adopt_list.new.repo c.adopt_list.new.opened in
    let config = c.args.config.now in
    let model = c.args.model.now in
    performs_since g.met.T.TreeDisk.laws g.met.P.TreeDisk.laws c.store_laws.ensures old old new (none_read g.met.T.TreeDisk.laws g.met.P.TreeDisk.laws old old refl refl) c.adopt_list.result
    (spec.adopt_list c.args.options.now c.in_ok-list.list) (spec.adopt_wanted c.args.options.now config model) input input
    (λ told repo_told s stands outcome is. list_adopted c.stored_state.ensures.catalogue c.args.options.now config model old c.requires repo_told s stands c.in_ok-list.list c.in_ok-list.ensures.ends outcome is)
    (c.adopt_list.ensures.performs input)

pub returns-in_err-list-clause-repo_read : goal.returns-in_err-list-clause-repo_read
returns-in_err-list-clause-repo_read g c = λ told. nothing_done g.met.P.TreeDisk.laws c.args.repo.now

pub returns-clause-repo_read : goal.returns-clause-repo_read
returns-clause-repo_read g c = c.adopt_list.ensures.repo_read

-- ---- by what was read when the disks were opened, and the contents that stand whole

pub returns-in_err-list-clause-whole : goal.returns-in_err-list-clause-whole
returns-in_err-list-clause-whole g c = λ input.
    let m = disks c.args.root.now c.args.repo.now c.args.opened.now in
    let config = c.args.config.now in
    let model = c.args.model.now in
    let meaning = spec.adopt_wanted c.args.options.now config model in
    err_is (AnswersByContents g.T.TreeDisk.disk g.P.TreeDisk.disk meaning input m m) c.from_residual.result (failure_of_fault c.in_err-list.field-0.0) c.from_residual.ensures.1
    (fault_whole g.met.T.TreeDisk.laws meaning input m m c.requires (λ told. nothing_done g.met.T.TreeDisk.laws c.args.root.now) (λ told. refl) c.in_err-list.field-0.0
    (λ refused is told s has. unwanted_on s c.args.opened.now.catalogue.troves (ap (λ (k : CatalogueParts). k.troves) (sym has.catalogue)) c.args.options.now config model refused
    (refused_as (Wants c.args.opened.now.catalogue.troves config model.lines) c.in_err-list.field-0.0 c.in_err-list.ensures.ends refused is)))

pub returns-clause-whole : goal.returns-clause-whole
returns-clause-whole g c = λ input.
    let old = disks c.args.root.now c.args.repo.now c.args.opened.now in
    let new = disks c.adopt_list.new.root c.adopt_list.new.repo c.adopt_list.new.opened in
    let config = c.args.config.now in
    let model = c.args.model.now in
    contents_more (spec.adopt_list c.args.options.now c.in_ok-list.list) (spec.adopt_wanted c.args.options.now config model) input input old new c.adopt_list.result
    (λ s has outcome is. adopted_on s c.args.opened.now.catalogue.troves (ap (λ (k : CatalogueParts). k.troves) (sym has.catalogue)) c.args.options.now config model c.in_ok-list.list c.in_ok-list.ensures.ends outcome is)
    (c.adopt_list.ensures.whole input)
