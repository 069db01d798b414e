use Rattle.std.proofs.Common.{false}
use Rattle.std.proofs.lemmas.Bool.{false≢true}
use Rattle.cli_call.specs.Alone.{ActsOnRepository, AnswersByContents}
use Rattle.cli_call.specs.Command.{disks}
use Rattle.cli_call.specs.cny-laws.Failures.{failure_of_fault}
use Rattle.cli_call.proofs.OpenedEnds.{files_kept}
use Rattle.repo_commands.specs.Cook.{cook}
use Rattle.repo_commands.proofs.CookEnds.{cooked, cooked_whole, no_set, no_set_whole, not_read, not_read_whole}
use Rattle.repo_commands.proofs.MadeVersions.{made_have_one}
use Rattle.cny_version.proofs.cny-base.Passing.{err_is}
use Rattle.repo_commands.proofs.cooking.cook_manifest.Goals as goal

pub returns-in_err-made-clause-performs : goal.returns-in_err-made-clause-performs
returns-in_err-made-clause-performs g c =
    let m = disks c.args.root.now c.args.repo.now c.args.opened.now in
    err_is (ActsOnRepository g.T.TreeDisk.disk g.P.TreeDisk.disk (cook c.args.next) c.args.input.now m m) c.from_residual.result (failure_of_fault c.in_err-made.field-0.0) c.from_residual.ensures.1
    (not_read g.met.P.TreeDisk.laws c.store_laws.ensures c.stored_state.ensures.catalogue c.args.next c.args.input.now m c.requires c.in_err-made.field-0.0 c.in_err-made.ensures.refused)

pub cooked_set-requires-clause-version : goal.cooked_set-requires-clause-version
cooked_set-requires-clause-version g c = made_have_one c.args.input.now c.in_ok-made.made c.in_ok-made.ensures.value

pub returns-in_err-set-clause-performs : goal.returns-in_err-set-clause-performs
returns-in_err-set-clause-performs g c =
    let m = disks c.args.root.now c.args.repo.now c.args.opened.now in
    err_is (ActsOnRepository g.T.TreeDisk.disk g.P.TreeDisk.disk (cook c.args.next) c.args.input.now m m) c.from_residual-in_err-set.result (failure_of_fault c.in_err-set.field-0.0) c.from_residual-in_err-set.ensures.1
    (no_set g.met.P.TreeDisk.laws c.store_laws.ensures c.stored_state.ensures.catalogue c.args.next c.args.input.now m c.requires c.in_ok-made.made c.in_ok-made.ensures.value c.in_err-set.field-0.0 c.in_err-set.ensures.fault)

pub returns-clause-performs : goal.returns-clause-performs
returns-clause-performs g c =
    let old = disks c.args.root.now c.args.repo.now c.args.opened.now in
    let new = disks c.args.root.now c.commit_set.new.repo c.commit_set.new.opened in
    cooked g.met.P.TreeDisk.laws c.store_laws.ensures c.stored_state.ensures.catalogue c.args.next c.args.input.now old c.requires c.in_ok-made.made c.in_ok-made.ensures.value
    c.in_ok-set.set c.in_ok-set.ensures.value new c.commit_set.result (c.commit_set.ensures.performs c.args.input.now)

pub returns-in_err-made-clause-whole : goal.returns-in_err-made-clause-whole
returns-in_err-made-clause-whole g c =
    let m = disks c.args.root.now c.args.repo.now c.args.opened.now in
    err_is (AnswersByContents g.T.TreeDisk.disk g.P.TreeDisk.disk (cook c.args.next) c.args.input.now m m) c.from_residual.result (failure_of_fault c.in_err-made.field-0.0) c.from_residual.ensures.1
    (not_read_whole g.met.T.TreeDisk.laws c.args.next c.args.input.now m c.requires c.in_err-made.field-0.0 c.in_err-made.ensures.refused)

pub returns-in_err-set-clause-whole : goal.returns-in_err-set-clause-whole
returns-in_err-set-clause-whole g c =
    let m = disks c.args.root.now c.args.repo.now c.args.opened.now in
    err_is (AnswersByContents g.T.TreeDisk.disk g.P.TreeDisk.disk (cook c.args.next) c.args.input.now m m) c.from_residual-in_err-set.result (failure_of_fault c.in_err-set.field-0.0) c.from_residual-in_err-set.ensures.1
    (no_set_whole g.met.T.TreeDisk.laws c.args.next c.args.input.now m c.requires c.in_ok-made.made c.in_ok-made.ensures.value c.in_err-set.field-0.0 c.in_err-set.ensures.fault)

pub returns-clause-whole : goal.returns-clause-whole
returns-clause-whole g c =
    let old = disks c.args.root.now c.args.repo.now c.args.opened.now in
    let new = disks c.args.root.now c.commit_set.new.repo c.commit_set.new.opened in
    cooked_whole g.met.T.TreeDisk.laws c.args.next c.args.input.now old c.requires c.in_ok-made.made c.in_ok-made.ensures.value
    c.in_ok-set.set c.in_ok-set.ensures.value new c.commit_set.result (c.commit_set.ensures.whole c.args.input.now)

-- ---- what stays

pub returns-in_err-made-clause-files : goal.returns-in_err-made-clause-files
returns-in_err-made-clause-files g c = files_kept g.met.P.TreeDisk.laws c.args.opened.now.catalogue false c.args.repo.now

pub returns-in_err-set-clause-files : goal.returns-in_err-set-clause-files
returns-in_err-set-clause-files g c = files_kept g.met.P.TreeDisk.laws c.args.opened.now.catalogue false c.args.repo.now

pub returns-clause-files : goal.returns-clause-files
returns-clause-files g c = c.commit_set.ensures.files false (λ is. absurd (false≢true is))
