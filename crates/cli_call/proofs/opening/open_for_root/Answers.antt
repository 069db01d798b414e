use Rattle.cli_call.specs.Runs.{OpensForRoot}
use Rattle.cli_call.proofs.BothDisks.{root_stopped, repository_stopped, both_for_root}
use Rattle.local_db.proofs.cny-base.Passing.{err_is}
use Rattle.cli_call.proofs.opening.open_for_root.Goals as goal

pub returns-in_err-kept : goal.returns-in_err-kept
returns-in_err-kept g c =
    err_is (OpensForRoot g.T.TreeDisk.disk g.P.TreeDisk.disk c.args.root.now c.open_root.new.root c.args.repo.now c.args.repo.now) c.from_residual.result c.in_err-kept.field-0.0 c.from_residual.ensures.1
    (root_stopped c.args.root.now c.open_root.new.root c.args.repo.now c.open_root.result c.on_root.result c.in_err-kept.field-0.0 c.on_root.ensures c.in_err-kept.was c.open_root.ensures)

pub returns-in_err-on_repository : goal.returns-in_err-on_repository
returns-in_err-on_repository g c =
    err_is (OpensForRoot g.T.TreeDisk.disk g.P.TreeDisk.disk c.args.root.now c.open_root.new.root c.args.repo.now c.test_repository.new.repo) c.from_residual-in_err-on_repository.result c.in_err-on_repository.field-0.0 c.from_residual-in_err-on_repository.ensures.1
    (repository_stopped c.args.root.now c.open_root.new.root c.args.repo.now c.test_repository.new.repo c.open_root.result c.on_root.result c.in_ok-kept.kept c.on_root.ensures c.in_ok-kept.was c.open_root.ensures
    c.test_repository.result c.on_repository.result c.in_err-on_repository.field-0.0 c.on_repository.ensures c.in_err-on_repository.was c.test_repository.ensures)

pub returns : goal.returns
returns g c =
    both_for_root c.args.root.now c.open_root.new.root c.args.repo.now c.test_repository.new.repo c.open_root.result c.on_root.result c.in_ok-kept.kept c.on_root.ensures c.in_ok-kept.was c.open_root.ensures
    c.test_repository.result c.on_repository.result c.in_ok-on_repository.field-0 c.on_repository.ensures c.in_ok-on_repository.was c.test_repository.ensures c.new.result c.new.ensures
