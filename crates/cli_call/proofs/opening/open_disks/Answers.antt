use Rattle.cli_call.specs.Runs.{OpensBoth}
use Rattle.cli_call.proofs.BothDisks.{root_stopped, repository_stopped, both_opened}
use Rattle.local_db.proofs.cny-base.Passing.{err_is}
use Rattle.cli_call.proofs.opening.open_disks.Goals as goal

pub returns-in_err-db : goal.returns-in_err-db
returns-in_err-db g c =
    err_is (OpensBoth g.T.TreeDisk.disk g.P.TreeDisk.disk c.args.root.now c.open_root.new.root c.args.repo.now c.args.repo.now) c.from_residual.result c.in_err-db.field-0.0 c.from_residual.ensures.1
    (root_stopped c.args.root.now c.open_root.new.root c.args.repo.now c.open_root.result c.on_root.result c.in_err-db.field-0.0 c.on_root.ensures c.in_err-db.was c.open_root.ensures)

pub returns-in_err-catalogue : goal.returns-in_err-catalogue
returns-in_err-catalogue g c =
    err_is (OpensBoth g.T.TreeDisk.disk g.P.TreeDisk.disk c.args.root.now c.open_root.new.root c.args.repo.now c.open_repository.new.repo) c.from_residual-in_err-catalogue.result c.in_err-catalogue.field-0.0 c.from_residual-in_err-catalogue.ensures.1
    (repository_stopped c.args.root.now c.open_root.new.root c.args.repo.now c.open_repository.new.repo c.open_root.result c.on_root.result c.in_ok-db.db c.on_root.ensures c.in_ok-db.was c.open_root.ensures
    c.open_repository.result c.on_repository.result c.in_err-catalogue.field-0.0 c.on_repository.ensures c.in_err-catalogue.was c.open_repository.ensures.opens)

pub returns : goal.returns
returns g c =
    both_opened c.args.root.now c.open_root.new.root c.args.repo.now c.open_repository.new.repo c.open_root.result c.on_root.result c.in_ok-db.db c.on_root.ensures c.in_ok-db.was c.open_root.ensures
    c.open_repository.result c.on_repository.result c.in_ok-catalogue.catalogue c.on_repository.ensures c.in_ok-catalogue.was c.open_repository.ensures.opens c.open_repository.ensures.rules
