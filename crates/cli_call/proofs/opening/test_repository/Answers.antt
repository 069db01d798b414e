use Rattle.std.proofs.Common.{subst, refl, arith}
use Rattle.repo_load.specs.Loading.{HoldsSomeCatalogue}
use Rattle.cny_laws.specs.Opening.{no_test, Opens}
use Rattle.cny_laws.specs.system-core.tree-disk.Tree.{Tree}
use Rattle.cny_laws.specs.system-core.tree-journal.Recovered.{RecoversAt}
use Rattle.cny_laws.specs.Stores.{repository_store}
use Rattle.cli_call.proofs.OpeningDisks.{opens_stopped}
use Rattle.cli_call.proofs.LoadingRepository.{loaded_opens}
use Rattle.cli_call.proofs.StoreLaws.{nothing_done}
use Rattle.local_db.proofs.cny-base.Passing.{err_is}
use Rattle.cli_call.proofs.opening.test_repository.Goals as goal

abbrev Tested : Tree → Unit {0} → Type 0
Tested tree done = HoldsSomeCatalogue tree

pub returns-in_err-recover_disk : goal.returns-in_err-recover_disk
returns-in_err-recover_disk g c =
    let disk = g.P.TreeDisk.disk in
    err_is (Opens repository_store disk no_test Tested c.args.repo.now c.recover_disk.new.disk) c.from_residual-in_err-recover_disk.result c.in_err-recover_disk.field-0.0 c.from_residual-in_err-recover_disk.ensures.1
    (opens_stopped repository_store g.met.P.TreeDisk.laws c.args.repo.now c.args.repo.now c.recover_disk.new.disk c.recover_disk.result c.in_err-recover_disk.field-0.0 c.in_err-recover_disk.was (λ told. nothing_done g.met.P.TreeDisk.laws c.args.repo.now) (λ told. refl) (omega arith)
    (subst (λ p. RecoversAt disk p c.args.repo.now c.recover_disk.new.disk c.recover_disk.result) c.in_ok-base.ensures c.recover_disk.ensures))

pub returns : goal.returns
returns g c =
    let disk = g.P.TreeDisk.disk in
    loaded_opens Tested g.met.P.TreeDisk.laws c.args.repo.now c.recover_disk.new.disk c.tested.new.disk c.recover_disk.result c.in_ok-recover_disk.field-0 c.tested.result c.in_ok-recover_disk.was
    (subst (λ p. RecoversAt disk p c.args.repo.now c.recover_disk.new.disk c.recover_disk.result) c.in_ok-base.ensures c.recover_disk.ensures) c.tested.ensures
