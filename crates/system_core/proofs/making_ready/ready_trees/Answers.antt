use Rattle.system_core.specs.Ready.{Readies}
use Rattle.system_core.proofs.MadeReady.{not_opened, readies_so}
use Rattle.local_db.proofs.cny-base.Passing.{err_is}
use Rattle.system_core.proofs.making_ready.ready_trees.Goals as goal

pub returns-in_err-recover_root : goal.returns-in_err-recover_root
returns-in_err-recover_root g c =
    let disk = g.T.TreeDisk.disk in
    let e = c.in_err-recover_root.field-0.0 in
    err_is (Readies disk c.args.root.now c.recover_root.new.root) c.from_residual.result e c.from_residual.ensures.1
    (not_opened disk c.args.root.now c.recover_root.new.root e c.in_err-recover_root.ensures)

pub load_migrated-requires : goal.load_migrated-requires
load_migrated-requires g c = λ tells. (c.in_ok-recover_root.ensures.opened tells).rests

pub returns : goal.returns
returns g c = readies_so g.met.T.TreeDisk.laws c.args.root.now c.recover_root.new.root c.load_migrated.new.root c.in_ok-recover_root.ensures c.load_migrated.result c.load_migrated.ensures
