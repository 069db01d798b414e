use Rattle.std.proofs.Common.{subst}
use Rattle.rollback_stack.specs.cny-base.declared.stop.Stop.TheVariants as stop
use Rattle.system_core.specs.Opening.{RecoversRoot}
use Rattle.tree_journal.specs.Recovered.{RecoversAt}
use Rattle.system_core.proofs.Opened.{checked_opens, opens_read, tests_stopped}
use Rattle.local_db.proofs.cny-base.Passing.{err_is}
use Rattle.system_core.proofs.opening.recover_root.Goals as goal

pub returns-in_err-check_fixed_dirs : goal.returns-in_err-check_fixed_dirs
returns-in_err-check_fixed_dirs g c =
    let disk = g.T.TreeDisk.disk in
    err_is (RecoversRoot disk c.args.root.now c.check_fixed_dirs.new.root) c.from_residual.result c.in_err-check_fixed_dirs.field-0.0 c.from_residual.ensures.1
    (tests_stopped g.met.T.TreeDisk.laws c.args.root.now c.check_fixed_dirs.new.root c.in_err-check_fixed_dirs.field-0.0 c.in_err-check_fixed_dirs.ensures.tests c.in_err-check_fixed_dirs.ensures.refuses)

pub returns-in_err-directory : goal.returns-in_err-directory
returns-in_err-directory g c =
    let disk = g.T.TreeDisk.disk in
    err_is (RecoversRoot disk c.args.root.now c.check_fixed_dirs.new.root) c.from_residual-in_err-directory.result stop.Memory c.from_residual-in_err-directory.ensures.1
    (opens_read g.met.T.TreeDisk.laws c.args.root.now c.check_fixed_dirs.new.root stop.Memory c.in_ok-check_fixed_dirs.ensures.tests.later c.in_ok-check_fixed_dirs.ensures.tests.same tt)

pub returns : goal.returns
returns g c =
    let disk = g.T.TreeDisk.disk in
    checked_opens g.met.T.TreeDisk.laws c.args.root.now c.check_fixed_dirs.new.root c.recover_disk.new.disk c.recover_disk.result c.in_ok-check_fixed_dirs.ensures.tests
    (subst (λ p. RecoversAt disk p c.check_fixed_dirs.new.root c.recover_disk.new.disk c.recover_disk.result) c.in_ok-directory.ensures c.recover_disk.ensures)
