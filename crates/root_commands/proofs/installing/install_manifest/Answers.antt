use Rattle.std.proofs.Common.{refl}
use Rattle.cli_call.specs.Alone.{AnswersByOpened, PerformsAlone}
use Rattle.cli_call.proofs.AloneLaws.{alone_more}
use Rattle.cli_call.proofs.OpenedEnds.{fault_opened, opened_more}
use Rattle.cli_call.proofs.StoreLaws.{nothing_done}
use Rattle.cli_call.specs.Command.{disks, Performs}
use Rattle.cli_call.proofs.CommandLaws.{performs_more}
use Rattle.cli_call.specs.cny-laws.Failures.{failure_of_fault}
use Rattle.root_commands.specs.Install.{install, install_made}
use Rattle.root_commands.proofs.InstallEnds.{fault_alone, fault_performs, installs_more, reserved_refuses, unread_refuses}
use Rattle.local_db.proofs.cny-base.Passing.{err_is}
use Rattle.root_commands.proofs.installing.install_manifest.Goals as goal

pub returns-in_err-made-clause-performs : goal.returns-in_err-made-clause-performs
returns-in_err-made-clause-performs g c =
    err_is (Performs g.T.TreeDisk.disk g.P.TreeDisk.disk (install c.args.options.now) c.args.input.now (disks c.args.root.now c.args.repo.now c.args.opened.now) (disks c.args.root.now c.args.repo.now c.args.opened.now)) c.from_residual.result (failure_of_fault c.in_err-made.field-0.0) c.from_residual.ensures.1
    (fault_performs g.P.TreeDisk.disk g.met.T.TreeDisk.laws c.args.options.now c.args.input.now c.args.root.now c.args.repo.now c.args.opened.now c.in_err-made.field-0.0 (unread_refuses c.args.options.now c.args.input.now c.in_err-made.field-0.0 c.in_err-made.ensures.refused) g.met.P.TreeDisk.laws c.store_laws.ensures c.requires)

pub returns-in_err-check_allowed-clause-performs : goal.returns-in_err-check_allowed-clause-performs
returns-in_err-check_allowed-clause-performs g c =
    err_is (Performs g.T.TreeDisk.disk g.P.TreeDisk.disk (install c.args.options.now) c.args.input.now (disks c.args.root.now c.args.repo.now c.args.opened.now) (disks c.args.root.now c.args.repo.now c.args.opened.now)) c.from_residual-in_err-check_allowed.result (failure_of_fault c.in_err-check_allowed.field-0.0) c.from_residual-in_err-check_allowed.ensures.1
    (fault_performs g.P.TreeDisk.disk g.met.T.TreeDisk.laws c.args.options.now c.args.input.now c.args.root.now c.args.repo.now c.args.opened.now c.in_err-check_allowed.field-0.0
    (reserved_refuses c.args.options.now c.args.input.now c.in_ok-made.made c.in_ok-made.ensures.value c.in_err-check_allowed.field-0.0 (rw c.get.ensures at c.in_err-check_allowed.ensures.reserved)) g.met.P.TreeDisk.laws c.store_laws.ensures c.requires)

pub returns-clause-performs : goal.returns-clause-performs
returns-clause-performs g c = performs_more (install_made c.args.options.now c.in_ok-made.made) (install c.args.options.now) c.args.input.now c.args.input.now (installs_more c.args.options.now c.args.input.now c.in_ok-made.made c.in_ok-made.ensures.value c.get.ensures (c.in_ok-check_allowed.ensures.allowed.0 refl)) _ _ _ (c.install_made.ensures.performs c.args.input.now)

pub returns-in_err-made-clause-alone : goal.returns-in_err-made-clause-alone
returns-in_err-made-clause-alone g c =
    err_is (PerformsAlone g.T.TreeDisk.disk g.P.TreeDisk.disk (install c.args.options.now) c.args.input.now (disks c.args.root.now c.args.repo.now c.args.opened.now) (disks c.args.root.now c.args.repo.now c.args.opened.now)) c.from_residual.result (failure_of_fault c.in_err-made.field-0.0) c.from_residual.ensures.1
    (fault_alone g.P.TreeDisk.disk g.met.T.TreeDisk.laws c.args.options.now c.args.input.now c.args.root.now c.args.repo.now c.args.opened.now c.in_err-made.field-0.0 (unread_refuses c.args.options.now c.args.input.now c.in_err-made.field-0.0 c.in_err-made.ensures.refused))

pub returns-in_err-check_allowed-clause-alone : goal.returns-in_err-check_allowed-clause-alone
returns-in_err-check_allowed-clause-alone g c =
    err_is (PerformsAlone g.T.TreeDisk.disk g.P.TreeDisk.disk (install c.args.options.now) c.args.input.now (disks c.args.root.now c.args.repo.now c.args.opened.now) (disks c.args.root.now c.args.repo.now c.args.opened.now)) c.from_residual-in_err-check_allowed.result (failure_of_fault c.in_err-check_allowed.field-0.0) c.from_residual-in_err-check_allowed.ensures.1
    (fault_alone g.P.TreeDisk.disk g.met.T.TreeDisk.laws c.args.options.now c.args.input.now c.args.root.now c.args.repo.now c.args.opened.now c.in_err-check_allowed.field-0.0
    (reserved_refuses c.args.options.now c.args.input.now c.in_ok-made.made c.in_ok-made.ensures.value c.in_err-check_allowed.field-0.0 (rw c.get.ensures at c.in_err-check_allowed.ensures.reserved)))

pub returns-clause-alone : goal.returns-clause-alone
returns-clause-alone g c = alone_more (install_made c.args.options.now c.in_ok-made.made) (install c.args.options.now) c.args.input.now c.args.input.now (installs_more c.args.options.now c.args.input.now c.in_ok-made.made c.in_ok-made.ensures.value c.get.ensures (c.in_ok-check_allowed.ensures.allowed.0 refl)) _ _ _ (c.install_made.ensures.alone c.args.input.now)

pub install_made-requires-clause-allowed : goal.install_made-requires-clause-allowed
install_made-requires-clause-allowed g c = let allowed = c.in_ok-check_allowed.ensures.allowed.0 refl in rw c.get.ensures at allowed

-- ---- by what was read when the disks were opened

pub returns-in_err-made-clause-opened : goal.returns-in_err-made-clause-opened
returns-in_err-made-clause-opened g c =
    let m = disks c.args.root.now c.args.repo.now c.args.opened.now in
    let means = install c.args.options.now in
    let f = c.in_err-made.field-0.0 in
    err_is (AnswersByOpened g.T.TreeDisk.disk g.P.TreeDisk.disk means c.args.input.now m m) c.from_residual.result (failure_of_fault f) c.from_residual.ensures.1
    (fault_opened g.met.T.TreeDisk.laws means c.args.input.now m m c.requires (λ told. nothing_done g.met.T.TreeDisk.laws c.args.root.now) (λ told. refl) f (λ refused is told s has. unread_refuses c.args.options.now c.args.input.now f c.in_err-made.ensures.refused refused is s))

pub returns-in_err-check_allowed-clause-opened : goal.returns-in_err-check_allowed-clause-opened
returns-in_err-check_allowed-clause-opened g c =
    let m = disks c.args.root.now c.args.repo.now c.args.opened.now in
    let means = install c.args.options.now in
    let f = c.in_err-check_allowed.field-0.0 in
    err_is (AnswersByOpened g.T.TreeDisk.disk g.P.TreeDisk.disk means c.args.input.now m m) c.from_residual-in_err-check_allowed.result (failure_of_fault f) c.from_residual-in_err-check_allowed.ensures.1
    (fault_opened g.met.T.TreeDisk.laws means c.args.input.now m m c.requires (λ told. nothing_done g.met.T.TreeDisk.laws c.args.root.now) (λ told. refl) f
    (λ refused is told s has. reserved_refuses c.args.options.now c.args.input.now c.in_ok-made.made c.in_ok-made.ensures.value f (rw c.get.ensures at c.in_err-check_allowed.ensures.reserved) refused is s))

pub returns-clause-opened : goal.returns-clause-opened
returns-clause-opened g c = opened_more (install_made c.args.options.now c.in_ok-made.made) (install c.args.options.now) c.args.input.now c.args.input.now (installs_more c.args.options.now c.args.input.now c.in_ok-made.made c.in_ok-made.ensures.value c.get.ensures (c.in_ok-check_allowed.ensures.allowed.0 refl)) (disks c.args.root.now c.args.repo.now c.args.opened.now) (disks c.install_made.new.root c.args.repo.now c.install_made.new.opened) c.install_made.result (c.install_made.ensures.opened c.in_ok-made.ensures.troves c.args.input.now)
