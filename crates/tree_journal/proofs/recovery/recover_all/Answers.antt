use Rattle.std.proofs.Common.{arith}
use Rattle.journal_log.specs.tree-disk.Confined.{Among}
use Rattle.journal_log.proofs.tree-disk.ConfinedLaws.{confined_read, confined_then}
use Rattle.journal_log.specs.tree-disk.Steps.{no_name}
use Rattle.tree_journal.proofs.Recovering.{made_stop, recovers_find_stopped, recovers_on, recovers_stopped}
use Rattle.tree_journal.proofs.recovery.recover_all.Goals as goal

pub returns-in_err-look_at_own : goal.returns-in_err-look_at_own
returns-in_err-look_at_own g c = recovers_find_stopped _ g.met.D.TreeDisk.laws c.args.base.now _ _ _ _ c.in_err-look_at_own.ensures c.from_residual.ensures.1

pub returns-in_err-sync : goal.returns-in_err-sync
returns-in_err-sync g c =
    let laws = g.met.D.TreeDisk.laws in
    recovers_on _ laws c.args.base.now _ _ _ _ c.in_ok-look_at_own.ensures.later (λ tells. confined_read laws (Among no_name) (c.in_ok-look_at_own.ensures.found tells))
    (recovers_stopped _ laws c.args.base.now _ _ _ _ c.in_err-sync.ensures.makes.later c.in_err-sync.ensures.makes.confined
    c.from_residual-in_err-sync.ensures.1 (made_stop (Unit {0}) g.D.TreeDisk.disk c.args.base.now c.look_at_own.new.disk c.sync.new.disk (g.D.TreeDisk.disk.reads c.look_at_own.new.disk) _ c.in_err-sync.ensures.makes.ended))

pub returns : goal.returns
returns g c =
    let laws = g.met.D.TreeDisk.laws in
    recovers_on _ laws c.args.base.now _ _ _ _ (omega (arith, c.in_ok-look_at_own.ensures.later, c.in_ok-sync.ensures.makes.later))
    (λ tells. confined_then (confined_read laws (Among no_name) (c.in_ok-look_at_own.ensures.found tells)) (c.in_ok-sync.ensures.makes.confined tells)) c.recover_synced.ensures
