use Rattle.tree_journal.specs.Recovered.{RecoversAt}
use Rattle.tree_journal.proofs.RecoveredDisk.{Recovery, recovered_disk, unrecovered_disk}
use Rattle.journal_log.proofs.cny-base.Passing.{err_is}
use Rattle.tree_journal.proofs.recovered.recover_disk.Goals as goal

pub returns-in_err-recover : goal.returns-in_err-recover
returns-in_err-recover g c =
    let disk = g.D.TreeDisk.disk in
    let recovery : Recovery disk c.args.base.now c.args.disk.now c.recover.new.disk c.recover.result = record {
      any_moment = c.recover.ensures.any_moment;
      visible = c.recover.ensures.visible;
      recovered = c.recover.ensures.recovered;
      still = c.recover.ensures.still;
      untouched = c.recover.ensures.untouched;
      causes = c.recover.ensures.causes;
      later = c.recover.ensures.later;
    } in
    err_is (RecoversAt disk c.args.base.now c.args.disk.now c.recover.new.disk) c.from_residual.result c.in_err-recover.field-0.0 c.from_residual.ensures.1
    (unrecovered_disk c.recover.result c.in_err-recover.field-0.0 c.in_err-recover.was recovery)

pub returns : goal.returns
returns g c =
    let disk = g.D.TreeDisk.disk in
    let recovery : Recovery disk c.args.base.now c.args.disk.now c.recover.new.disk c.recover.result = record {
      any_moment = c.recover.ensures.any_moment;
      visible = c.recover.ensures.visible;
      recovered = c.recover.ensures.recovered;
      still = c.recover.ensures.still;
      untouched = c.recover.ensures.untouched;
      causes = c.recover.ensures.causes;
      later = c.recover.ensures.later;
    } in
    recovered_disk c.recover.result c.in_ok-recover.field-0 c.in_ok-recover.was recovery
