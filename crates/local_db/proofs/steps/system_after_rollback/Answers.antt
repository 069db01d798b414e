use Rattle.local_db.proofs.Together.{rollback_after}
use Rattle.local_db.proofs.Several.{rollbacks_stored}
use Rattle.local_db.proofs.Images.{restored, kept, all_restored}
use Rattle.local_db.proofs.Unedited.{unedited}
use Rattle.local_db.proofs.steps.system_after_rollback.Goals as goal

pub returns-clause-after : goal.returns-clause-after
returns-clause-after c = rollback_after

pub returns-clause-several : goal.returns-clause-several
returns-clause-several c f x s os rest all stores stack can w = rollbacks_stored f x s os rest all stores stack can w

pub returns-clause-restored : goal.returns-clause-restored
returns-clause-restored c = restored

pub returns-clause-kept : goal.returns-clause-kept
returns-clause-kept c = kept

pub returns-clause-whole : goal.returns-clause-whole
returns-clause-whole c = all_restored

pub returns-clause-unedited : goal.returns-clause-unedited
returns-clause-unedited c = unedited
