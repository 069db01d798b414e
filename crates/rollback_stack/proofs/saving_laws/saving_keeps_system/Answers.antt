use Rattle.rollback_stack.proofs.Keeping.{left_still, not_counted, read_still}
use Rattle.rollback_stack.proofs.saving_laws.saving_keeps_system.Goals as goal

pub returns-clause-beside : goal.returns-clause-beside
returns-clause-beside c f x s number dropped next fits stores = not_counted s number dropped next fits stores.system

pub returns-clause-read : goal.returns-clause-read
returns-clause-read c f x y s number dropped next fits agrees stores = read_still f x s number dropped next fits stores y agrees

pub returns-clause-left : goal.returns-clause-left
returns-clause-left c f x y unsynced s number dropped next fits synced differs stores = left_still f x s number dropped next fits stores y unsynced synced differs
