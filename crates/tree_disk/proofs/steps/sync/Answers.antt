use Rattle.tree_disk.proofs.Calls.{makes_sync}
use Rattle.tree_disk.proofs.steps.sync.Goals as goal

pub returns-clause-makes : goal.returns-clause-makes
returns-clause-makes g c = makes_sync g.met.D.TreeDisk.laws c.sync.ensures.cause c.sync.ensures.told c.allowed.ensures
