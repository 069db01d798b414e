use Rattle.tree_disk.proofs.Calls.{makes_call, one_step_call, seen_call}
use Rattle.tree_disk.proofs.steps.append.Goals as goal

pub returns-clause-makes : goal.returns-clause-makes
returns-clause-makes g c = makes_call g.met.D.TreeDisk.laws c.append.ensures.cause c.requires c.append.ensures.told c.allowed.ensures

pub returns-clause-one_step : goal.returns-clause-one_step
returns-clause-one_step g c = one_step_call g.met.D.TreeDisk.laws c.append.ensures.told c.allowed.ensures

pub returns-clause-seen : goal.returns-clause-seen
returns-clause-seen g c = seen_call g.met.D.TreeDisk.laws c.append.ensures.cause c.append.ensures.told
