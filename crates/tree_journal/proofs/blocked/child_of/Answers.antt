use Rattle.tree_journal.proofs.PutTest.{child_is}
use Rattle.tree_journal.proofs.blocked.child_of.Goals as goal

pub returns-in-Ok-clause-child : goal.returns-in-Ok-clause-child
returns-in-Ok-clause-child c = child_is c.args.path.now c.args.last.now c.in-Ok.child c.requires.path c.requires.not_root c.requires.child c.in-Ok.ensures.value
