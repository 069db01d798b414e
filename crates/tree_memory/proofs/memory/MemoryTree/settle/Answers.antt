use Rattle.tree_memory.proofs.Recorded.{told_settled}
use Rattle.tree_memory.proofs.memory.MemoryTree.settle.Goals as goal

pub invariant_of-self : goal.invariant_of-self
invariant_of-self c = record {
  told = told_settled c.args.self.now.first c.args.self.now.changes.items _ c.args.self.now.told c.push.result _ c.push.ensures.items;
  well_formed = c.args.self.now.well_formed;
}
