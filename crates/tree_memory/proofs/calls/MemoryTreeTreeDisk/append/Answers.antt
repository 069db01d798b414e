use Rattle.tree_nodes.specs.tree-disk.Rows.{can_append}
use Rattle.tree_memory.specs.declared.change.Change.TheVariants.{Append}
use Rattle.tree_memory.specs.Memory.{state, does_part}
use Rattle.tree_memory.proofs.Done.{append_left}
use Rattle.tree_memory.proofs.calls.MemoryTreeTreeDisk.append.Goals as goal

pub returns-clause-left : goal.returns-clause-left
returns-clause-left c failed =
    let can = can_append (state c.args.self.now).reads c.args.path.now in
    append_left c.args.self.now c.perform.new.tree c.args.path.now c.args.bytes.now (does_part c.args.self.now can)
    ((c.perform.ensures (Append c.args.path.now c.args.bytes.now) c.append-change.ensures).left failed)
