use Rattle.std.proofs.Common.{sym, subst}
use Rattle.tree_nodes.specs.tree-disk.Disk.{NamesOf}
use Rattle.tree_nodes.proofs.tree-disk.Laws.{children_paths}
use Rattle.tree_memory.proofs.calls.MemoryTreeTreeDisk.list.Goals as goal

pub returns-clause-names : goal.returns-clause-names
returns-clause-names c =
    subst (NamesOf c.args.path.now) (sym c.in_ok-children.ensures)
    (children_paths c.read_fails.new.tree.nodes c.args.path.now c.read_fails.new.tree.well_formed)
