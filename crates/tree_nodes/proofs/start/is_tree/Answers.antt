use Rattle.tree_nodes.proofs.Starts.{tree_from, no_tree_from}
use Rattle.tree_nodes.proofs.start.is_tree.Goals as goal

pub returns-then-top-clause-tree : goal.returns-then-top-clause-tree
returns-then-top-clause-tree c good =
    tree_from c.args.nodes.now _ c.requires _ _ c.hold_nodes.ensures c.is_dir_at-top.ensures c.if-top.true c.parents_stand-parents.ensures good

pub returns-then-top-clause-no_tree : goal.returns-then-top-clause-no_tree
returns-then-top-clause-no_tree c bad =
    no_tree_from c.args.nodes.now _ c.requires _ c.parents_stand-parents.ensures bad
