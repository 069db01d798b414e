use Rattle.std.proofs.Common.{◌∙◌, sym}
use Rattle.tree_nodes.proofs.Edits.{edit_well, edit_not}
use Rattle.tree_nodes.proofs.map.NodeMap.can_edit.Goals as goal

pub returns-clause-tree : goal.returns-clause-tree
returns-clause-tree c can =
    edit_well c.args.self.now c.args.path.now c.args.node.now c.requires c.in_ok-can.ensures.path c.node_ranges.ensures (sym c.in_ok-can.ensures.value ∙ can)

pub returns-clause-no_tree : goal.returns-clause-no_tree
returns-clause-no_tree c can =
    edit_not c.args.self.now c.args.path.now c.args.node.now c.requires c.in_ok-can.ensures.path (sym c.in_ok-can.ensures.value ∙ can)
