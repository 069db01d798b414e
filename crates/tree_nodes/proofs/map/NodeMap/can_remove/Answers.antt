use Rattle.std.proofs.Common.{◌∙◌, sym}
use Rattle.tree_disk.proofs.Allowed.{remove_well_formed}
use Rattle.tree_nodes.proofs.map.NodeMap.can_remove.Goals as goal

pub returns-clause-keeps : goal.returns-clause-keeps
returns-clause-keeps c can = remove_well_formed c.args.self.now c.args.path.now c.requires (sym c.in_ok-can.ensures ∙ can)
