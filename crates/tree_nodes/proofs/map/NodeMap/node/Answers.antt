use Rattle.std.proofs.Common.{◌∙◌, ap}
use Rattle.std.specs.FinMap.{get}
use Rattle.tree_nodes.proofs.StoredTree.{get_stored}
use Rattle.tree_nodes.proofs.map.NodeMap.node.Goals as goal

pub returns : goal.returns
returns c = c.get.ensures.value ∙ get_stored _ _ ∙ ap (λ t. get t c.args.path.now) c.self.view_is
