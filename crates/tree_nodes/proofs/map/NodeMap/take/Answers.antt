use Rattle.std.proofs.Common.{◌∙◌, ap, None}
use Rattle.std.specs.FinMap.{get}
use Rattle.tree_disk.specs.Tree.{put}
use Rattle.tree_nodes.proofs.StoredTree.{get_stored, removed}
use Rattle.tree_nodes.proofs.map.NodeMap.take.Goals as goal

pub returns-clause-node : goal.returns-clause-node
returns-clause-node c = c.remove.ensures.value ∙ get_stored _ _ ∙ ap (λ t. get t c.args.path.now) c.self.view_is

pub returns-clause-rest : goal.returns-clause-rest
returns-clause-rest c =
    removed _ _ _ c.remove.ensures.entries c.remove.ensures.updates.1 ∙ ap (λ t. put t c.args.path.now None) c.self.view_is
