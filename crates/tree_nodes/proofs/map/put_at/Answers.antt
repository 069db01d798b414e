use Rattle.tree_nodes.proofs.StoredTree.{inserted_at}
use Rattle.tree_nodes.proofs.map.put_at.Goals as goal

pub returns-clause-ok : goal.returns-clause-ok
returns-clause-ok c = inserted_at _ _ _ _ _ c.in_ok-name.ensures.ok c.in_ok-insert.ensures.entries
