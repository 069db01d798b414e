use Rattle.tree_nodes.proofs.Moved.{put_stands, put_others}
use Rattle.tree_nodes.proofs.map.NodeMap.make_place.Goals as goal

pub returns-clause-stands : goal.returns-clause-stands
returns-clause-stands c = put_stands c.put.result c.args.self.now c.put.new.self c.args.path.now _ c.put.ensures.ok

pub returns-clause-others : goal.returns-clause-others
returns-clause-others c = put_others c.put.result c.args.self.now c.put.new.self c.args.path.now _ c.put.ensures.ok
