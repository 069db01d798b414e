use Rattle.std.proofs.Common.{None, refl}
use Rattle.tree_nodes.proofs.Left.{put_nodes}
use Rattle.tree_nodes.proofs.crash.Crash.leave_at.Goals as goal

pub returns-then-not-is_dir_at-clause-nodes : goal.returns-then-not-is_dir_at-clause-nodes
returns-then-not-is_dir_at-clause-nodes c hold = put_nodes c.args.image.now c.set.new.self c.args.name.now None c.set.result c.set.ensures.ok refl hold

pub returns-clause-nodes : goal.returns-clause-nodes
returns-clause-nodes c hold = put_nodes c.args.image.now c.set-2.new.self c.args.name.now c.in_ok-node.node c.set-2.result c.set-2.ensures.ok c.in_ok-node.ensures.node hold
