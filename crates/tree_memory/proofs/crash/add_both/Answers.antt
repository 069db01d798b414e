use Rattle.tree_memory.proofs.Changed.{both_more, either_path}
use Rattle.tree_memory.proofs.crash.add_both.Goals as goal

pub returns-clause-names : goal.returns-clause-names
returns-clause-names c = both_more c.args.names.now c.add_name.new.names _ c.args.from.now c.args.to.now c.in_ok-add_name.ensures.names c.in_ok-add_name-2.ensures.names

pub returns-clause-paths : goal.returns-clause-paths
returns-clause-paths c = either_path c.args.from.now c.args.to.now c.in_ok-add_name.ensures.paths c.in_ok-add_name-2.ensures.paths
