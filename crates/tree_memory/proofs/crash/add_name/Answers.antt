use Rattle.std.proofs.Common.{◌∙◌, sym, ap}
use Rattle.tree_nodes.specs.cny-base.Path.{is_path}
use Rattle.tree_memory.proofs.Changed.{one_more, one_path}
use Rattle.tree_memory.proofs.crash.add_name.Goals as goal

pub returns-clause-names : goal.returns-clause-names
returns-clause-names c = one_more _ _ _ c.args.path.now (c.in_ok-name.ensures.ok ∙ c.text.ensures.value) c.in_ok-insert.ensures.keys

pub returns-clause-paths : goal.returns-clause-paths
returns-clause-paths c = one_path c.args.path.now (ap is_path (sym c.text.ensures.value) ∙ c.text.ensures.path)
