use Rattle.tree_memory.proofs.Changed.{names_start, names_next, front_and_rest}
use Rattle.tree_memory.proofs.crash.changed_names.Goals as goal

pub loop-rest-init : goal.loop-rest-init
loop-rest-init c = names_start c.new-names.result c.args.changes.now c.new-names.ensures.empty

pub loop-rest-preserved : goal.loop-rest-preserved
loop-rest-preserved c =
    names_next c.loop-rest.names _ c.change-item.result c.loop-rest.rest.now _ c.args.changes.now
    (front_and_rest c.loop-rest.rest.now c.change-item.result c.in-len1-up.len_at_least c.change-item.is)
    c.loop-rest.invariant c.in_ok-add_names.ensures.names c.in_ok-add_names.ensures.paths
