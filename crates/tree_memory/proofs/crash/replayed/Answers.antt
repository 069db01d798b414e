use Rattle.std.proofs.Common.{◌∙◌, ap}
use Rattle.std.specs.FinMap.{from_entries}
use Rattle.tree_memory.proofs.Changed.{replayed_start}
use Rattle.tree_memory.proofs.crash.replayed.Goals as goal

pub loop-rest-init : goal.loop-rest-init
loop-rest-init c = replayed_start c.args.first.now c.args.changes.now c.in_ok-nodes.nodes (c.in_ok-nodes.ensures ∙ ap (λ es. from_entries es) c.get.ensures)
