use Rattle.std.proofs.Common.{◌∙◌, sym, ap, Some, None}
use Rattle.tree_nodes.specs.Attempts.{can_take}
use Rattle.tree_nodes.proofs.StoredTree.{inserted_at, stands_put, stood_at}
use Rattle.tree_nodes.proofs.Tried.{over_ok, over_takes, over_refused, over_node, appended_err}
use Rattle.tree_nodes.proofs.attempts.put_over.Goals as goal

pub returns-in_default-clause-ok : goal.returns-in_default-clause-ok
returns-in_default-clause-ok c = inserted_at c.args.path.now c.args.name c.args.node _ _ c.requires c.in-Ok.ensures.entries

pub returns-in_default-clause-over : goal.returns-in_default-clause-over
returns-in_default-clause-over c =
    ap can_take (stood_at c.args.path.now c.args.name None _ c.requires (sym c.in-Ok.ensures.old ∙ c.in_default.is))

pub undo_over-requires : goal.undo_over-requires
undo_over-requires c = stands_put c.args.path.now c.args.name _ _ _ c.requires c.in-Ok.ensures.entries

pub returns-clause-ok : goal.returns-clause-ok
returns-clause-ok c =
    over_ok c.undo_over.result _ _ _ c.undo_over.ensures.ok (inserted_at c.args.path.now c.args.name c.args.node _ _ c.requires c.in-Ok.ensures.entries)

pub returns-clause-over : goal.returns-clause-over
returns-clause-over c =
    over_takes c.undo_over.result _ _ (stood_at c.args.path.now c.args.name (Some c.in-Some.stood) _ c.requires (sym c.in-Ok.ensures.old ∙ c.in-Some.is)) c.undo_over.ensures.over

pub returns-clause-refused : goal.returns-clause-refused
returns-clause-refused c =
    over_refused c.undo_over.result _ _ (stood_at c.args.path.now c.args.name (Some c.in-Some.stood) _ c.requires (sym c.in-Ok.ensures.old ∙ c.in-Some.is)) c.undo_over.ensures.refused

pub returns-clause-node : goal.returns-clause-node
returns-clause-node c =
    over_node c.undo_over.result _ _ c.args.path.now c.args.node (inserted_at c.args.path.now c.args.name c.args.node _ _ c.requires c.in-Ok.ensures.entries) c.undo_over.ensures.node

pub returns-clause-same : goal.returns-clause-same
returns-clause-same c =
    appended_err c.undo_over.result _ _ _ c.args.path.now c.args.node _ (stood_at c.args.path.now c.args.name (Some c.in-Some.stood) _ c.requires (sym c.in-Ok.ensures.old ∙ c.in-Some.is))
    (inserted_at c.args.path.now c.args.name c.args.node _ _ c.requires c.in-Ok.ensures.entries) c.undo_over.ensures.back
