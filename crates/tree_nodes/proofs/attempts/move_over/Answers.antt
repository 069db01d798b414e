use Rattle.std.proofs.Common.{◌∙◌, ap, Some, is_some}
use Rattle.std.specs.FinMap.{get}
use Rattle.tree_disk.specs.cny-base.declared.node.Node.TheVariants.{Dir}
use Rattle.tree_disk.proofs.Laws.{get_put_here}
use Rattle.tree_nodes.specs.Stored.{tree_of}
use Rattle.tree_nodes.proofs.StoredTree.{removed}
use Rattle.tree_nodes.proofs.Tried.{put_back, rename_done, rename_refused}
use Rattle.tree_nodes.proofs.attempts.move_over.Goals as goal

pub replace_at-requires : goal.replace_at-requires
replace_at-requires c =
    ap (λ u. is_some (get u c.args.from.now)) (c.in-Err.ensures.same ∙ c.in-Some.ensures.left)
    ∙ ap is_some (get_put_here (tree_of c.args.nodes.now.entries) c.args.from.now (Some (Dir 384)))

pub returns-then-memory-clause-err : goal.returns-then-memory-clause-err
returns-then-memory-clause-err c =
    put_back _ _ _ _ c.args.from.now c.in-Some.node c.in-Err.field-0.node _ c.in-Some.ensures.some c.in-Some.ensures.left c.in-Err.ensures.same c.in-Err.ensures.node c.replace_at.ensures

pub returns-else-memory-clause-ok : goal.returns-else-memory-clause-ok
returns-else-memory-clause-ok c =
    rename_refused _ _ _ c.args.from.now c.args.to.now _ c.requires c.in-Some.ensures.left (c.in-Err.ensures.refused c.if-memory.false)
    (put_back _ _ _ _ c.args.from.now c.in-Some.node c.in-Err.field-0.node _ c.in-Some.ensures.some c.in-Some.ensures.left c.in-Err.ensures.same c.in-Err.ensures.node c.replace_at.ensures)

pub returns-clause-ok : goal.returns-clause-ok
returns-clause-ok c =
    rename_done _ _ _ _ c.args.from.now c.args.to.now c.in-Some.node _ c.requires c.in-Some.ensures.some c.in-Some.ensures.moves c.in-Some.ensures.left
    c.in_default-put_over.ensures.over c.in_default-put_over.ensures.ok (removed _ _ _ c.remove.ensures.entries c.remove.ensures.updates.1)
