-- Where a tree stays one with this node, or with none, at a path.
use Rattle.std.specs.Prelude.{Bool, ◌&&◌, not, Option, Some, None}
use Rattle.tree_disk.specs.cny-base.Path.{root, parent}
use Rattle.tree_disk.specs.cny-base.declared.node.Node.{Node}
use Rattle.tree_disk.specs.cny-base.declared.node.Node.TheVariants.{Dir}
use Rattle.tree_disk.specs.Tree.{Name, Tree, same_name}
use Rattle.tree_disk.specs.Rows.{is_dir_at, is_childless}

abbrev pub can_edit : Tree → Name → Option Node → Bool
can_edit t p (Some (Dir mode)) = is_dir_at t (parent p)
can_edit t p (Some node) = not (same_name p root) && (is_dir_at t (parent p) && is_childless t p)
can_edit t p None = not (same_name p root) && is_childless t p
