-- What a write set makes of a tree.
use Rattle.std.specs.Prelude.{Bool, true, false, ◌||◌, List, [], ◌∷◌, Option, Some, None}
use Rattle.tree_disk.specs.cny-base.declared.node.Node.{Node}
use Rattle.tree_disk.specs.cny-base.declared.node.Node.TheVariants as node
use Rattle.tree_disk.specs.Tree.{Name, Tree, same_name, put}
use Rattle.journal_log.specs.declared.put.Want.{Want}
use Rattle.journal_log.specs.declared.put.Want.TheVariants.{Nothing, Dir, File, Link, Staged}
use Rattle.journal_log.specs.declared.put.Put.{Put}

abbrev pub is_dir_want : Want → Bool
is_dir_want Nothing = false
is_dir_want (Dir mode) = true
is_dir_want (File mode bytes) = false
is_dir_want (Link target) = false
is_dir_want (Staged mode number size name) = false

-- What a write leaves at its path. The bytes of a staged file stand in the tree and not in the write: here they count as
-- none, so the meaning of a write set is that of the writes with its staged bytes put in (`File` in place of `Staged`).
abbrev pub node_of : Want → Option Node
node_of Nothing = None
node_of (Dir mode) = Some (node.Dir mode)
node_of (File mode bytes) = Some (node.File mode bytes)
node_of (Link target) = Some (node.Link target)
node_of (Staged mode number size name) = Some (node.File mode [])

-- whether one of the writes is at this path
abbrev pub is_target : List Put → Name → Bool
is_target [] path = false
is_target (p ∷ puts) path = same_name path p.path || is_target puts path

-- the tree after each write, from the first to the last
abbrev pub with_targets : List Put → Tree → Tree
with_targets [] tree = tree
with_targets (p ∷ puts) tree = with_targets puts (put tree p.path (node_of p.want))
