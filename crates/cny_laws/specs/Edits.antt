-- What an edit makes of a tree, and of what a root stores: between calls others put a node at a path, or take one away.
use Rattle.std.specs.Prelude.{◌≡◌, false, cond, List, [], ◌∷◌, Option}
use Rattle.system_core.specs.cny-base.Reserved.{is_reserved, is_pinned}
use Rattle.system_core.specs.cny-base.declared.node.Node.{Node}
use Rattle.system_core.specs.tree-disk.Tree.{Name, Tree, put, WellFormed}
use Rattle.system_core.specs.tree-disk.Disk.{DiskModel}
use Rattle.system_core.specs.tree-disk.Confined.{IsSynced}
use Rattle.system_core.specs.journal-log.declared.put.Put.{Put}
use Rattle.system_core.specs.journal-log.Targets.{is_target}
use Rattle.local_db.specs.SystemState.{SystemState}

-- ---- edits

-- a path, and what stands there then
pub record Edit : Type 0 where
  pub path : Name
  pub node : Option Node

abbrev pub edited_tree : Tree → Edit → Tree
edited_tree tree e = put tree e.path e.node

-- An edit that others may make: its path is neither reserved nor that of a fixed directory, and it leaves a tree.
pub record IsEdit (tree : Tree) (e : Edit) : Type 0 where
  pub not_reserved : is_reserved e.path ≡ false
  pub not_pinned : is_pinned e.path ≡ false
  pub leaves_tree : WellFormed (edited_tree tree e)

-- the system with another tree, and nothing else changed
abbrev pub with_tree : SystemState → Tree → SystemState
with_tree s tree = record { tree = tree; installed = s.installed; stack = s.stack }

abbrev pub edited : SystemState → Edit → SystemState
edited s e = with_tree s (edited_tree s.tree e)

-- A disk that was edited: what it reads has the node, and all that it reads counts as synced.
pub record HasEdited {D : Type 0} (disk : DiskModel D) (e : Edit) (old new : D) : Type 0 where
  pub reads : disk.reads new ≡ edited_tree (disk.reads old) e
  pub synced : IsSynced disk new

-- ---- edits before a recovery

-- the tree after these edits, one after the other
abbrev pub all_edited : Tree → List Edit → Tree
all_edited tree [] = tree
all_edited tree (e ∷ edits) = all_edited (edited_tree tree e) edits

-- Others may make each of them of the tree that those before it leave; in the end it is a tree.
abbrev pub AreEdits : Tree → List Edit → Type 0
AreEdits tree [] = WellFormed tree
AreEdits tree (e ∷ edits) = IsEdit tree e × AreEdits (edited_tree tree e) edits

-- those at whose paths the writes put nothing
abbrev pub edits_beside : List Put → List Edit → List Edit
edits_beside puts [] = []
edits_beside puts (e ∷ edits) = cond (is_target puts e.path) (edits_beside puts edits) (e ∷ edits_beside puts edits)
