-- The states of a disk, and what each change makes of them.
use Rattle.std.specs.Prelude.{◌/◌, ℕ, Bool, true, false, ◌||◌, List, [], ◌∷◌, Some, None, length, take, cond}
use Rattle.std.specs.FinMap.{from_entries}
use Rattle.tree_nodes.specs.cny-base.declared.node.Node.{Node}
use Rattle.tree_nodes.specs.tree-disk.Tree.{Name, Tree, put}
use Rattle.tree_nodes.specs.tree-disk.Rows.{can_append, can_make, can_remove, can_rename, can_set_mode, with_append, with_mode, with_rename}
use Rattle.tree_nodes.specs.tree-disk.Disk.{one_name, two_names}
use Rattle.tree_memory.specs.declared.change.Change.{Change}
use Rattle.tree_memory.specs.declared.change.Change.TheVariants.{Append, Put, SetMode, Rename, Touch, TouchBoth, Sync, Edit}

-- what a disk reads, what it read at the last successful sync, and which names changed since
pub record State : Type 0 where
  pub reads : Tree
  pub synced : Tree
  pub unsynced : Name → Bool

-- all that the disk reads counts as synced
abbrev pub settled : Tree → State
settled t = record { reads = t; synced = t; unsynced = λ _. false }

-- the tree after a change
abbrev pub tree_after : Change → Tree → Tree
tree_after (Append p bytes) t = with_append t p bytes
tree_after (Put p node) t = put t p node
tree_after (SetMode p mode) t = with_mode t p mode
tree_after (Rename from to) t = with_rename t from to
tree_after (Touch p) t = t
tree_after (TouchBoth from to) t = t
tree_after Sync t = t
tree_after (Edit p node) t = put t p node

-- whether a call may make this change: what isn't the change of a call it may not
abbrev pub allows : Change → Tree → Bool
allows (Append p bytes) t = can_append t p
allows (Put p None) t = can_remove t p
allows (Put p (Some node)) t = can_make t p
allows (SetMode p mode) t = can_set_mode t p
allows (Rename from to) t = can_rename t from to
allows _ t = false

-- the names of a change
abbrev pub names_of : Change → Name → Bool
names_of (Append p _) = one_name p
names_of (Put p _) = one_name p
names_of (SetMode p _) = one_name p
names_of (Rename from to) = two_names from to
names_of (Touch p) = one_name p
names_of (TouchBoth from to) = two_names from to
names_of Sync = λ _. false
names_of (Edit p _) = one_name p

-- whether all counts as synced after it
abbrev pub settles : Change → Bool
settles Sync = true
settles (Edit p _) = true
settles _ = false

abbrev pub step : Change → State → State
step change s =
    cond (settles change)
    (settled (tree_after change s.reads))
    (record { reads = tree_after change s.reads; synced = s.synced; unsynced = λ p. s.unsynced p || names_of change p })

-- the state after some changes, the first of them first
abbrev pub replay : List Change → State → State
replay [] s = s
replay (change ∷ changes) s = replay changes (step change s)

-- the state of a disk that began with these nodes, all synced
abbrev pub state_of : List (Name × Node) → List Change → State
state_of first changes = replay changes (settled (from_entries first))

-- the first half of some bytes, their number rounded down
abbrev pub first_half : List ℕ → List ℕ
first_half bytes = take (length bytes / 2) bytes

-- What a failed call does in place of the change that it was to make: of an append, where a part of it is done,
-- the first half of the bytes, and else nothing. Its names are unsynced all the same.
abbrev pub failed_change : Change → Bool → Change
failed_change (Append p bytes) part = cond part (Append p (first_half bytes)) (Touch p)
failed_change (Put p _) part = Touch p
failed_change (SetMode p _) part = Touch p
failed_change (Rename from to) part = TouchBoth from to
failed_change change part = change
