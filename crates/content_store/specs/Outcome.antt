-- What comes of putting a content.
use Rattle.std.specs.Prelude.{◌≡◌, ℕ, ◌≤◌, Bool, ◌&&◌, ◌||◌, not, IsTrue, List, Option, Some, None, Result, Ok, Err}
use Rattle.std.specs.FinMap.{get}
use Rattle.tree_disk.specs.cny-base.Count.{Rose}
use Rattle.tree_disk.specs.cny-base.declared.refusal.Refusal.{Refusal}
use Rattle.tree_disk.specs.cny-base.declared.refusal.Refusal.TheVariants.{Collision}
use Rattle.tree_disk.specs.cny-base.declared.stop.Stop.{Stop}
use Rattle.tree_disk.specs.cny-base.declared.stop.Stop.TheVariants.{Refused, Memory, Failed, Damaged, FarFailed, FarDamaged}
use Rattle.tree_disk.specs.Tree.{Name, Tree, same_name}
use Rattle.tree_disk.specs.Rows.{bytes_at, is_dir_at, is_empty_at, is_file_at, with_append, with_rename}
use Rattle.tree_disk.specs.Disk.{DiskModel}
use Rattle.tree_disk.specs.Confined.{Among, Confined}
use Rattle.content_store.specs.Difference.{first_difference}
use Rattle.content_store.specs.Store.{file_bytes}

-- A content may be put where its directory stands, and at its path nothing or a file.
pub record CanPut (tree : Tree) (dir path : Name) : Type 0 where
  pub stands : IsTrue (is_dir_at tree dir)
  pub free : IsTrue (is_empty_at tree path || is_file_at tree path)

-- two contents of one name: the same, or a collision at their first difference
abbrev pub same_or_collision : List ℕ → Option ℕ → Result Unit Refusal
same_or_collision name None = Ok tt
same_or_collision name (Some at) = Err (Collision name at)

-- a tree, where a test passes
abbrev pub if_passed : Tree → Result Unit Refusal → Result Tree Refusal
if_passed tree (Ok u) = Ok tree
if_passed tree (Err refusal) = Err refusal

-- By what stands at a content's path: where no file does, a tree with one; and else the tree as it is, where the file's
-- bytes are the same.
abbrev pub placed : Tree → Tree → List ℕ → List ℕ → Option (List ℕ) → Result Tree Refusal
placed with_file tree name bytes None = Ok with_file
placed with_file tree name bytes (Some kept) = if_passed tree (same_or_collision name (first_difference kept bytes))

-- these bytes put at a path, under a name
abbrev pub put_outcome : Name → List ℕ → List ℕ → Tree → Result Tree Refusal
put_outcome path name bytes tree = placed (with_append tree path bytes) tree name bytes (file_bytes (get tree path))

-- a file put at a path, under a name: it is moved there, or stays where it is
abbrev pub move_outcome : Name → List ℕ → Name → Tree → Result Tree Refusal
move_outcome path name from tree = placed (with_rename tree from path) tree name (bytes_at tree from) (file_bytes (get tree path))

-- the names that change: where a file stands at the content's path, none
abbrev pub put_names : Name → Tree → Name → Bool
put_names path tree p = not (is_file_at tree path) && same_name p path

-- the names that change where a file is moved: its own and the content's path, and where a file stands there none
abbrev pub move_names : Name → Name → Tree → Name → Bool
move_names path from tree p = not (is_file_at tree path) && (same_name p from || same_name p path)

-- How a change that may be refused ends: where the disk tells its tree, with the outcome; else with a fault or want of
-- memory. A refusal leaves the tree as it was.
abbrev pub EndsWith : {X : Type 0} → Bool → Result Tree Refusal → Tree → Tree → Result X Stop → ℕ → ℕ → Type 0
EndsWith told outcome old new (Ok x) before now = IsTrue told → outcome ≡ Ok new
EndsWith told outcome old new (Err (Refused refusal)) before now = IsTrue told → (outcome ≡ Err refusal) × (new ≡ old)
EndsWith told outcome old new (Err Failed) before now = Rose before now
EndsWith told outcome old new (Err Memory) before now = Unit
EndsWith told outcome old new (Err (Damaged path)) before now = ⊥
EndsWith told outcome old new (Err FarFailed) before now = ⊥
EndsWith told outcome old new (Err (FarDamaged path)) before now = ⊥

-- A change of the tree that may be refused: it ends with the outcome. However it ends, no other name changed, became
-- unsynced, or may be left changed by a crash at any moment; `names` gives them by the tree at the beginning.
pub record Decides {D X : Type 0} (disk : DiskModel D) (names : Tree → Name → Bool) (outcome : Tree → Result Tree Refusal) (old new : D) (result : Result X Stop) : Type 0 where
  pub later : disk.faults old ≤ disk.faults new
  pub ends : EndsWith disk.tells (outcome (disk.reads old)) (disk.reads old) (disk.reads new) result (disk.faults old) (disk.faults new)
  pub confined : IsTrue disk.tells → Confined disk (Among (names (disk.reads old))) old new

-- a collision of this name, at any place
abbrev pub IsCollisionOf : List ℕ → Refusal → Type 0
IsCollisionOf name (Collision its at) = its ≡ name
IsCollisionOf name _ = ⊥

-- a collision of any name
abbrev pub IsCollision : Refusal → Type 0
IsCollision (Collision name at) = Unit
IsCollision _ = ⊥

-- Why a content isn't put, on every disk, also on one that tells nothing: a fault, want of memory, or such a refusal.
abbrev pub PutStops : (Refusal → Type 0) → ℕ → ℕ → Stop → Type 0
PutStops may before now (Refused refusal) = may refusal
PutStops may before now Failed = Rose before now
PutStops may before now Memory = Unit
PutStops may before now (Damaged path) = ⊥
PutStops may before now FarFailed = ⊥
PutStops may before now (FarDamaged path) = ⊥
