-- What a run of disk calls leaves alone, at every moment.
use Rattle.std.specs.Prelude.{◌≡◌, ◌⊎◌, ℕ, ◌≤◌, Bool, false, IsTrue}
use Rattle.std.specs.FinMap.{get}
use Rattle.tree_disk.specs.Tree.{Name, Tree, WellFormed}
use Rattle.tree_disk.specs.Disk.{DiskModel, Shows}

-- Two trees hold the same at every name but these.
abbrev pub AgreesExcept : (Name → Type 0) → Tree → Tree → Type 0
AgreesExcept names t u = (p : Name) → (names p → ⊥) → get t p ≡ get u p

-- a name among those that pass a test
abbrev pub Among : (Name → Bool) → Name → Type 0
Among names p = IsTrue (names p)

-- A well-formed tree that differs from another at these names alone.
pub record DiffersOnlyAt (names : Name → Type 0) (tree image : Tree) : Type 0 where
  pub well_formed : WellFormed image
  pub agrees : AgreesExcept names image tree

-- a name that changed since the last successful sync
abbrev pub IsUnsynced : {D : Type 0} → DiskModel D → D → Name → Type 0
IsUnsynced disk d p = IsTrue (disk.unsynced d p)

-- one of these names, or one that changed since the last successful sync
abbrev pub IsUnsyncedOr : {D : Type 0} → DiskModel D → D → (Name → Type 0) → Name → Type 0
IsUnsyncedOr disk d names p = IsTrue (disk.unsynced d p) ⊎ names p

-- no name changed since the last successful sync: a crash leaves just what the disk reads
abbrev pub IsSynced : {D : Type 0} → DiskModel D → D → Type 0
IsSynced disk d = (p : Name) → disk.unsynced d p ≡ false

-- A crash at any moment since `old` leaves a tree that has P, and what a crash since an earlier moment might have left it
-- still might.
pub record LeavesOnly {D : Type 0} (disk : DiskModel D) (old new : D) (P : Tree → Type 0) : Type 0 where
  pub later : disk.now old ≤ disk.now new
  pub each : (image : Tree) → disk.images_since new (disk.now old) image → P image
  -- for a run that began earlier: what a crash since then may leave is an image of then, or has P
  pub before : (k : ℕ) (image : Tree) → k ≤ disk.now old → disk.images_since new k image → disk.images_since old k image ⊎ P image
  pub kept : (k : ℕ) (image : Tree) → k ≤ disk.now old → disk.images_since old k image → disk.images_since new k image

-- From `old` to `new` what is read changed at these names alone, at every moment; no other name became unsynced; and a
-- crash at any moment leaves a tree that differs from the old one at these names, and those that were unsynced, alone.
pub record Confined {D : Type 0} (disk : DiskModel D) (names : Name → Type 0) (old new : D) : Type 0 where
  pub reads : AgreesExcept names (disk.reads new) (disk.reads old)
  pub visible : Shows disk old new (λ t. AgreesExcept names t (disk.reads old))
  pub unsynced : (p : Name) → IsUnsynced disk new p → IsUnsyncedOr disk old names p
  pub images : LeavesOnly disk old new (DiffersOnlyAt (IsUnsyncedOr disk old names) (disk.reads old))
