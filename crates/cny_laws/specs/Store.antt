-- How a disk stores a state: which trees store it, and which states a tree that a crash left recovers to.
use Rattle.std.specs.Prelude.{◌≡◌, ◌⊎◌, false, IsTrue, Result, Err}
use Rattle.std.specs.FinMap.{get}
use Rattle.system_core.specs.tree-disk.Tree.{Name, Tree}
use Rattle.system_core.specs.tree-disk.Disk.{DiskModel, IsImageOf}
use Rattle.system_core.specs.tree-disk.Confined.{IsSynced}
use Rattle.system_core.specs.journal-log.Own.{gate, is_own}
use Rattle.system_core.specs.tree-journal.Recovery.{is_committed, RecoversTo}
use Rattle.cny_laws.specs.declared.failure.Failure.{Failure}
use Rattle.cny_laws.specs.declared.failure.Failure.TheVariants as failure

-- how states of a kind stand on a disk
pub record Store (X : Type 0) : Type 1 where
  -- the directory of the disk's journal
  pub base : Name
  -- the tree stores the state
  pub IsStored : Tree → X → Type 0
  -- it depends on this name whether a tree stores the state
  pub Counts : X → Name → Type 0
  -- this file of the tree isn't in its grammar, or fails a cross-check
  pub IsDamaged : Tree → Name → Type 0
  -- it is one that is read when the disk is opened
  pub IsDamagedAtOpening : Tree → Name → Type 0

-- what holds of each store
pub record IsStore {X : Type 0} (store : Store X) : Type 0 where
  -- a tree that is equal at the names that count stores the same state
  pub counted : (t u : Tree) (x : X) → store.IsStored t x → ((q : Name) → store.Counts x q → get u q ≡ get t q) → store.IsStored u x
  -- the journal's own names don't count
  pub own : (x : X) (q : Name) → store.Counts x q → is_own store.base q ≡ false
  -- a tree with a damaged file stores no state
  pub whole : (t : Tree) (path : Name) (x : X) → store.IsDamaged t path → store.IsStored t x → ⊥
  -- what is found when the disk is opened is a damaged file
  pub at_opening : (t : Tree) (path : Name) → store.IsDamagedAtOpening t path → store.IsDamaged t path

-- a tree that a crash left recovers to a tree that stores the state
pub record Recovers {X : Type 0} (store : Store X) (image : Tree) (x : X) : Type 0 where
  pub tree : Tree
  pub recovers : RecoversTo store.base image tree
  pub stored : store.IsStored tree x

-- it recovers to the one state or to the other
abbrev pub OneOf : {X : Type 0} → Store X → X → X → Tree → Type 0
OneOf store x y image = Recovers store image x ⊎ Recovers store image y

-- Until a disk is open a crash leaves an image of it at entry, or a tree that recovers to the state.
abbrev pub IsEntryOr : {D X : Type 0} → Store X → DiskModel D → D → X → Tree → Type 0
IsEntryOr store disk d x image = IsImageOf disk d image ⊎ Recovers store image x

-- The commit flag isn't set, and this file is damaged.
pub record HasDamagedFile {X : Type 0} (store : Store X) (tree : Tree) (path : Name) : Type 0 where
  pub flag_clear : is_committed store.base tree ≡ false
  pub damaged : store.IsDamaged tree path

-- a result that names a damaged file names one of this disk, where it is told
abbrev pub NamesDamaged : {D X A : Type 0} → Store X → DiskModel D → D → Result A Failure → Type 0
NamesDamaged store disk d result = (path : Name) → result ≡ Err (failure.Damaged path) → IsTrue disk.tells → HasDamagedFile store (disk.reads d) path

-- The commit flag isn't set, and this file, which is read when the disk is opened, is damaged.
pub record HasDamageAtOpening {X : Type 0} (store : Store X) (tree : Tree) (path : Name) : Type 0 where
  pub flag_clear : is_committed store.base tree ≡ false
  pub damaged : store.IsDamagedAtOpening tree path

-- a disk at rest: its commit flag isn't set, neither now nor after a crash
pub record IsResting {D : Type 0} (disk : DiskModel D) (base : Name) (d : D) : Type 0 where
  pub flag_clear : is_committed base (disk.reads d) ≡ false
  pub flag_synced : disk.unsynced d (gate base) ≡ false

-- a disk at rest of which a crash leaves just what it reads
pub record IsSettled {D : Type 0} (disk : DiskModel D) (base : Name) (d : D) : Type 0 where
  pub flag_clear : is_committed base (disk.reads d) ≡ false
  pub synced : IsSynced disk d

-- a disk at rest that stores the state, also after a crash
pub record RestsAt {D X : Type 0} (store : Store X) (disk : DiskModel D) (d : D) (x : X) : Type 0 where
  pub resting : IsResting disk store.base d
  pub settled : (q : Name) → store.Counts x q → disk.unsynced d q ≡ false
  pub stored : store.IsStored (disk.reads d) x
