-- How a write set takes a root from one system to another.
use Rattle.std.specs.Prelude.{◌≡◌, ◌⊎◌, Bool, true, false, ◌||◌, List, Result, OnOk, All}
use Rattle.std.specs.FinMap.{get}
use Rattle.rollback_stack.specs.cny-base.Reserved.{private_directory, is_reserved}
use Rattle.rollback_stack.specs.cny-base.declared.stop.Stop.{Stop}
use Rattle.rollback_stack.specs.tree-disk.Tree.{Name, Tree}
use Rattle.rollback_stack.specs.tree-disk.Disk.{DiskModel}
use Rattle.rollback_stack.specs.tree-disk.Confined.{Among, Confined, IsSynced, LeavesOnly}
use Rattle.rollback_stack.specs.tree-disk.Unfailed.{UnlessFailed}
use Rattle.rollback_stack.specs.journal-log.Own.{gate}
use Rattle.rollback_stack.specs.journal-log.declared.put.Put.{Put}
use Rattle.rollback_stack.specs.journal-log.Targets.{is_target, with_targets}
use Rattle.tree_journal.specs.Apply.{IsAsBefore, IsAtRest, is_own_or_target}
use Rattle.tree_journal.specs.Recovery.{RecoversTo, is_committed}
use Rattle.tree_journal.specs.Visible.{IsVisible, ShowsNode}
use Rattle.job_targets.specs.Old.{is_staged}
use Rattle.local_db.specs.declared.format.Format.{Format}
use Rattle.local_db.specs.Names.{counts}
use Rattle.local_db.specs.SystemState.{SystemState}
use Rattle.local_db.specs.Stores.{StoresIn, RecoversToSystem}
use Rattle.local_db.specs.Steps.{IsPuttable}

-- ---- what is asked

-- None of the names that count for the system changed since the last successful sync.
abbrev pub AreSettled : {D : Type 0} → DiskModel D → D → SystemState → Type 0
AreSettled disk d s = (q : Name) → counts s q ≡ true → disk.unsynced d q ≡ false

-- A write set that may be put on a root: the commit flag isn't set, also after a crash, no bytes are staged, and the journal can
-- put all of it, the private directory being one.
pub record CanWrite {D : Type 0} (disk : DiskModel D) (puts : List Put) (d : D) : Type 0 where
  pub flag_clear : is_committed private_directory (disk.reads d) ≡ false
  pub flag_synced : disk.unsynced d (gate private_directory) ≡ false
  pub given : All (λ (p : Put). is_staged p.want ≡ false) puts
  pub some : List Put
  pub more : List Put
  pub managed : Tree
  pub puttable : IsPuttable some more puts (disk.reads d) managed

-- ---- what is left

-- All targets stand: but for the journal's own names the root holds the tree with them, its commit flag isn't set, and a crash leaves
-- just what it reads.
abbrev pub IsPut : {D : Type 0} → DiskModel D → List Put → D → D → Type 0
IsPut disk puts old new = IsAtRest disk private_directory (with_targets puts (disk.reads old)) new

-- A root at rest that stores the system: its commit flag isn't set, and a crash leaves just what it reads.
pub record RestsInFormat {D : Type 0} (disk : DiskModel D) (f : Format) (s : SystemState) (d : D) : Type 0 where
  pub flag_clear : is_committed private_directory (disk.reads d) ≡ false
  pub synced : IsSynced disk d
  pub stores : StoresIn f (disk.reads d) s

-- the tree recovers to the one system or to the other
abbrev pub RecoversToEitherSystem : SystemState → SystemState → Tree → Type 0
RecoversToEitherSystem s t image = RecoversToSystem image s ⊎ RecoversToSystem image t

-- Readers see at each name outside the private directory the node of the one system, that of the other, or nothing where just
-- one of the two is a directory.
abbrev pub ShowsEither : SystemState → SystemState → Tree → Type 0
ShowsEither s t shown = (q : Name) → is_reserved q ≡ false → ShowsNode (get s.tree q) (get t.tree q) (get shown q)

-- outside the private directory each name that isn't a target reads as before
abbrev pub KeepsNonTargets : List Put → Tree → Tree → Type 0
KeepsNonTargets puts before now = (q : Name) → is_reserved q ≡ false → is_target puts q ≡ false → get now q ≡ get before q

-- the names of the private directory and the targets
abbrev pub is_private_or_target : List Put → Name → Bool
is_private_or_target puts q = is_reserved q || is_target puts q

-- From the system s to the system t, which is stored in this format: at every moment a crash leaves a tree that recovers to one
-- of the two, and so does what the disk reads at the end; after Ok it rests at t. However it ends, and at every moment, no name
-- changes but those of the private directory and the targets.
pub record TakesRoot {D : Type 0} (disk : DiskModel D) (g : Format) (s t : SystemState) (puts : List Put) (old new : D) (result : Result (Unit {0}) Stop) : Type 0 where
  pub images : LeavesOnly disk old new (RecoversToEitherSystem s t)
  pub rests : OnOk result (RestsInFormat disk g t new)
  pub reads : RecoversToEitherSystem s t (disk.reads new)
  pub shown : UnlessFailed disk old new (ShowsEither s t)
  pub others : KeepsNonTargets puts (disk.reads old) (disk.reads new)
  pub confined : Confined disk (Among (is_private_or_target puts)) old new

-- ---- of trees, also on a root that stores no system

-- It recovers to a crash image at entry, or to the tree with all targets.
abbrev pub RecoversToPut : {D : Type 0} → DiskModel D → List Put → D → Tree → Type 0
RecoversToPut disk puts d image = IsAsBefore disk private_directory d image ⊎ RecoversTo private_directory image (with_targets puts (disk.reads d))

-- the tree recovers to the one before, or to that with all targets
abbrev pub RecoversToOneOf : List Put → Tree → Tree → Type 0
RecoversToOneOf puts before tree = RecoversTo private_directory tree before ⊎ RecoversTo private_directory tree (with_targets puts before)

-- However it ends: at every moment a crash leaves a tree that recovers to a crash image at entry or to the tree with all targets,
-- and the root as it reads recovers to the tree before or to that one. Readers see both at most, and no name changes but the
-- journal's own and the targets.
pub record PutsOnRoot {D : Type 0} (disk : DiskModel D) (puts : List Put) (old new : D) : Type 0 where
  pub images : LeavesOnly disk old new (RecoversToPut disk puts old)
  pub reads : RecoversToOneOf puts (disk.reads old) (disk.reads new)
  pub shown : UnlessFailed disk old new (IsVisible private_directory (disk.reads old) (with_targets puts (disk.reads old)))
  pub confined : Confined disk (Among (is_own_or_target private_directory puts)) old new
