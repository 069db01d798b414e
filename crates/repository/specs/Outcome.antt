-- How a commit ends on a disk.
use Rattle.std.specs.Prelude.{◌≡◌, ◌≢◌, ℕ, ◌<◌, ◌≤◌, Bool, false, ◌&&◌, if◌then◌else◌, IsTrue, List, [], ◌++◌, length, All, Contains, Option, Some, None, Result, Ok, Err}
use Rattle.std.specs.Str.{bytes_eq}
use Rattle.sha1.specs.Sha1.{sha1}
use Rattle.repo_load.specs.cny-base.Count.{Rose}
use Rattle.repo_load.specs.cny-base.declared.limits.TheConstants.{COMMITS_LIMIT}
use Rattle.repo_load.specs.cny-base.declared.stop.Stop.{Stop}
use Rattle.repo_load.specs.cny-base.declared.stop.Stop.TheVariants.{Refused, Memory, Failed, Damaged, FarFailed, FarDamaged}
use Rattle.repo_load.specs.trove-parts.declared.id.TroveId.{TroveId}
use Rattle.repo_load.specs.trove-stream.declared.parts.TroveParts.{TroveParts}
use Rattle.repo_load.specs.tree-disk.Tree.{Name, Tree}
use Rattle.repo_load.specs.tree-disk.Disk.{DiskModel, HasRead}
use Rattle.repo_load.specs.tree-disk.Confined.{IsUnsynced, LeavesOnly}
use Rattle.repo_load.specs.journal-log.Own.{gate}
use Rattle.tree_journal.specs.Recovery.{is_committed}
use Rattle.change_set.specs.declared.change.Carried.{Carried}
use Rattle.change_set.specs.declared.change.ChangeSet.{ChangeSet}
use Rattle.change_set.specs.declared.change.Part.{Part}
use Rattle.repo_load.specs.content-store.Contents.{ContentMap}
use Rattle.repo_load.specs.content-store.Store.{stored}
use Rattle.repo_index.specs.Catalogue.{CatalogueParts}
use Rattle.repo_load.specs.Counts.{Counts}
use Rattle.repo_load.specs.State.{records_content, RepositoryState}
use Rattle.repo_load.specs.Files.{contents_dir, repository_base, HoldsCatalogue, StoresRepository}
use Rattle.repo_load.specs.Contents.{FindsContent, IsDamagedContent}
use Rattle.repository.specs.Steps.{after_commit, catalogue_after, ids_of, IsOldOrNew, RecoversToEitherRepository}
use Rattle.repository.specs.Parts.{AreMade}
use Rattle.repository.specs.Tests.{missing_ref, refs_of, IsRefused, Passes}

-- the bytes have this name, and one of the troves records a file of this name and of their size
abbrev pub is_recorded : List TroveParts → List ℕ → List ℕ → Bool
is_recorded troves name bytes = bytes_eq (sha1 bytes) name && records_content name (length bytes) troves

-- these bytes, where they are recorded
abbrev pub if_recorded : List TroveParts → List ℕ → Option (List ℕ) → Option (List ℕ)
if_recorded troves name None = None
if_recorded troves name (Some bytes) = if is_recorded troves name bytes then Some bytes else None

-- What stands in a tree under the names that troves record, where it has its name's SHA-1 and a size that is recorded: the
-- bytes of a damaged file are none of it.
abbrev pub committed_contents : List TroveParts → Tree → ContentMap
committed_contents troves tree name = if_recorded troves name (stored tree contents_dir name)

-- A disk on which a commit may be made: the catalogue is that of the commits that its files hold, and the commit flag isn't
-- set, also after a crash.
pub record MayCommit {D : Type 0} (disk : DiskModel D) (c : CatalogueParts) (d : D) : Type 0 where
  pub holds : HoldsCatalogue (disk.reads d) c
  pub flag_clear : is_committed repository_base (disk.reads d) ≡ false
  pub flag_synced : disk.unsynced d (gate repository_base) ≡ false

-- No name changed since the last sync on which it depends whether a tree stores this repository.
abbrev pub IsSyncedFor : {D : Type 0} → DiskModel D → D → RepositoryState → Type 0
IsSyncedFor disk d r = (q : Name) → Counts r q → disk.unsynced d q ≡ false

-- A reading of each of these contents finds its bytes: they stand under its name, which is their SHA-1, and one of the troves
-- records a file of this name and of their size.
abbrev pub CanBeRead : List Carried → List TroveParts → Tree → Type 0
CanBeRead contents troves tree = All (λ (c : Carried). FindsContent troves c.name tree (Some c.bytes)) contents

-- ---- how it ends

-- The commit is done: the files hold the catalogue with the new troves, each content that is carried can be read, also where
-- another one is damaged, and each repository that the disk stored became that after the commit. Where no name counted for it
-- had changed since the last sync, none has now, and a crash leaves a tree that recovers to that after the commit alone (the law
-- `at_rest`).
pub record IsCommitDone {D : Type 0} (disk : DiskModel D) (change : ChangeSet) (c c' : CatalogueParts) (ids : List TroveId) (old new : D) : Type 0 where
  pub troves : List TroveParts
  pub passes : Passes c (committed_contents c.troves (disk.reads old)) change troves
  pub ids_are : ids ≡ ids_of troves
  pub catalogue_is : c' ≡ catalogue_after troves c
  pub rests : MayCommit disk c' new
  pub contents : CanBeRead change.contents c'.troves (disk.reads new)
  pub stores : (r : RepositoryState) → StoresRepository (disk.reads old) r → StoresRepository (disk.reads new) (after_commit troves change.contents r)
  -- no name became unsynced
  pub calm : (q : Name) → IsUnsynced disk new q → IsUnsynced disk old q
  pub settled : (r : RepositoryState) → StoresRepository (disk.reads old) r → IsSyncedFor disk old r → IsSyncedFor disk new (after_commit troves change.contents r)

-- a carried content of this name, that was committed, is damaged at this path
pub record IsDamagedSource (contents : List Carried) (troves : List TroveParts) (tree : Tree) (path : Name) : Type 0 where
  pub content : Carried
  pub listed : Contains contents content
  pub damaged : IsDamagedContent troves content.name tree path

-- no committed content of a carried one's name is damaged
abbrev pub AreSound : List Carried → List TroveParts → Tree → Type 0
AreSound contents troves tree = All (λ (c : Carried). (path : Name) → IsDamagedContent troves c.name tree path → ⊥) contents

-- Why it stopped, where the disk tells its tree. What is refused, or stops at a damaged content, changes nothing.
abbrev pub CommitStopsSo : {D : Type 0} → DiskModel D → ChangeSet → CatalogueParts → CatalogueParts → D → D → Stop → Type 0
CommitStopsSo disk change c c' old new (Refused refusal) = HasRead disk old new (IsRefused c (committed_contents c.troves (disk.reads old)) change refusal) × (c' ≡ c)
CommitStopsSo disk change c c' old new (Damaged path) = HasRead disk old new (IsDamagedSource change.contents c.troves (disk.reads old) path) × (c' ≡ c)
CommitStopsSo disk change c c' old new Failed = Unit {0}
CommitStopsSo disk change c c' old new Memory = Unit {0}
CommitStopsSo disk change c c' old new FarFailed = ⊥
CommitStopsSo disk change c c' old new (FarDamaged path) = ⊥

-- on every disk: a fault only where the count rose, and none of another disk
abbrev pub HasCommitCause : ℕ → ℕ → Stop → Type 0
HasCommitCause before now Failed = Rose before now
HasCommitCause before now Memory = Unit {0}
HasCommitCause before now (Refused refusal) = Unit {0}
HasCommitCause before now (Damaged path) = Unit {0}
HasCommitCause before now FarFailed = ⊥
HasCommitCause before now (FarDamaged path) = ⊥

abbrev pub EndsSo : {D : Type 0} → DiskModel D → ChangeSet → CatalogueParts → CatalogueParts → D → D → Result (List TroveId) Stop → Type 0
EndsSo disk change c c' old new (Ok ids) = IsCommitDone disk change c c' ids old new
EndsSo disk change c c' old new (Err stop) = CommitStopsSo disk change c c' old new stop

-- There is one repository, that before or that after the commit, such that at every moment a crash leaves a tree that recovers to
-- the one before or to it; and so does what the disk reads at the end.
pub record HasMoments {D : Type 0} (disk : DiskModel D) (change : ChangeSet) (old new : D) (r : RepositoryState) : Type 0 where
  pub next : RepositoryState
  pub is : IsOldOrNew r change next
  pub images : LeavesOnly disk old new (RecoversToEitherRepository r next)
  pub reads : RecoversToEitherRepository r next (disk.reads new)

abbrev pub AtEveryMoment : {D : Type 0} → DiskModel D → ChangeSet → D → D → RepositoryState → Type 0
AtEveryMoment disk change old new r = StoresRepository (disk.reads old) r → IsSyncedFor disk old r → HasMoments disk change old new r

-- ---- the tests

abbrev pub TestEnds : Bool → ChangeSet → CatalogueParts → Tree → Result CatalogueParts Stop → ℕ → ℕ → Type 0
TestEnds told change c tree (Ok added) before now = IsTrue told → Passes c (committed_contents c.troves tree) change added.troves
TestEnds told change c tree (Err (Refused refusal)) before now = IsTrue told → IsRefused c (committed_contents c.troves tree) change refusal
TestEnds told change c tree (Err (Damaged path)) before now = IsTrue told → IsDamagedSource change.contents c.troves tree path
TestEnds told change c tree (Err Failed) before now = Rose before now
TestEnds told change c tree (Err Memory) before now = Unit {0}
TestEnds told change c tree (Err FarFailed) before now = ⊥
TestEnds told change c tree (Err (FarDamaged path)) before now = ⊥

-- the tests of a commit only read the disk
pub record TestsChange {D : Type 0} (disk : DiskModel D) (change : ChangeSet) (c : CatalogueParts) (old new : D) (result : Result CatalogueParts Stop) : Type 0 where
  pub later : disk.faults old ≤ disk.faults new
  pub same : IsTrue disk.tells → HasRead disk old new (Unit {0})
  pub ends : TestEnds disk.tells change c (disk.reads old) result (disk.faults old) (disk.faults new)

-- What holds on every disk where the tests pass: the troves are made, and where there are any, none has a missing reference,
-- and there is room for a commit.
pub record MayBeAdded (c : CatalogueParts) (parts : List Part) (troves : List TroveParts) : Type 0 where
  pub made : AreMade c.troves parts troves
  pub refs : troves ≢ [] → missing_ref (c.troves ++ troves) (refs_of troves) ≡ None
  pub few : troves ≢ [] → c.commits < COMMITS_LIMIT
