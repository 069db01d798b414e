-- What a job asks of its targets and of the root, and how it ends.
use Rattle.std.specs.Prelude.{◌≡◌, ◌≢◌, ◌⊎◌, ℕ, ◌+◌, Bool, false, IsTrue, List, map, Option, Some, None, Result, Ok, Err, All}
use Rattle.std.specs.FinMap.{get}
use Rattle.rollback_stack.specs.cny-base.Path.{parent}
use Rattle.rollback_stack.specs.cny-base.Reserved.{private_directory, is_reserved}
use Rattle.rollback_stack.specs.cny-base.declared.refusal.Refusal.{Refusal}
use Rattle.rollback_stack.specs.cny-base.declared.stop.Stop.{Stop}
use Rattle.rollback_stack.specs.cny-base.declared.stop.Stop.TheVariants.{Refused, Memory, Failed, Damaged, FarFailed, FarDamaged}
use Rattle.rollback_stack.specs.journal-log.declared.put.Put.{Put}
use Rattle.rollback_stack.specs.journal-log.declared.put.Want.TheVariants as want
use Rattle.rollback_stack.specs.journal-log.Targets.{node_of, with_targets}
use Rattle.job_targets.specs.declared.entry.Entry.{Entry}
use Rattle.job_targets.specs.Agree.{AllAgree}
use Rattle.job_targets.specs.Old.{is_staged}
use Rattle.rollback_stack.specs.trove-stream.declared.parts.TroveParts.{TroveParts}
use Rattle.rollback_stack.specs.tree-disk.Tree.{Name, Tree, is_dir, AgreesOutside, WellFormed}
use Rattle.rollback_stack.specs.tree-disk.Rows.{is_dir_at}
use Rattle.rollback_stack.specs.tree-disk.Disk.{DiskModel}
use Rattle.rollback_stack.specs.tree-disk.Confined.{IsSynced, LeavesOnly}
use Rattle.tree_journal.specs.Recovery.{is_committed, RecoversTo}
use Rattle.rollback_stack.specs.tree-scan.declared.mark.Mark.TheVariants as mark
use Rattle.rollback_stack.specs.tree-scan.Marks.{fingerprint}
use Rattle.local_db.specs.declared.format.Format.TheVariants.{Two}
use Rattle.local_db.specs.Record as state
use Rattle.local_db.specs.Formats.{database_bytes}
use Rattle.local_db.specs.Names.{database}
use Rattle.local_db.specs.SystemState.{SystemState, newest, oldest, IsFree, IsTellable}
use Rattle.local_db.specs.Stores.{HoldsDatabase, IsDatabase}
use Rattle.local_db.specs.Steps.{after_job, old_of, paths_of, pushed, want_of}
use Rattle.local_db.specs.declared.db.Db.{Db}
use Rattle.rollback_stack.specs.Saving.{IsUntoldCollision}
use Rattle.rollback_stack.specs.job-record.Changed.{AreChangedNames}
use Rattle.rollback_stack.specs.Entries.{AreEntries, entries_of}
use Rattle.system_core.specs.RootWriting.{TakesRoot}
use Rattle.system_core.specs.Last.{ChangesNeither, IsRefusedLast, PassesLast, db_after}

-- ---- what is asked

-- what stands at the path of a target, and the fingerprint of what is to stand there
abbrev pub entry_over : Tree → Put → Entry
entry_over x p = record { path = p.path; was = want_of (get x p.path); mark = fingerprint (node_of p.want) }

abbrev pub entries_over : Tree → List Put → List Entry
entries_over x puts = map (entry_over x) puts

-- at one of the two moments something stands at the path
abbrev pub StandsBeforeOrAfter : state.Entry → Type 0
StandsBeforeOrAfter e = (e.was ≡ mark.Nothing) × (e.now ≡ mark.Nothing) → ⊥

-- The targets of a job and the entries of its record, as values: on every disk.
pub record AreRecordedTargets (puts : List Put) (es : List Entry) : Type 0 where
  pub free : All (λ (p : Put). IsFree p.path) puts
  pub given : All (λ (p : Put). is_staged p.want ≡ false) puts
  pub paths : map (λ (e : Entry). e.path) es ≡ paths_of puts
  pub entries : AreEntries es
  pub something : All StandsBeforeOrAfter (entries_of es)
  pub agree : AllAgree es

-- Each target changes what stands at its path in the tree, which a record can tell; the entries are those of the targets; and the
-- tree with all targets is well formed.
pub record AreTargetsOf (x : Tree) (puts : List Put) (es : List Entry) : Type 0 where
  pub changes : All (λ (p : Put). get x p.path ≢ node_of p.want) puts
  pub before : All (λ (p : Put). IsTellable (get x p.path)) puts
  pub entries : es ≡ entries_over x puts
  pub well_formed : WellFormed (with_targets puts x)

-- A root on which the job may be written: at rest, with this database in format 2 and these targets.
pub record CanWriteJob {D : Type 0} (disk : DiskModel D) (db : Db) (puts : List Put) (es : List Entry) (d : D) : Type 0 where
  pub flag_clear : is_committed private_directory (disk.reads d) ≡ false
  pub synced : IsSynced disk d
  pub pinned : IsTrue (is_dir_at (disk.reads d) (parent private_directory))
  pub holds : HoldsDatabase Two (disk.reads d) db.installed db.oldest db.newest
  pub targets : AreTargetsOf (disk.reads d) puts es

-- the same, whatever the database
pub record CanPutJob {D : Type 0} (disk : DiskModel D) (puts : List Put) (es : List Entry) (d : D) : Type 0 where
  pub flag_clear : is_committed private_directory (disk.reads d) ≡ false
  pub synced : IsSynced disk d
  pub pinned : IsTrue (is_dir_at (disk.reads d) (parent private_directory))
  pub no_dir : is_dir (get (disk.reads d) database) ≡ false
  pub targets : AreTargetsOf (disk.reads d) puts es

-- ---- what is made of it

-- the write of the database with these bytes
abbrev pub database_write : List ℕ → Put
database_write bytes = record { path = database; want = want.File 420 bytes }

-- What is made of a job before it is written: the names whose trove it changes, the database after it, and that database's bytes.
pub record IsJobMade (before : Db) (list : List TroveParts) (names : List Name) (db : Db) (bytes : List ℕ) : Type 0 where
  pub db_is : db ≡ db_after before list
  pub database : IsDatabase Two db.installed db.oldest db.newest
  pub next : db.newest ≡ before.newest + 1
  pub names_are : AreChangedNames before.installed db.installed names
  pub text : bytes ≡ database_bytes Two db.installed db.oldest db.newest

-- The list before it and the database after it are those of a job from this system.
pub record IsJobFrom (s : SystemState) (puts : List Put) (before : List TroveParts) (db : Db) : Type 0 where
  pub newest_is : db.newest ≡ newest s.stack + 1
  pub oldest_is : db.oldest ≡ oldest (pushed (old_of puts s) s.stack)
  pub list_is : before ≡ s.installed

-- ---- how it ends

abbrev pub done : Result (Unit {0}) Stop
done = Ok tt

-- How a job ends from a system that the root stored. With a number: from that system to the one after the job. Without one, or
-- refused: no call of the disk was made. After a fault or want of memory: on the way from the one to the other.
abbrev pub JobEnds : {D : Type 0} → DiskModel D → List Put → List TroveParts → SystemState → D → D → Result (Option ℕ) Stop → Type 0
JobEnds disk puts list s old new (Ok (Some number)) = (number ≡ newest s.stack + 1) × TakesRoot disk Two s (after_job puts list s) puts old new done
JobEnds disk puts list s old new (Ok None) = new ≡ old
JobEnds disk puts list s old new (Err (Refused why)) = new ≡ old
JobEnds disk puts list s old new (Err Failed) = TakesRoot disk Two s (after_job puts list s) puts old new (Err Failed)
JobEnds disk puts list s old new (Err Memory) = TakesRoot disk Two s (after_job puts list s) puts old new (Err Memory)
JobEnds disk puts list s old new (Err (Damaged path)) = ⊥
JobEnds disk puts list s old new (Err FarFailed) = ⊥
JobEnds disk puts list s old new (Err (FarDamaged path)) = ⊥

-- What is answered, by the values: the number of the job and the database after it where the last tests pass, none and the same
-- database where nothing changes. After an error the database is as it was.
abbrev pub AnswersJob : Db → List TroveParts → List Put → Db → Result (Option ℕ) Stop → Type 0
AnswersJob db list puts new (Ok (Some number)) = (number ≡ db.newest + 1) × (new ≡ db_after db list) × PassesLast db list puts
AnswersJob db list puts new (Ok None) = (new ≡ db) × ChangesNeither db list puts
AnswersJob db list puts new (Err stop) = new ≡ db

-- The last tests passed; and where the disk tells nothing, an old content collides while it is saved.
pub record CollidesWriting (told : Bool) (db : Db) (list : List TroveParts) (puts : List Put) (why : Refusal) : Type 0 where
  pub passes : PassesLast db list puts
  pub collision : IsUntoldCollision told why

-- Why it stopped: a fault or want of memory, once the last tests passed; or the first of them that fails; or such a collision.
abbrev pub IsJobStop : Bool → Type 0 → Db → List TroveParts → List Put → Stop → Type 0
IsJobStop told rose db list puts Failed = rose × PassesLast db list puts
IsJobStop told rose db list puts Memory = Unit {0}
IsJobStop told rose db list puts (Refused why) = IsRefusedLast db list puts why ⊎ CollidesWriting told db list puts why
IsJobStop told rose db list puts (Damaged path) = ⊥
IsJobStop told rose db list puts FarFailed = ⊥
IsJobStop told rose db list puts (FarDamaged path) = ⊥

-- ---- of trees, also on a root that stores no system

-- outside the private directory the tree is the one before with all targets
abbrev pub HasTargets : {D : Type 0} → DiskModel D → List Put → D → D → Type 0
HasTargets disk puts old new = AgreesOutside is_reserved (disk.reads new) (with_targets puts (disk.reads old))

-- An image recovers to a tree that is equal to this one outside the private directory, and holds this database.
pub record RecoversToHeld (tree : Tree) (db : Db) (image : Tree) : Type 0 where
  pub recovered : Tree
  pub recovers : RecoversTo private_directory image recovered
  pub outer : AgreesOutside is_reserved recovered tree
  pub holds : HoldsDatabase Two recovered db.installed db.oldest db.newest

-- At every moment a crash leaves a tree that recovers to the tree and the database before a job, or to those after it.
abbrev pub MovesTrees : {D : Type 0} → DiskModel D → List Put → Db → Db → D → D → Type 0
MovesTrees disk puts before after old new = LeavesOnly disk old new (λ image. RecoversToHeld (disk.reads old) before image ⊎ RecoversToHeld (with_targets puts (disk.reads old)) after image)

-- the same from whatever database the root holds
abbrev pub MovesHeld : {D : Type 0} → DiskModel D → List Put → Db → D → D → Type 0
MovesHeld disk puts after old new = (before : Db) → HoldsDatabase Two (disk.reads old) before.installed before.oldest before.newest → MovesTrees disk puts before after old new
