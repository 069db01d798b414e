-- How a disk is opened: what a crash left is recovered, and what it stores is read.
use Rattle.std.specs.Prelude.{◌≡◌, ◌⊎◌, ◌≤◌, false, IsTrue, Result, Ok, Err, IfOk, IfErr}
use Rattle.system_core.specs.cny-base.Count.{Rose}
use Rattle.system_core.specs.cny-base.declared.refusal.Refusal.{Refusal}
use Rattle.system_core.specs.cny-base.declared.stop.Stop.{Stop}
use Rattle.system_core.specs.cny-base.declared.stop.Stop.TheVariants as stop
use Rattle.system_core.specs.tree-disk.Tree.{Name, Tree}
use Rattle.system_core.specs.tree-disk.Disk.{DiskModel, HasRead}
use Rattle.system_core.specs.tree-disk.Confined.{Among, Confined, LeavesOnly}
use Rattle.system_core.specs.tree-disk.Steps.{no_name}
use Rattle.system_core.specs.tree-disk.Unfailed.{UnlessFailed}
use Rattle.system_core.specs.journal-log.Own.{StoresSame}
use Rattle.system_core.specs.tree-journal.Recovering.{IsVisibleIn}
use Rattle.system_core.specs.tree-journal.Recovery.{is_committed, RecoversTo, RecoversAsThen}
use Rattle.system_core.specs.tree-journal.Recovered.{HasDamagedLog, RecoversToNone, IsKept, IsPathRefusal, RefusesLog}
use Rattle.cny_laws.specs.Store.{Store, HasDamageAtOpening, IsSettled}

-- A disk that was opened: it rests, a crash leaves just what it reads, it stores the same as all that it recovered to, and this is
-- what was read of it.
pub record IsOpen {D X V : Type 0} (store : Store X) (disk : DiskModel D) (tests : Tree → Result (Unit {0}) Refusal) (IsRead : Tree → V → Type 0) (old new : D) (value : V) : Type 0 where
  pub settled : IsSettled disk store.base new
  pub fixed : tests (disk.reads old) ≡ Ok tt
  pub recovers : RecoversTo store.base (disk.reads old) (disk.reads new)
  pub stores : (tree : Tree) → RecoversTo store.base (disk.reads old) tree → StoresSame store.base (disk.reads new) tree
  pub value_is : IsRead (disk.reads new) value

-- A disk's log is damaged; or it was recovered, and a file that is read when it is opened is.
abbrev pub MeetsDamage : {D X : Type 0} → Store X → DiskModel D → D → D → Name → Type 0
MeetsDamage store disk old new path = IsTrue disk.tells → HasDamagedLog disk store.base old new path ⊎ HasDamageAtOpening store (disk.reads new) path

-- its log can't be put, or it fails the tests; the tree is as it was
pub record RefusesTold {D : Type 0} (disk : DiskModel D) (base : Name) (tests : Tree → Result (Unit {0}) Refusal) (old new : D) (r : Refusal) : Type 0 where
  pub same : disk.reads new ≡ disk.reads old
  pub cause : RefusesLog base (disk.reads old) r ⊎ (tests (disk.reads old) ≡ Err r)

-- Whatever the disk tells, the refusal is that of a path; and this is why, where it is told.
pub record RefusesOpening {D : Type 0} (disk : DiskModel D) (base : Name) (tests : Tree → Result (Unit {0}) Refusal) (old new : D) (r : Refusal) : Type 0 where
  pub of_path : IsPathRefusal r
  pub told : IsTrue disk.tells → RefusesTold disk base tests old new r

-- why a disk isn't opened
abbrev pub OpeningStops : {D X : Type 0} → Store X → DiskModel D → (Tree → Result (Unit {0}) Refusal) → D → D → Stop → Type 0
OpeningStops store disk tests old new stop.Failed = Rose (disk.faults old) (disk.faults new)
OpeningStops store disk tests old new stop.Memory = Unit {0}
OpeningStops store disk tests old new (stop.Refused r) = RefusesOpening disk store.base tests old new r
OpeningStops store disk tests old new (stop.Damaged path) = MeetsDamage store disk old new path
OpeningStops store disk tests old new _ = ⊥

-- A disk is opened. At every moment a crash leaves an image at entry, or a tree that recovers to all that the disk, as it read then,
-- recovers to; however it ends, it recovers to all that it recovered to.
pub record Opens {D X V : Type 0} (store : Store X) (disk : DiskModel D) (tests : Tree → Result (Unit {0}) Refusal) (IsRead : Tree → V → Type 0) (old new : D) (result : Result V Stop) : Type 0 where
  pub later : disk.faults old ≤ disk.faults new
  pub images : IsTrue disk.tells → LeavesOnly disk old new (RecoversAsThen disk store.base old)
  pub seen : IsTrue disk.tells → UnlessFailed disk old new (IsVisibleIn store.base (disk.reads old))
  pub opened : IsTrue disk.tells → IfOk result (IsOpen store disk tests IsRead old new)
  pub kept : IsTrue disk.tells → IsKept store.base (disk.reads old) (disk.reads new)
  -- where a test fails, the disk is only read; where it recovers to no tree, or its commit flag isn't set, it is left as it stands
  pub missing : IsTrue disk.tells → (r : Refusal) → tests (disk.reads old) ≡ Err r → HasRead disk old new (Unit {0})
  pub untouched : IsTrue disk.tells → RecoversToNone store.base (disk.reads old) → Confined disk (Among no_name) old new
  pub clear : IsTrue disk.tells → is_committed store.base (disk.reads old) ≡ false → Confined disk (Among no_name) old new
  pub stops : IfErr result (OpeningStops store disk tests old new)

-- a disk without tests
abbrev pub no_test : Tree → Result (Unit {0}) Refusal
no_test tree = Ok tt
