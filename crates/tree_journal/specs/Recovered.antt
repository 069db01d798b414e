-- What a recovery makes of a disk, and what it leaves.
use Rattle.std.specs.Prelude.{◌≡◌, ◌≤◌, false, IsTrue, Result, OnOk, IfErr}
use Rattle.journal_log.specs.cny-base.Count.{Rose}
use Rattle.journal_log.specs.cny-base.declared.refusal.Refusal.{Refusal}
use Rattle.journal_log.specs.cny-base.declared.refusal.Refusal.TheVariants as refusal
use Rattle.journal_log.specs.cny-base.declared.stop.Stop.{Stop}
use Rattle.journal_log.specs.cny-base.declared.stop.Stop.TheVariants as stop
use Rattle.journal_log.specs.tree-disk.Tree.{Name, Tree}
use Rattle.journal_log.specs.tree-disk.Disk.{DiskModel}
use Rattle.journal_log.specs.tree-disk.Confined.{Among, Confined, LeavesOnly}
use Rattle.journal_log.specs.tree-disk.Steps.{no_name}
use Rattle.journal_log.specs.tree-disk.Unfailed.{UnlessFailed}
use Rattle.tree_journal.specs.Recovering.{IsVisibleIn}
use Rattle.tree_journal.specs.Recovery.{is_committed, RecoversTo, RecoversAsThen, HasBlockedLog, IsDamagedAt, IsRecovered}

-- the tree recovers to none
abbrev pub RecoversToNone : Name → Tree → Type 0
RecoversToNone base tree = (recovered : Tree) → RecoversTo base tree recovered → ⊥

-- The tree recovers to all that it recovered to before; where its commit flag wasn't set, it is the same.
pub record IsKept (base : Name) (before after : Tree) : Type 0 where
  pub still : (recovered : Tree) → RecoversTo base before recovered → RecoversTo base after recovered
  pub same : is_committed base before ≡ false → after ≡ before

-- the refusal of a path, for what stands there
abbrev pub IsPathRefusal : Refusal → Type 0
IsPathRefusal r = (path : Name) × (r ≡ refusal.Parent path)

-- The log behind a set commit flag can't be put, and this is the refusal of its first such path.
pub record RefusesLog (base : Name) (tree : Tree) (r : Refusal) : Type 0 where
  pub path : Name
  pub refused : r ≡ refusal.Parent path
  pub blocked : HasBlockedLog base tree path

-- the log behind its set commit flag, or a file that it stages, is damaged, and the tree is as it was
pub record HasDamagedLog {D : Type 0} (disk : DiskModel D) (base : Name) (old new : D) (path : Name) : Type 0 where
  pub damaged : IsDamagedAt base (disk.reads old) path
  pub same : disk.reads new ≡ disk.reads old

-- why a disk isn't recovered
abbrev pub RecoveryStops : {D : Type 0} → DiskModel D → Name → D → D → Stop → Type 0
RecoveryStops disk base old new stop.Failed = Rose (disk.faults old) (disk.faults new)
RecoveryStops disk base old new stop.Memory = Unit {0}
RecoveryStops disk base old new (stop.Refused r) = IsPathRefusal r × (IsTrue disk.tells → (disk.reads new ≡ disk.reads old) × RefusesLog base (disk.reads old) r)
RecoveryStops disk base old new (stop.Damaged path) = IsTrue disk.tells → HasDamagedLog disk base old new path
RecoveryStops disk base old new stop.FarFailed = ⊥
RecoveryStops disk base old new (stop.FarDamaged path) = ⊥

-- What a crash left of a disk is recovered.
pub record RecoversAt {D : Type 0} (disk : DiskModel D) (base : Name) (old new : D) (result : Result (Unit {0}) Stop) : Type 0 where
  pub later : disk.faults old ≤ disk.faults new
  pub images : IsTrue disk.tells → LeavesOnly disk old new (RecoversAsThen disk base old)
  pub seen : IsTrue disk.tells → UnlessFailed disk old new (IsVisibleIn base (disk.reads old))
  pub recovered : IsTrue disk.tells → OnOk result (IsRecovered disk base old new)
  pub kept : IsTrue disk.tells → IsKept base (disk.reads old) (disk.reads new)
  pub untouched : IsTrue disk.tells → RecoversToNone base (disk.reads old) → Confined disk (Among no_name) old new
  pub clear : IsTrue disk.tells → is_committed base (disk.reads old) ≡ false → Confined disk (Among no_name) old new
  pub stops : IfErr result (RecoveryStops disk base old new)
