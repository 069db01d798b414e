-- What emptying the directory of staged bytes asks and leaves.
use Rattle.std.specs.Prelude.{◌≡◌, ◌≤◌, Bool, false, ◌||◌, IsTrue, None, Result, OnOk, IfErr, IsErrOf}
use Rattle.std.specs.FinMap.{get}
use Rattle.journal_log.specs.cny-base.Count.{Rose}
use Rattle.journal_log.specs.cny-base.Below.{is_below}
use Rattle.journal_log.specs.cny-base.Path.{parent}
use Rattle.journal_log.specs.cny-base.declared.stop.Stop.{Stop}
use Rattle.journal_log.specs.cny-base.declared.stop.Stop.TheVariants.{Failed}
use Rattle.journal_log.specs.tree-disk.Tree.{Name, Tree, same_name}
use Rattle.journal_log.specs.tree-disk.Rows.{is_dir_at}
use Rattle.journal_log.specs.tree-disk.Clear.{is_within}
use Rattle.journal_log.specs.tree-disk.Disk.{DiskModel}
use Rattle.journal_log.specs.tree-disk.Confined.{Among, Confined, IsUnsynced, LeavesOnly}
use Rattle.journal_log.specs.tree-disk.Steps.{IsDiskStop}
use Rattle.journal_log.specs.Own.{gate, staged}
use Rattle.tree_journal.specs.Apply.{IsAsBefore}
use Rattle.tree_journal.specs.Recovery.{is_committed}

-- the base, the directory of staged bytes, and what lies below that
abbrev pub is_stage_name : Name → Name → Bool
is_stage_name base q = same_name q base || is_within (staged base) q

-- The directory may be emptied: the parent of the base is a directory, and the commit flag isn't set, also after a crash.
pub record CanEmptyStage {D : Type 0} (disk : DiskModel D) (base : Name) (d : D) : Type 0 where
  pub parent_stands : IsTrue (is_dir_at (disk.reads d) (parent base))
  pub flag_clear : is_committed base (disk.reads d) ≡ false
  pub flag_synced : disk.unsynced d (gate base) ≡ false

-- The base and the directory of staged bytes are directories, and nothing stands below that.
pub record HasEmptyStage (base : Name) (tree : Tree) : Type 0 where
  pub base_stands : IsTrue (is_dir_at tree base)
  pub stands : IsTrue (is_dir_at tree (staged base))
  pub empty : (q : Name) → IsTrue (is_below (staged base) q) → get tree q ≡ None

-- no other name is unsynced
abbrev pub IsSyncedElsewhere : {D : Type 0} → DiskModel D → Name → D → Type 0
IsSyncedElsewhere disk base d = (q : Name) → IsUnsynced disk d q → IsTrue (is_stage_name base q)

-- all that emptying it promises
pub record Empties {X D : Type 0} (disk : DiskModel D) (base : Name) (old new : D) (result : Result X Stop) : Type 0 where
  pub any_moment : IsTrue disk.tells → LeavesOnly disk old new (IsAsBefore disk base old)
  pub confined : IsTrue disk.tells → Confined disk (Among (is_stage_name base)) old new
  pub emptied : IsTrue disk.tells → OnOk result (HasEmptyStage base (disk.reads new))
  pub synced : IsTrue disk.tells → OnOk result (IsSyncedElsewhere disk base new)
  pub later : disk.faults old ≤ disk.faults new
  pub failed : IsErrOf result Failed → Rose (disk.faults old) (disk.faults new)
  pub stops : IfErr result IsDiskStop
