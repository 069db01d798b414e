-- What a feed does to a disk.
use Rattle.std.specs.Prelude.{ℕ, ◌≤◌, Bool, IsTrue, Result, Ok, Err}
use Rattle.journal_log.specs.cny-base.Count.{Rose}
use Rattle.journal_log.specs.cny-base.declared.stop.Stop.{Stop}
use Rattle.journal_log.specs.cny-base.declared.stop.Stop.TheVariants.{Refused, Memory, Failed, Damaged, FarFailed, FarDamaged}
use Rattle.journal_log.specs.tree-disk.Tree.{Name}
use Rattle.journal_log.specs.tree-disk.Disk.{DiskModel}
use Rattle.journal_log.specs.tree-disk.Confined.{Among, Confined}

-- why a feed stopped: where the disk failed, its count of faults rose
abbrev pub HasStopCause : ℕ → ℕ → Stop → Type 0
HasStopCause before now (Refused refusal) = Unit {0}
HasStopCause before now Memory = Unit {0}
HasStopCause before now Failed = Rose before now
HasStopCause before now (Damaged path) = ⊥
HasStopCause before now FarFailed = ⊥
HasStopCause before now (FarDamaged path) = ⊥

abbrev pub HasFeedCause : ℕ → ℕ → Result Unit Stop → Type 0
HasFeedCause before now (Ok u) = Unit {0}
HasFeedCause before now (Err stop) = HasStopCause before now stop

-- However it ends, no other name than these changed, became unsynced, or may be left changed by a crash at any moment.
pub record Feeds {D : Type 0} (disk : DiskModel D) (names : Name → Bool) (old new : D) : Type 0 where
  pub later : disk.faults old ≤ disk.faults new
  pub confined : IsTrue disk.tells → Confined disk (Among names) old new
