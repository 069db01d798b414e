-- What a pull does to a disk.
use Rattle.std.specs.Prelude.{◌≡◌, ℕ, ◌≤◌, Bool, IsTrue, Result, Ok, Err}
use Rattle.journal_log.specs.cny-base.Count.{Rose}
use Rattle.journal_log.specs.tree-disk.Tree.{Name, Tree}
use Rattle.journal_log.specs.tree-disk.Disk.{DiskModel}
use Rattle.journal_log.specs.tree-disk.Confined.{Among, Confined}
use Rattle.change_pull.specs.declared.halt.Halt.{Halt}
use Rattle.change_pull.specs.declared.halt.Halt.TheVariants.{Malformed, TooLarge, Failed, Memory}

-- why it stopped: where the disk failed, its count of faults rose
abbrev pub HasHaltCause : ℕ → ℕ → Halt → Type 0
HasHaltCause before now Failed = Rose before now
HasHaltCause before now Memory = Unit {0}
HasHaltCause before now (Malformed at) = Unit {0}
HasHaltCause before now (TooLarge size) = Unit {0}

abbrev pub HasCause : {X : Type 0} → ℕ → ℕ → Result X Halt → Type 0
HasCause before now (Ok x) = Unit {0}
HasCause before now (Err halt) = HasHaltCause before now halt

-- The count of faults never falls, and rose where the disk failed. However it ends, no other name than these changed, became
-- unsynced, or may be left changed by a crash at any moment.
pub record Keeps {D X : Type 0} (disk : DiskModel D) (names : Name → Bool) (old new : D) (result : Result X Halt) : Type 0 where
  pub later : disk.faults old ≤ disk.faults new
  pub cause : HasCause (disk.faults old) (disk.faults new) result
  pub confined : IsTrue disk.tells → Confined disk (Among names) old new

abbrev pub OnDone : {X : Type 0} → Result X Halt → Type 0 → Type 0
OnDone (Ok x) P = P
OnDone (Err halt) P = Unit {0}

-- It keeps to these names, and where it is done the tree is what the change makes of it.
pub record Writes {D X : Type 0} (disk : DiskModel D) (names : Name → Bool) (change : Tree → Tree) (old new : D) (result : Result X Halt) : Type 0 where
  pub keeps : Keeps disk names old new result
  pub done : OnDone result (IsTrue disk.tells → disk.reads new ≡ change (disk.reads old))
