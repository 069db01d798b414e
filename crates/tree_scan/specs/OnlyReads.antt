-- Runs of calls that only read a disk, and how they end.
use Rattle.std.specs.Prelude.{ℕ, ◌≤◌, Bool, IsTrue, Result, Ok, Err}
use Rattle.tree_disk.specs.cny-base.Count.{Rose}
use Rattle.tree_disk.specs.cny-base.declared.refusal.Refusal.{Refusal}
use Rattle.tree_disk.specs.cny-base.declared.stop.Stop.{Stop}
use Rattle.tree_disk.specs.cny-base.declared.stop.Stop.TheVariants.{Refused, Memory, Failed, Damaged, FarFailed, FarDamaged}
use Rattle.tree_disk.specs.Tree.{Tree}
use Rattle.tree_disk.specs.Disk.{DiskModel, HasRead}

-- How a run ends: where the disk tells its tree, with a value of which P holds, or with a refusal of which Q holds; else with a fault
-- or want of memory.
abbrev pub ReadEnds : {X : Type 0} → Bool → (X → Type 0) → (Refusal → Type 0) → Result X Stop → ℕ → ℕ → Type 0
ReadEnds told P Q (Ok x) before now = IsTrue told → P x
ReadEnds told P Q (Err (Refused refusal)) before now = IsTrue told → Q refusal
ReadEnds told P Q (Err Failed) before now = Rose before now
ReadEnds told P Q (Err Memory) before now = Unit {0}
ReadEnds told P Q (Err (Damaged path)) before now = ⊥
ReadEnds told P Q (Err FarFailed) before now = ⊥
ReadEnds told P Q (Err (FarDamaged path)) before now = ⊥

-- A run that only reads: what it finds in the tree, and why it refuses.
pub record OnlyReads {D X : Type 0} (disk : DiskModel D) (P : Tree → X → Type 0) (Q : Tree → Refusal → Type 0) (old new : D) (result : Result X Stop) : Type 0 where
  pub later : disk.faults old ≤ disk.faults new
  pub same : IsTrue disk.tells → HasRead disk old new (Unit {0})
  pub ends : ReadEnds disk.tells (P (disk.reads old)) (Q (disk.reads old)) result (disk.faults old) (disk.faults new)

-- How a run that only reads may stop, on every disk, also on one that tells nothing: by a refusal of which Q holds, by a fault of the
-- disk, or for want of memory.
abbrev pub IsStopBy : (Refusal → Type 0) → Stop → Type 0
IsStopBy Q (Refused why) = Q why
IsStopBy Q Memory = Unit {0}
IsStopBy Q Failed = Unit {0}
IsStopBy Q (Damaged path) = ⊥
IsStopBy Q FarFailed = ⊥
IsStopBy Q (FarDamaged path) = ⊥
