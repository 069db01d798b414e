-- Runs of calls that only read a disk, and how they end.
use Rattle.std.specs.Prelude.{ℕ, ◌≤◌, Bool, IsTrue, Result, Ok, Err}
use Rattle.repo_index.specs.cny-base.Count.{Rose}
use Rattle.repo_index.specs.cny-base.declared.stop.Stop.{Stop}
use Rattle.repo_index.specs.cny-base.declared.stop.Stop.TheVariants.{Refused, Memory, Failed, Damaged, FarFailed, FarDamaged}
use Rattle.journal_log.specs.tree-disk.Tree.{Name, Tree}
use Rattle.journal_log.specs.tree-disk.Disk.{DiskModel, HasRead}

-- How a run ends: where the disk tells its tree, with a value of which P holds, or at a damaged file, of which Q holds;
-- else with a fault or want of memory. It is never refused.
abbrev pub Ends : {X : Type 0} → Bool → (X → Type 0) → (Name → Type 0) → Result X Stop → ℕ → ℕ → Type 0
Ends told P Q (Ok x) before now = IsTrue told → P x
Ends told P Q (Err (Damaged path)) before now = IsTrue told → Q path
Ends told P Q (Err Failed) before now = Rose before now
Ends told P Q (Err Memory) before now = Unit {0}
Ends told P Q (Err (Refused refusal)) before now = ⊥
Ends told P Q (Err FarFailed) before now = ⊥
Ends told P Q (Err (FarDamaged path)) before now = ⊥

-- A run that only reads, what it finds in the tree, and which file of the tree it calls damaged.
pub record Looks {D X : Type 0} (disk : DiskModel D) (P : Tree → X → Type 0) (Q : Tree → Name → Type 0) (old new : D) (result : Result X Stop) : Type 0 where
  pub later : disk.faults old ≤ disk.faults new
  pub same : IsTrue disk.tells → HasRead disk old new (Unit {0})
  pub ends : Ends disk.tells (P (disk.reads old)) (Q (disk.reads old)) result (disk.faults old) (disk.faults new)

-- no file is damaged
abbrev pub no_damage : Tree → Name → Type 0
no_damage tree path = ⊥
