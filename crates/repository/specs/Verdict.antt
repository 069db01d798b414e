-- What tests answer.
use Rattle.std.specs.Prelude.{◌≡◌, ℕ, ◌≤◌, Bool, IsTrue, Option, Some, None, Result, Ok, Err}
use Rattle.repo_load.specs.cny-base.Count.{Rose}
use Rattle.repo_load.specs.cny-base.declared.refusal.Fault.{Fault}
use Rattle.repo_load.specs.cny-base.declared.refusal.Fault.TheVariants as fault
use Rattle.repo_load.specs.cny-base.declared.refusal.Refusal.{Refusal}
use Rattle.repo_load.specs.cny-base.declared.stop.Stop.{Stop}
use Rattle.repo_load.specs.cny-base.declared.stop.Stop.TheVariants.{Refused, Memory, Failed, Damaged, FarFailed, FarDamaged}
use Rattle.repo_load.specs.tree-disk.Tree.{Name, Tree}
use Rattle.repo_load.specs.tree-disk.Disk.{DiskModel, HasRead}

-- the answer is this refusal, and where there is none, that the test passed; or memory ran out
abbrev pub IsVerdict : {X : Type 0} → Option Refusal → Result X Fault → Type 0
IsVerdict refusal (Ok x) = refusal ≡ None
IsVerdict refusal (Err (fault.Refused given)) = refusal ≡ Some given
IsVerdict refusal (Err fault.Memory) = Unit {0}

-- The same of a test that reads a disk, where the disk tells its tree: it may also meet a damaged file, of which Q holds.
abbrev pub CheckEnds : Bool → Option Refusal → (Name → Type 0) → Result Unit Stop → ℕ → ℕ → Type 0
CheckEnds told refusal Q (Ok x) before now = IsTrue told → refusal ≡ None
CheckEnds told refusal Q (Err (Refused given)) before now = IsTrue told → refusal ≡ Some given
CheckEnds told refusal Q (Err (Damaged path)) before now = IsTrue told → Q path
CheckEnds told refusal Q (Err Failed) before now = Rose before now
CheckEnds told refusal Q (Err Memory) before now = Unit {0}
CheckEnds told refusal Q (Err FarFailed) before now = ⊥
CheckEnds told refusal Q (Err (FarDamaged path)) before now = ⊥

-- a test that only reads a disk
pub record Checks {D : Type 0} (disk : DiskModel D) (test : Tree → Option Refusal) (Q : Tree → Name → Type 0) (old new : D) (result : Result Unit Stop) : Type 0 where
  pub later : disk.faults old ≤ disk.faults new
  pub same : IsTrue disk.tells → HasRead disk old new (Unit {0})
  pub ends : CheckEnds disk.tells (test (disk.reads old)) (Q (disk.reads old)) result (disk.faults old) (disk.faults new)
