-- How a text file of a root is read: within its limit, and with nothing changed.
use Rattle.std.specs.Prelude.{ℕ, ◌≤◌, Bool, IsTrue, List, length, nat_lt, if◌then◌else◌, Result, Ok, Err}
use Rattle.repo_index.specs.cny-base.Count.{Rose}
use Rattle.repo_index.specs.cny-base.declared.limits.TheConstants.{CONFIG_LIMIT}
use Rattle.repo_index.specs.cny-base.declared.refusal.Refusal.{Refusal}
use Rattle.repo_index.specs.cny-base.declared.refusal.Refusal.TheVariants as refusal
use Rattle.repo_index.specs.cny-base.declared.refusal.What.{What}
use Rattle.repo_index.specs.cny-base.declared.stop.Stop.{Stop}
use Rattle.repo_index.specs.cny-base.declared.stop.Stop.TheVariants.{Refused, Memory, Failed, Damaged, FarFailed, FarDamaged}
use Rattle.tree_disk.specs.Tree.{Tree}
use Rattle.tree_disk.specs.Disk.{DiskModel, HasRead}

-- the bytes, unless there are more of them than the limit
abbrev pub within_limit : What → List ℕ → Result (List ℕ) Refusal
within_limit what bytes = if nat_lt CONFIG_LIMIT (length bytes) then Err (refusal.TooLarge what (length bytes)) else Ok bytes

-- Where the disk tells its tree, with what the file says, or with its refusal; else with a fault or want of memory.
abbrev pub Ends : {V : Type 0} → Bool → (Result V Refusal → Type 0) → Result V Stop → ℕ → ℕ → Type 0
Ends told P (Ok value) before now = IsTrue told → P (Ok value)
Ends told P (Err (Refused refused)) before now = IsTrue told → P (Err refused)
Ends told P (Err Failed) before now = Rose before now
Ends told P (Err Memory) before now = Unit {0}
Ends told P (Err (Damaged path)) before now = ⊥
Ends told P (Err FarFailed) before now = ⊥
Ends told P (Err (FarDamaged path)) before now = ⊥

-- What a tree's file says was read, and nothing was changed.
pub record ReadsFile {V D : Type 0} (Says : Tree → Result V Refusal → Type 0) (disk : DiskModel D) (old new : D) (result : Result V Stop) : Type 0 where
  pub later : disk.faults old ≤ disk.faults new
  pub same : IsTrue disk.tells → HasRead disk old new (Unit {0})
  pub ends : Ends disk.tells (Says (disk.reads old)) result (disk.faults old) (disk.faults new)
