-- What a step over a disk does: a test only reads, and a change keeps to its names. Each ends with a value or a stop.
use Rattle.std.specs.Prelude.{◌≡◌, ℕ, ◌≤◌, Bool, false, IsTrue, Result, Ok, Err}
use Rattle.cny_base.specs.Count.{Rose}
use Rattle.cny_base.specs.declared.refusal.Refusal.{Refusal}
use Rattle.cny_base.specs.declared.stop.Stop.{Stop}
use Rattle.cny_base.specs.declared.stop.Stop.TheVariants.{Refused, Memory, Failed, Damaged, FarFailed, FarDamaged}
use Rattle.tree_disk.specs.declared.disk.DiskStop.{DiskStop}
use Rattle.tree_disk.specs.declared.disk.DiskStop.TheVariants as disk_stop
use Rattle.tree_disk.specs.Tree.{Name, Tree, AgreesOutside}
use Rattle.tree_disk.specs.Disk.{DiskModel, HasRead}
use Rattle.tree_disk.specs.Confined.{Among, Confined}

-- the disk failed, or no memory was left: the only stops of a single call
abbrev pub IsDiskStop : Stop → Type 0
IsDiskStop Failed = Unit
IsDiskStop Memory = Unit
IsDiskStop (Refused refusal) = ⊥
IsDiskStop (Damaged path) = ⊥
IsDiskStop FarFailed = ⊥
IsDiskStop (FarDamaged path) = ⊥

-- The answer of a call that was allowed, as that of a step. (That it is refused never comes.)
abbrev pub step_of : {X : Type 0} → Result X DiskStop → Result X Stop
step_of (Ok x) = Ok x
step_of (Err disk_stop.Failed) = Err Failed
step_of (Err disk_stop.Memory) = Err Memory
step_of (Err disk_stop.Refused) = Err Memory

-- How a test ends: where the disk tells its tree, with what the tree gives, a value or a refusal; else with a fault or
-- want of memory.
abbrev pub Found : {X Y : Type 0} → (X → Y) → Bool → Result Y Refusal → Result X Stop → ℕ → ℕ → Type 0
Found view told expected (Ok x) before now = IsTrue told → expected ≡ Ok (view x)
Found view told expected (Err (Refused refusal)) before now = IsTrue told → expected ≡ Err refusal
Found view told expected (Err Failed) before now = Rose before now
Found view told expected (Err Memory) before now = Unit
Found view told expected (Err (Damaged path)) before now = ⊥
Found view told expected (Err FarFailed) before now = ⊥
Found view told expected (Err (FarDamaged path)) before now = ⊥

-- A test of the tree: it changes nothing, and finds what the tree gives. The view makes the answer a value of the test.
pub record Tests {D X Y : Type 0} (disk : DiskModel D) (view : X → Y) (test : Tree → Result Y Refusal) (old new : D) (result : Result X Stop) : Type 0 where
  pub later : disk.faults old ≤ disk.faults new
  pub same : IsTrue disk.tells → HasRead disk old new Unit
  pub found : Found view disk.tells (test (disk.reads old)) result (disk.faults old) (disk.faults new)

-- How a change ends: where the disk tells its tree, with this tree; else with a fault or want of memory.
abbrev pub Ended : {X : Type 0} → Bool → Tree → Tree → Result X Stop → ℕ → ℕ → Type 0
Ended told after new (Ok x) before now = IsTrue told → new ≡ after
Ended told after new (Err Failed) before now = Rose before now
Ended told after new (Err Memory) before now = Unit
Ended told after new (Err (Refused refusal)) before now = ⊥
Ended told after new (Err (Damaged path)) before now = ⊥
Ended told after new (Err FarFailed) before now = ⊥
Ended told after new (Err (FarDamaged path)) before now = ⊥

-- A change of the tree at these names: where it ends well, the tree is what the change makes of it. However it ends, no
-- other name changed, became unsynced, or may be left changed by a crash at any moment.
pub record Makes {D X : Type 0} (disk : DiskModel D) (names : Name → Bool) (change : Tree → Tree) (old new : D) (result : Result X Stop) : Type 0 where
  pub later : disk.faults old ≤ disk.faults new
  pub ended : Ended disk.tells (change (disk.reads old)) (disk.reads new) result (disk.faults old) (disk.faults new)
  pub outside : IsTrue disk.tells → AgreesOutside names (disk.reads new) (disk.reads old)
  pub confined : IsTrue disk.tells → Confined disk (Among names) old new

-- the names of a step that changes nothing
abbrev pub no_name : Name → Bool
no_name p = false

-- all names of the one are names of the other
abbrev pub Within : (Name → Bool) → (Name → Bool) → Type 0
Within few many = (p : Name) → IsTrue (few p) → IsTrue (many p)
