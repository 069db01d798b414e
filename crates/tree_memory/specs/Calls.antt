-- What a changing call does.
use Rattle.std.specs.Prelude.{◌≡◌, ◌≤◌, Bool, true, false, Result, IsErrOf}
use Rattle.tree_nodes.specs.tree-disk.declared.disk.DiskStop.{DiskStop}
use Rattle.tree_nodes.specs.tree-disk.declared.disk.DiskStop.TheVariants.{Failed}
use Rattle.tree_nodes.specs.tree-disk.Disk.{HasCause, HasChanged}
use Rattle.tree_memory.specs.declared.change.Change.{Change}
use Rattle.tree_memory.specs.declared.memory.MemoryTree.{MemoryTree}
use Rattle.tree_memory.specs.State.{tree_after, names_of, settles, failed_change}
use Rattle.tree_nodes.specs.cny-base.Count.{next}
use Rattle.tree_memory.specs.Counts.{one_less}
use Rattle.tree_memory.specs.Memory.{memory_disk, state, calls_of, stop_of, fails_of, faults_of, fails_next, does_part, IsCounted}

-- the change of a call, which is no sync or edit
pub record IsCall (wanted change : Change) : Type 0 where
  pub is : change ≡ wanted
  pub settles_not : settles change ≡ false

-- what the call did
pub record IsDone (change : Change) (can : Bool) (old new : MemoryTree) (result : Result Unit DiskStop) : Type 0 where
  pub cause : HasCause memory_disk can old new result
  pub told : HasChanged memory_disk (names_of change) can (tree_after change (state old).reads) old new result
  pub counted : IsCounted old new result
  -- what stands after a failure
  pub left : IsErrOf result Failed → (state new).reads ≡ tree_after (failed_change change (does_part old can)) (state old).reads

-- the counts after one call more, but for the faults
pub record CountsCall (old new : MemoryTree) : Type 0 where
  pub calls : calls_of new ≡ next (calls_of old)
  pub stop : stop_of new ≡ one_less (stop_of old)
  pub fails : fails_of new ≡ fails_of old

-- the history and the nodes are as they were
pub record KeepsNodes (old new : MemoryTree) : Type 0 where
  pub first : new.first ≡ old.first
  pub changes : new.changes.items ≡ old.changes.items
  pub nodes : new.nodes ≡ old.nodes

-- a call that may go on
pub record GoesOn (old new : MemoryTree) : Type 0 where
  pub keeps : KeepsNodes old new
  pub counts : CountsCall old new
  pub fails_not : fails_next old ≡ false
  pub faults : faults_of new ≡ faults_of old

-- a call that fails
pub record IsFailure (old new : MemoryTree) : Type 0 where
  pub keeps : KeepsNodes old new
  pub counts : CountsCall old new
  pub fails : fails_next old ≡ true
  pub faults : faults_of new ≡ next (faults_of old)
  pub later : faults_of old ≤ faults_of new
