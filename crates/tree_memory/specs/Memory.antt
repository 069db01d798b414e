-- What a tree in memory means.
use Rattle.std.specs.Prelude.{◌≡◌, ◌⊎◌, ℕ, ◌≤◌, Bool, true, ◌||◌, ◌&&◌, not, IsTrue, List, Option, None, Result, IsErrOf, length, take, if◌then◌else◌}
use Rattle.std.proofs.Common.{sym, ◌∙◌, ap, subst, arith}
use Rattle.std.specs.FinMap.{from_entries}
use Rattle.tree_nodes.specs.cny-base.Count.{next}
use Rattle.tree_nodes.specs.tree-disk.declared.disk.DiskStop.{DiskStop}
use Rattle.tree_nodes.specs.tree-disk.declared.disk.DiskStop.TheVariants.{Failed, Memory}
use Rattle.tree_nodes.specs.tree-disk.Tree.{Tree, WellFormed}
use Rattle.tree_nodes.specs.tree-disk.Disk.{DiskModel, IsDisk, IsCrashImage, Elapses, InOneStep}
use Rattle.tree_memory.specs.declared.memory.MemoryTree.{MemoryTree}
use Rattle.tree_memory.specs.State.{State, settled, state_of, replay}
use Rattle.tree_nodes.specs.cny-base.Schedule.{is_listed}
use Rattle.tree_memory.specs.Counts.{is_stopped, one_less, is_failed}
use Rattle.tree_memory.specs.Replay.{take_whole}

-- the state at this moment
abbrev pub state : MemoryTree → State
state d = state_of d.first d.changes.items

-- the state after the first k changes
abbrev pub state_then : MemoryTree → ℕ → State
state_then d k = state_of d.first (take k d.changes.items)

-- how many calls were made, whatever they answered
abbrev pub calls_of : MemoryTree → ℕ
calls_of d = d.turns.schedule.calls

-- the numbers of the calls that are to fail
abbrev pub fails_of : MemoryTree → List ℕ
fails_of d = d.turns.schedule.fails

-- how many calls are left before the stop, where one is set
abbrev pub stop_of : MemoryTree → Option ℕ
stop_of d = d.turns.left

-- how many calls failed
abbrev pub faults_of : MemoryTree → ℕ
faults_of d = d.turns.schedule.faults

-- a moment since k at which a crash may have left this tree
pub record WasImage (d : MemoryTree) (k : ℕ) (t : Tree) : Type 0 where
  pub moment : ℕ
  pub since : k ≤ moment
  pub passed : moment ≤ length d.changes.items
  pub image : IsCrashImage (state_then d moment).reads (state_then d moment).unsynced t

abbrev pub memory_disk : DiskModel MemoryTree
memory_disk = record {
  tells = true;
  reads = λ d. (state d).reads;
  unsynced = λ d. (state d).unsynced;
  now = λ d. length d.changes.items;
  reads_at = λ d k. (state_then d k).reads;
  images_since = WasImage;
  faults = faults_of;
}

-- the last moment is this one
state_now : (d : MemoryTree) → state_then d (length d.changes.items) ≡ state d
state_now d = ap (λ l. replay l (settled (from_entries d.first))) (take_whole d.changes.items)

pub memory_laws : IsDisk memory_disk
memory_laws = record {
  reads_well_formed = λ d. subst WellFormed d.told d.well_formed;
  counts_now = λ d k t le image. record {
    moment = length d.changes.items;
    since = le;
    passed = omega arith;
    image = subst (λ (s : State). IsCrashImage s.reads s.unsynced t) (sym (state_now d)) image;
  };
  reads_now = λ d. ap (λ (s : State). s.reads) (state_now d);
  only_now = λ d t was.
      let here : was.moment ≡ length d.changes.items = omega (arith, was.since, was.passed) in
      subst (λ (s : State). IsCrashImage s.reads s.unsynced t) (ap (state_then d) here ∙ state_now d) was.image;
}

-- whether the next call fails: its number is listed, or the stop has come
abbrev pub fails_next : MemoryTree → Bool
fails_next d = is_stopped (stop_of d) || is_listed (fails_of d) (next (calls_of d))

-- A call counts, whatever it answers. It fails where its number is listed or the stop has come, and nowhere else,
-- and faults are counted there alone. (Where it finds no memory, that is its answer in any case.)
pub record IsCounted {T : Type 0} (old new : MemoryTree) (result : Result T DiskStop) : Type 0 where
  pub calls : calls_of new ≡ next (calls_of old)
  pub stop : stop_of new ≡ one_less (stop_of old)
  pub fails : fails_of new ≡ fails_of old
  pub failed : IsErrOf result Failed → IsTrue (fails_next old)
  pub fails_next : IsTrue (fails_next old) → IsErrOf result Failed ⊎ IsErrOf result Memory
  pub faults : faults_of new ≡ (if is_failed result then next (faults_of old) else faults_of old)

-- no call was made, and no other stop set
pub record SameCounts (old new : MemoryTree) : Type 0 where
  pub calls : calls_of new ≡ calls_of old
  pub stop : stop_of new ≡ stop_of old
  pub fails : fails_of new ≡ fails_of old
  pub faults : faults_of new ≡ faults_of old

-- whether a failed call does a part of its work, where it is allowed: no stop has come
abbrev pub does_part : MemoryTree → Bool → Bool
does_part d can = can && not (is_stopped (stop_of d))

-- a disk with this tree, all synced, whose calls fail at these numbers
pub record Begins (t : Tree) (numbers : List ℕ) (d : MemoryTree) : Type 0 where
  pub state : state d ≡ settled t
  pub now : memory_disk.now d ≡ 0
  pub calls : calls_of d ≡ 0
  pub stop : stop_of d ≡ None
  pub fails : fails_of d ≡ numbers
  pub faults : faults_of d ≡ 0

-- an edit: the tree that is read counts as synced
pub record IsEdited (t : Tree) (old new : MemoryTree) : Type 0 where
  pub state : state new ≡ settled t
  pub one_step : InOneStep memory_disk old new
  pub time : Elapses memory_disk old new
  pub counts : SameCounts old new

-- nothing has changed
pub record IsSame (old new : MemoryTree) : Type 0 where
  pub state : state new ≡ state old
  pub time : Elapses memory_disk old new
  pub counts : SameCounts old new
