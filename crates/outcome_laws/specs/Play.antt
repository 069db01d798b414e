-- What `play` makes of two disks in memory, event by event.
use Rattle.std.specs.Prelude.{◌≡◌, ◌⊎◌, ℕ, List, [], ◌∷◌, ◌++◌, Option, Some, Result, Ok, Err}
use Rattle.cny_base.specs.Flow.{SinkState}
use Rattle.conary_cli.specs.cli-call.cny-base.declared.node.Node.{Node}
use Rattle.conary_cli.specs.cli-call.cny-base.declared.text.OutOfMemory.{OutOfMemory}
use Rattle.conary_cli.specs.cli-call.tree-disk.Disk.{IsImageOf}
use Rattle.conary_cli.specs.cli-call.tree-disk.Tree.{Name, Tree}
use Rattle.conary_cli.specs.cli-call.cny-laws.Call.{CallState}
use Rattle.conary_cli.specs.cli-call.cny-laws.Edits.{edited_tree, Edit, IsEdit}
use Rattle.cny_batch.specs.declared.line.Line.{Line}
use Rattle.conary_cli.specs.Program.{line_state, told_source, IsSomething}
use Rattle.tree_nodes.specs.Crash.{IsPicked}
use Rattle.tree_memory.specs.declared.memory.MemoryTree.{MemoryTree}
use Rattle.tree_memory.specs.Memory.{calls_of, fails_of, faults_of, memory_disk, state, stop_of, Begins, IsEdited, IsSame}
use Rattle.outcome_laws.specs.declared.playing.Event.{Event}
use Rattle.outcome_laws.specs.declared.playing.Event.TheVariants as event

-- ---- how an event ended

-- A call came to a root that read this tree, answered a status, and wrote these bytes on its output; a crash fell into such a call, whose
-- disks had failed from some moment on, which answered so, and whose answer nobody read; or an edit came to a root that read this tree.
pub data EventEnd : Type 0 where
  answered : Tree → ℕ → List ℕ → EventEnd
  stopped : Tree → ℕ → List ℕ → EventEnd
  met : Tree → EventEnd

-- the statuses of the calls among the events, in order: 255 of one into which a crash fell
abbrev pub statuses_of : List EventEnd → List ℕ
statuses_of [] = []
statuses_of (answered tree status out ∷ ends) = status ∷ statuses_of ends
statuses_of (stopped tree status out ∷ ends) = 255 ∷ statuses_of ends
statuses_of (met tree ∷ ends) = statuses_of ends

-- what was written by the calls that answered, call by call
abbrev pub outputs_of : List EventEnd → List (List ℕ)
outputs_of [] = []
outputs_of (answered tree status out ∷ ends) = out ∷ outputs_of ends
outputs_of (stopped tree status out ∷ ends) = outputs_of ends
outputs_of (met tree ∷ ends) = outputs_of ends

-- ---- a call

-- an output that holds these bytes, and hasn't failed
abbrev pub told_sink : List ℕ → SinkState
told_sink bytes = record { written = Some bytes; faults = 0 }

-- the moments before a call and behind it: with just the input of a line, and an output that held nothing
abbrev pub at_entry : Line → MemoryTree → MemoryTree → CallState MemoryTree MemoryTree
at_entry l root repo = line_state (told_source l.input) root repo (told_sink [])

abbrev pub at_end : List ℕ → List ℕ → MemoryTree → MemoryTree → CallState MemoryTree MemoryTree
at_end left out root repo = line_state (told_source left) root repo (told_sink out)

-- `run` was called with the words and just the input of a line, and two outputs that held nothing, and no stream failed: the first
-- clause of `run`. It wrote these bytes on the output, and answered this status.
pub record WasMade (l : Line) (status : ℕ) (out : List ℕ) (root root' repo repo' : MemoryTree) : Type 0 where
  pub left : List ℕ
  pub line : List ℕ
  pub call : IsSomething memory_disk memory_disk l.words (at_entry l root repo) (at_end left out root' repo') (told_sink []) (told_sink line) status

-- ---- a stopped call

-- A disk is to stop after so many further calls, and is else as it was.
pub record WillStop (further : ℕ) (old new : MemoryTree) : Type 0 where
  pub stop : stop_of new ≡ Some further
  pub state : state new ≡ state old
  pub calls : calls_of new ≡ calls_of old
  pub fails : fails_of new ≡ fails_of old
  pub faults : faults_of new ≡ faults_of old

-- It was called on disks of which each was to stop after so many calls, answered this status, and wrote these bytes.
pub record RanStopped (l : Line) (repo_calls root_calls status : ℕ) (out : List ℕ) (root root' repo repo' : MemoryTree) : Type 0 where
  pub begun : MemoryTree
  pub far : MemoryTree
  pub root_stop : WillStop root_calls root begun
  pub repo_stop : WillStop repo_calls repo far
  pub was_made : WasMade l status out begun root' far repo'

-- A disk is what a crash leaves of another by this number: all synced, with no stop and no call that fails.
pub record IsLeft (pick : ℕ) (old new : MemoryTree) : Type 0 where
  pub picked : IsPicked (state old).reads (state old).synced (state old).unsynced pick (state new).reads
  pub image : IsImageOf memory_disk old (state new).reads
  pub begins : Begins (state new).reads [] new

-- Both disks are.
pub record AreLeft (pick : ℕ) (root root' repo repo' : MemoryTree) : Type 0 where
  pub on_root : IsLeft pick root root'
  pub on_repo : IsLeft pick repo repo'

-- ---- an edit

abbrev pub edit_of : Name → Option Node → Edit
edit_of path node = record { path = path; node = node }

-- It is made exactly where others may make it, of the tree that the root reads; else it is passed over.
abbrev pub MeetsEdit : Edit → MemoryTree → MemoryTree → Type 0
MeetsEdit e root root' = (IsEdit (state root).reads e × IsEdited (edited_tree (state root).reads e) root root') ⊎ ((IsEdit (state root).reads e → ⊥) × IsSame root root')

-- ---- one event

-- It was made, and ended so.
abbrev pub Makes : Event → EventEnd → MemoryTree → MemoryTree → MemoryTree → MemoryTree → Type 0
Makes (event.Call l) (answered tree status out) root root' repo repo' = (tree ≡ (state root).reads) × WasMade l status out root root' repo repo'
Makes (event.Call l) (stopped tree status out) root root' repo repo' = ⊥
Makes (event.Call l) (met tree) root root' repo repo' = ⊥
Makes (event.Stopped l repo_calls root_calls pick) (answered tree status out) root root' repo repo' = ⊥
Makes (event.Stopped l repo_calls root_calls pick) (stopped tree status out) root root' repo repo' =
    (tree ≡ (state root).reads) × (mid : MemoryTree) × (far : MemoryTree) × RanStopped l repo_calls root_calls status out root mid repo far × AreLeft pick mid root' far repo'
Makes (event.Stopped l repo_calls root_calls pick) (met tree) root root' repo repo' = ⊥
Makes (event.Edit path _) (answered tree status out) root root' repo repo' = ⊥
Makes (event.Edit path _) (stopped tree status out) root root' repo repo' = ⊥
Makes (event.Edit path node) (met tree) root root' repo repo' = (tree ≡ (state root).reads) × MeetsEdit (edit_of path node) root root' × (repo' ≡ repo)

-- It is a stopped call of which the images found no memory: it was made, and its disks stay stopped.
abbrev pub StaysStopped : Event → EventEnd → MemoryTree → MemoryTree → MemoryTree → MemoryTree → Type 0
StaysStopped (event.Stopped l repo_calls root_calls pick) (stopped tree status out) root root' repo repo' = (tree ≡ (state root).reads) × RanStopped l repo_calls root_calls status out root root' repo repo'
StaysStopped _ _ root root' repo repo' = ⊥

-- ---- the events

-- All events were made, one after the other, and ended so.
abbrev pub MakesAll : List Event → List EventEnd → MemoryTree → MemoryTree → MemoryTree → MemoryTree → Type 0
MakesAll [] [] root root' repo repo' = (root' ≡ root) × (repo' ≡ repo)
MakesAll [] (end ∷ ends) root root' repo repo' = ⊥
MakesAll (e ∷ events) [] root root' repo repo' = ⊥
MakesAll (e ∷ events) (end ∷ ends) root root' repo repo' = (mid : MemoryTree) × (far : MemoryTree) × Makes e end root mid repo far × MakesAll events ends mid root' far repo'

-- Memory ran out at one of them: those before it were made, and of it nothing was done; or it is a stopped call, and was made but for its
-- crash.
abbrev pub MakesSome : List Event → List EventEnd → MemoryTree → MemoryTree → MemoryTree → MemoryTree → Type 0
MakesSome [] ends root root' repo repo' = ⊥
MakesSome (e ∷ events) [] root root' repo repo' = IsSame root root' × (repo' ≡ repo)
MakesSome (e ∷ events) (end ∷ ends) root root' repo repo' = ((ends ≡ []) × StaysStopped e end root root' repo repo')
    ⊎ ((mid : MemoryTree) × (far : MemoryTree) × Makes e end root mid repo far × MakesSome events ends mid root' far repo')

-- by how `play` ended
abbrev pub MakesBy : Result (Unit {0}) OutOfMemory → List Event → List EventEnd → MemoryTree → MemoryTree → MemoryTree → MemoryTree → Type 0
MakesBy (Ok x) events ends root root' repo repo' = MakesAll events ends root root' repo repo'
MakesBy (Err e) events ends root root' repo repo' = MakesSome events ends root root' repo repo'

-- ---- one event, with the statuses

-- It was made, and its status stands behind those before.
pub record IsMade (e : Event) (statuses statuses' : List ℕ) (root root' repo repo' : MemoryTree) : Type 0 where
  pub end : EventEnd
  pub gained : statuses' ≡ statuses ++ statuses_of (end ∷ [])
  pub makes : Makes e end root root' repo repo'

-- Memory ran out at it.
pub record IsMissed (e : Event) (statuses statuses' : List ℕ) (root root' repo repo' : MemoryTree) : Type 0 where
  pub ends : List EventEnd
  pub gained : statuses' ≡ statuses ++ statuses_of ends
  pub makes : MakesSome (e ∷ []) ends root root' repo repo'

-- ---- the whole

-- The events were made in order, all of them or, where memory ran out, those before one; the statuses of the calls that were made stand
-- behind those before, in order.
pub record HasPlayed (events : List Event) (result : Result (Unit {0}) OutOfMemory) (statuses statuses' : List ℕ) (root root' repo repo' : MemoryTree) : Type 0 where
  pub ends : List EventEnd
  pub gained : statuses' ≡ statuses ++ statuses_of ends
  pub makes : MakesBy result events ends root root' repo repo'
