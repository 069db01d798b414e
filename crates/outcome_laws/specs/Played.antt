-- To which states the events lead that `play` makes.
--
-- An example, by hand. The root rests at a state S, in which a job has made /etc/motd. The events are a call of `install --replace` with
-- a newer manifest, stopped and crashed, an edit of /etc/motd, and a call of `rollback`. They end with `stopped`, the tree that the root
-- read when the first call came, 5 and no bytes; with `met` and the tree that it read when the edit came; and with `answered`, the tree
-- that it read when the second call came, 1 and no bytes; so the statuses are 255 and 1. Where in the tree that the edit met the commit
-- flag isn't set, no line of the stopped call counts, or its one line does: the fold is S with the edit, or S with the newer job and the
-- edit, each where the root recovered to S, or to S with the job, when the edit came. Where the flag is set, and the log that stands there
-- puts /etc/motd, the edit is lost: the fold is S with the newer job, whose one line counts. Had the edit put a name into a directory that
-- the log removes, the log could be put no more: the machine passes that edit over, `rollback` is refused for the log, and so is each
-- call, until an edit removes that name; and the fold is S with the newer job.
use Rattle.std.specs.Prelude.{◌≡◌, ◌⊎◌, ℕ, ◌≤◌, true, false, List, [], ◌∷◌, map, Result}
use Rattle.conary_cli.specs.cli-call.cny-base.Reserved.{private_directory}
use Rattle.conary_cli.specs.cli-call.cny-base.declared.text.OutOfMemory.{OutOfMemory}
use Rattle.conary_cli.specs.cli-call.tree-disk.Confined.{IsSynced}
use Rattle.conary_cli.specs.cli-call.tree-disk.Disk.{IsImageOf}
use Rattle.conary_cli.specs.cli-call.tree-disk.Tree.{Tree, WellFormed}
use Rattle.conary_cli.specs.cli-call.journal-log.declared.put.Put.{Put}
use Rattle.conary_cli.specs.cli-call.journal-log.Targets.{is_target}
use Rattle.conary_cli.specs.cli-call.tree-journal.CanBePut.{AllCanBePut}
use Rattle.conary_cli.specs.cli-call.tree-journal.Recovery.{is_committed, HoldsLog}
use Rattle.conary_cli.specs.cli-call.cny-laws.Edits.{all_edited, edited_tree, edits_beside, with_tree, AreEdits, Edit, IsEdit}
use Rattle.conary_cli.specs.cli-call.cny-laws.Call.{StopsOpening}
use Rattle.conary_cli.specs.cli-call.cny-laws.Report.{status_of}
use Rattle.conary_cli.specs.cli-call.cny-laws.State.{State}
use Rattle.conary_cli.specs.cli-call.cny-laws.declared.failure.Failure.{Failure}
use Rattle.conary_cli.specs.cli-call.cny-laws.Store.{Recovers}
use Rattle.conary_cli.specs.cli-call.cny-laws.Stores.{repository_store, root_store}
use Rattle.conary_cli.specs.cli-call.cny-laws.WholeCall.{after_edits}
use Rattle.cny_batch.specs.declared.line.Line.{Line}
use Rattle.tree_memory.specs.declared.memory.MemoryTree.{MemoryTree}
use Rattle.tree_memory.specs.Memory.{memory_disk, state}
use Rattle.outcome_laws.specs.declared.playing.Event.{Event}
use Rattle.outcome_laws.specs.declared.playing.Event.TheVariants as event
use Rattle.outcome_laws.specs.Cuts.{Counts, CannotOpen, CannotPut}
use Rattle.outcome_laws.specs.Histories.{called, crashed, altered, AfterCall, AfterEdit, Event as HistoryEvent}
use Rattle.outcome_laws.specs.Images.{CrashesTo}
use Rattle.outcome_laws.specs.Machine.{Answers}
use Rattle.outcome_laws.specs.Play.{answered, edit_of, met, outputs_of, statuses_of, stopped, EventEnd, HasPlayed}

-- ---- an edit

-- The state behind a log, of a tree whose commit flag is set: of a tree that recovers, the state to which it does; and of what edits made
-- of one, that state with those edits at whose paths the log puts nothing, each of which is put, also where that leaves no tree.
pub record IsBehindLog (puts : List Put) (tree : Tree) (s : State) : Type 0 where
  pub before : Tree
  pub edits : List Edit
  pub base : State
  pub are : AreEdits before edits
  pub is : tree ≡ all_edited before edits
  pub set : is_committed private_directory before ≡ true
  pub holds : HoldsLog private_directory puts before
  pub recovers : Recovers root_store before base.root
  pub state : s ≡ after_edits base (edits_beside puts edits)

-- A state of the machine, which passes over an edit that leaves no tree: it is the one behind the log where that has a tree, and differs
-- from it in the tree alone.
pub record IsOfLog (puts : List Put) (tree : Tree) (s : State) : Type 0 where
  pub log : State
  pub behind : IsBehindLog puts tree log
  pub same : WellFormed log.root.tree → s ≡ log
  pub but_tree : s ≡ record { root = with_tree log.root s.root.tree; repository = log.repository }

-- The state to which an edit comes: where the commit flag isn't set, the one to which the root recovers; else one of the log.
abbrev pub MeetsState : Tree → State → Type 0
MeetsState tree s = ((is_committed private_directory tree ≡ false) × Recovers root_store tree s.root)
    ⊎ ((is_committed private_directory tree ≡ true) × (puts : List Put) × HoldsLog private_directory puts tree × IsOfLog puts tree s)

-- An edit that was passed over, since others can't make it of the tree that the root read; or one that came while the commit flag was set,
-- at a path at which the log puts something.
abbrev pub IsLost : Tree → Edit → Type 0
IsLost tree e = (IsEdit tree e → ⊥) ⊎ ((is_committed private_directory tree ≡ true) × (puts : List Put) × HoldsLog private_directory puts tree × (is_target puts e.path ≡ true))

-- It is one of the machine's; or it is lost, and the state is as it was.
abbrev pub IsCounted : Tree → Edit → State → State → Type 0
IsCounted tree e s t = ((IsLost tree e → ⊥) × AfterEdit e s t) ⊎ (IsLost tree e × (t ≡ s))

-- what an edit makes of the state, by the tree that the root read when it came
abbrev pub Alters : Tree → Edit → State → State → Type 0
Alters tree e s t = (IsEdit tree e → MeetsState tree s) × IsCounted tree e s t

-- ---- the fold

-- A call that answered so: the first of the cuts counts, which its status and what it wrote tell. The rest is that of the later calls.
abbrev pub FoldsCall : Line → Tree → ℕ → List ℕ → List ℕ → List ℕ → State → State → Type 0
FoldsCall l tree status out cuts rest s t = (cut : ℕ) × (cuts ≡ cut ∷ rest) × Counts tree status out l s t cut × AfterCall l cut s t

-- One event in the fold. A call into which a crash fell counts as what it answered tells, which nobody read.
abbrev pub FoldsOne : Event → EventEnd → List ℕ → List ℕ → State → State → Type 0
FoldsOne (event.Call l) (answered tree status out) cuts rest s t = FoldsCall l tree status out cuts rest s t
FoldsOne (event.Call l) (stopped tree status out) cuts rest s t = ⊥
FoldsOne (event.Call l) (met tree) cuts rest s t = ⊥
FoldsOne (event.Stopped l repo_calls root_calls pick) (answered tree status out) cuts rest s t = ⊥
FoldsOne (event.Stopped l repo_calls root_calls pick) (stopped tree status out) cuts rest s t = FoldsCall l tree status out cuts rest s t
FoldsOne (event.Stopped l repo_calls root_calls pick) (met tree) cuts rest s t = ⊥
FoldsOne (event.Edit path _) (answered tree status out) cuts rest s t = ⊥
FoldsOne (event.Edit path _) (stopped tree status out) cuts rest s t = ⊥
FoldsOne (event.Edit path node) (met tree) cuts rest s t = (cuts ≡ rest) × Alters tree (edit_of path node) s t

-- THE FOLD of the events that were made and ended so, as many of the events, in order, as there are ends: with these cuts, of which each
-- call tells its own.
abbrev pub FoldsTold : List Event → List EventEnd → List ℕ → State → State → Type 0
FoldsTold [] [] cuts s t = (cuts ≡ []) × (t ≡ s)
FoldsTold [] (end ∷ ends) cuts s t = ⊥
FoldsTold (e ∷ events) [] cuts s t = (cuts ≡ []) × (t ≡ s)
FoldsTold (e ∷ events) (end ∷ ends) cuts s t = (rest : List ℕ) × (mid : State) × FoldsOne e end cuts rest s mid × FoldsTold events ends rest mid t

-- with some cuts that the calls tell
abbrev pub FoldsTo : List Event → List EventEnd → State → State → Type 0
FoldsTo events ends s t = (cuts : List ℕ) × FoldsTold events ends cuts s t

-- ---- edits that leave room

-- Where the commit flag was set when it came, the edit leaves a log that can be put.
abbrev pub LeavesRoom : Tree → Edit → Type 0
LeavesRoom tree e = IsEdit tree e → (puts : List Put) → is_committed private_directory tree ≡ true → HoldsLog private_directory puts tree → AllCanBePut puts (edited_tree tree e)

abbrev pub EventLeavesRoom : Event → EventEnd → Type 0
EventLeavesRoom (event.Edit path node) (met tree) = LeavesRoom tree (edit_of path node)
EventLeavesRoom _ _ = Unit {0}

abbrev pub LeaveRoom : List Event → List EventEnd → Type 0
LeaveRoom [] ends = Unit {0}
LeaveRoom (e ∷ events) [] = Unit {0}
LeaveRoom (e ∷ events) (end ∷ ends) = EventLeavesRoom e end × LeaveRoom events ends

-- ---- as a history of the machine

-- One event before these of a history: an edit that is lost isn't one.
abbrev pub ComesBefore : Event → EventEnd → List HistoryEvent → List HistoryEvent → Type 0
ComesBefore (event.Call l) end later history = history ≡ called l ∷ later
ComesBefore (event.Stopped l repo_calls root_calls pick) end later history = history ≡ crashed l ∷ later
ComesBefore (event.Edit path node) (met tree) later history =
    ((IsLost tree (edit_of path node) → ⊥) × (history ≡ altered (edit_of path node) ∷ later)) ⊎ (IsLost tree (edit_of path node) × (history ≡ later))
ComesBefore (event.Edit path _) end later history = ⊥

-- THE MACHINE'S EVENTS of those that were made and ended so: the calls, those into which a crash fell, and the edits but the lost ones.
abbrev pub IsHistory : List Event → List EventEnd → List HistoryEvent → Type 0
IsHistory [] ends history = history ≡ []
IsHistory (e ∷ events) [] history = history ≡ []
IsHistory (e ∷ events) (end ∷ ends) history = (later : List HistoryEvent) × ComesBefore e end later history × IsHistory events ends later

-- ---- without crashes and faults

-- A call ended in status 0, 1 or 2, and came to a root that can be opened.
abbrev pub IsUncut : EventEnd → Type 0
IsUncut (answered tree status out) = (status ≤ 2) × (CannotOpen tree → ⊥)
IsUncut (stopped tree status out) = ⊥
IsUncut (met tree) = Unit {0}

abbrev pub AreUncut : List EventEnd → Type 0
AreUncut [] = Unit {0}
AreUncut (end ∷ ends) = IsUncut end × AreUncut ends

-- the machine's answers, whose statuses and bytes are those of the calls
pub record AreSaid (ends : List EventEnd) (said : List Answers) : Type 0 where
  pub statuses : statuses_of ends ≡ map (λ a. status_of a.end) said
  pub outputs : outputs_of ends ≡ map (λ a. a.out) said

-- ---- a disk that wasn't opened

-- Nothing was done; or the root wasn't opened, or the repository, and this is why.
abbrev pub NotBothOpened : MemoryTree → MemoryTree → MemoryTree → MemoryTree → Type 0
NotBothOpened root root' repo repo' = ((root' ≡ root) × (repo' ≡ repo)) ⊎ ((e : Failure) × StopsOpening memory_disk memory_disk root root' repo repo' e)

-- ---- edits that block a log

-- One of these states is one of the log of the root's tree, and this tree, which a crash left of the repository, recovers to it.
pub record IsBehind (Is : State → Type 0) (puts : List Put) (tree far : Tree) : Type 0 where
  pub state : State
  pub among : Is state
  pub root : IsOfLog puts tree state
  pub repo : Recovers repository_store far state.repository

-- The commit flag is set, and edits let the log be put no more: each call is refused, until an edit makes room for it.
pub record BlocksLog (Is : State → Type 0) (root repo : MemoryTree) : Type 0 where
  pub log : CannotPut (state root).reads
  pub synced : IsSynced memory_disk root
  pub behind : (far : Tree) → IsImageOf memory_disk repo far → IsBehind Is log.puts (state root).reads far

-- A call didn't open both disks, changed nothing, wrote nothing, and failed. (Why, `run` says: where neither a fault nor want of memory ended
-- it, its words are no command, or it was refused for the log or for a fixed directory.)
pub record IsLeftBlocked (status : ℕ) (out : List ℕ) (root root' repo repo' : MemoryTree) : Type 0 where
  pub reads : (state root').reads ≡ (state root).reads
  pub synced : IsSynced memory_disk root'
  pub same : repo' ≡ repo
  pub some : status ≡ 0 → ⊥
  pub silent : out ≡ []
  pub unopened : NotBothOpened root root' repo repo'

-- ---- the whole

-- Whatever a crash leaves of both disks recovers to one of these states; or, unless there is room, edits block a log, of which it is one.
abbrev pub Stands : Type 0 → (State → Type 0) → MemoryTree → MemoryTree → Type 0
Stands HasRoom Is root repo = CrashesTo memory_disk memory_disk Is root repo ⊎ ((HasRoom → ⊥) × BlocksLog Is root repo)

-- THE CLAUSE of `play`: the events were made, and where whatever a crash left of the disks recovered to one state, it now recovers to the
-- fold of the events from that, for cuts that the calls tell. There is room for a log where each edit left it.
pub record IsPlayed (events : List Event) (result : Result (Unit {0}) OutOfMemory) (statuses statuses' : List ℕ) (root root' repo repo' : MemoryTree) : Type 0 where
  pub made : HasPlayed events result statuses statuses' root root' repo repo'
  pub folds : (s : State) → CrashesTo memory_disk memory_disk (λ t. t ≡ s) root repo → Stands (LeaveRoom events made.ends) (FoldsTo events made.ends s) root' repo'
