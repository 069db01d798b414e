-- What a whole call of a command promises, by how it ended.
use Rattle.std.specs.Prelude.{◌≡◌, ◌⊎◌, ℕ, ◌≤◌, true, false, IsTrue, List, [], Some, IfSome, Result, Ok, Err}
use Rattle.std.specs.Io.KnownBytes.{Appends, Keeps}
use Rattle.system_core.specs.cny-base.Count.{Rose}
use Rattle.system_core.specs.cny-base.declared.refusal.Refusal.{Refusal}
use Rattle.repo_load.specs.cny-base.Flow.{SinkState, AppendsPart}
use Rattle.system_core.specs.tree-disk.Tree.{Name, Tree}
use Rattle.system_core.specs.tree-disk.Disk.{DiskModel, HasRead, Reads}
use Rattle.system_core.specs.tree-disk.Clear.{is_within}
use Rattle.system_core.specs.tree-disk.Confined.{Among, Confined, LeavesOnly}
use Rattle.system_core.specs.tree-disk.Steps.{no_name}
use Rattle.system_core.specs.tree-disk.Unfailed.{UnlessFailed}
use Rattle.system_core.specs.journal-log.declared.put.Put.{Put}
use Rattle.system_core.specs.tree-journal.CanBePut.{AllCanBePut}
use Rattle.system_core.specs.tree-journal.Recovery.{is_committed, HoldsLog, RecoversAsThen}
use Rattle.local_db.specs.declared.db.Db.{Db}
use Rattle.repo_load.specs.Files.{repository_base}
use Rattle.repo_load.specs.State.{RepositoryState}
use Rattle.cny_laws.specs.declared.failure.Failure.{Failure}
use Rattle.cny_laws.specs.declared.opened.Opened.{Opened}
use Rattle.cny_laws.specs.Call.{FilesStay, HasOpenedLists, HasOpened, HasTree, HasWholeContents, HoldsOpened, HoldsRecordsOf, IsHeldOf, CallState, AreOpened, NotOpened, OpensRoot, StopsForRepository, StopsForRoot}
use Rattle.cny_laws.specs.Shown.{KeepsOthers, IsShown}
use Rattle.cny_laws.specs.Report.{ChangesNothing, End, Reports, status_of}
use Rattle.system_core.specs.FixedDirs.{fixed_dirs}
use Rattle.cny_laws.specs.Reading.{given, left_by, Gives, IsInput, ReadsGiven}
use Rattle.system_core.specs.tree-journal.Recovered.{RecoversToNone, IsKept, RefusesLog}
use Rattle.cny_laws.specs.RootOpening.{IsRootKept, RecoversOutside, ShowsBetween}
use Rattle.cny_laws.specs.State.{State, Effect, Meaning, tree_of, IsNext, OneDisk, Then, Scope, Takes}
use Rattle.cny_laws.specs.Store.{Store, Recovers, OneOf, IsEntryOr, HasDamagedFile, NamesDamaged, IsSettled, RestsAt}
use Rattle.cny_laws.specs.Stores.{root_store, repository_store}
use Rattle.cny_laws.specs.Edits.{Edit, AreEdits, all_edited, edits_beside, with_tree}
use Rattle.system_core.specs.cny-base.declared.stop.Stop.{Stop}
use Rattle.cny_laws.specs.declared.failure.Failure.TheVariants as failure

-- ---- what a command means, with the tests that all commands share

-- What the command is given of the input; and then the command's own outcome.
abbrev pub OwnOutcome : Meaning → State → List ℕ → Result Effect Refusal → Type 0
OwnOutcome m s input outcome = Then (given m.takes_input input) (m.IsOutcome s) outcome

-- The fixed directories come before.
abbrev pub Outcome : Meaning → State → List ℕ → Result Effect Refusal → Type 0
Outcome m s input outcome = Then (fixed_dirs (tree_of s.root)) (λ _. OwnOutcome m s input) outcome

-- the input is read once the fixed directories stand
abbrev pub left_when : Result (Unit {0}) Refusal → Meaning → List ℕ → List ℕ
left_when (Ok _) m input = left_by m.takes_input input
left_when (Err r) m input = input

-- what a call leaves of its input
abbrev pub left_of : Meaning → State → List ℕ → List ℕ
left_of m s input = left_when (fixed_dirs (tree_of s.root)) m input

-- ---- what one disk lives

-- What a disk lives: until it is opened, a crash leaves such a tree; and from then on one that recovers to the one state or to the
-- other.
pub record LivesFrom {D X : Type 0} (store : Store X) (disk : DiskModel D) (Before : Tree → Type 0) (x y : X) (old new : D) : Type 0 where
  pub opened : D
  pub opening : LeavesOnly disk old opened Before
  pub lives : LeavesOnly disk opened new (OneOf store x y)

-- or it isn't opened
abbrev pub LivesCall : {D X : Type 0} → Store X → DiskModel D → (Tree → Type 0) → X → X → D → D → Type 0
LivesCall store disk Before x y old new = LeavesOnly disk old new Before ⊎ LivesFrom store disk Before x y old new

-- ---- how it ended

-- the ends after which an effect stands
abbrev pub HasEffect : End → Type 0
HasEffect (Ok x) = Unit {0}
HasEffect (Err failure.OutputFault) = Unit {0}
HasEffect _ = ⊥

-- By the outcomes on a state: the state after it, and what was written. After a fault of a disk or want of memory it is the state before
-- or that after an effect.
abbrev pub CallEnds : (Result Effect Refusal → Type 0) → State → State → SinkState → SinkState → End → Type 0
CallEnds IsOutcome s next before now (Ok x) = Takes IsOutcome s next (λ bytes. Appends before.written now.written bytes)
CallEnds IsOutcome s next before now (Err (failure.Refused r)) = IsOutcome (Err r) × (next ≡ s)
CallEnds IsOutcome s next before now (Err failure.InputFault) = next ≡ s
CallEnds IsOutcome s next before now (Err failure.OutputFault) = Takes IsOutcome s next (λ bytes. AppendsPart before.written now.written bytes)
CallEnds IsOutcome s next before now (Err failure.RootFault) = IsNext IsOutcome s next
CallEnds IsOutcome s next before now (Err failure.RepositoryFault) = IsNext IsOutcome s next
CallEnds IsOutcome s next before now (Err failure.Memory) = IsNext IsOutcome s next
CallEnds IsOutcome s next before now _ = ⊥

-- the state with these edits of the root's tree
abbrev pub after_edits : State → List Edit → State
after_edits s edits = record { root = with_tree s.root (all_edited s.root.tree edits); repository = s.repository }

module _ {T P : Type 0} (root_disk : DiskModel T) (repo_disk : DiskModel P) where
  -- ---- what is known before a call

  -- both disks, as they read, recover to the state
  pub record RecoversBoth (m : CallState T P) (s : State) : Type 0 where
    pub root : Recovers root_store (root_disk.reads m.root) s.root
    pub repo : Recovers repository_store (repo_disk.reads m.repo) s.repository

  -- what holds of each state to which they recover, where they are told
  abbrev pub FromStates : CallState T P → (State → Type 0) → Type 0
  FromStates before P = IsTrue root_disk.tells → IsTrue repo_disk.tells → (s : State) → RecoversBoth before s → P s

  -- what holds of each state whose root the root recovers to, as it reads, whatever repository the state has; where the root is told
  abbrev pub FromRoots : CallState T P → (State → Type 0) → Type 0
  FromRoots before P = IsTrue root_disk.tells → (s : State) → Recovers root_store (root_disk.reads before.root) s.root → P s

  -- what holds of each state whose repository the repository recovers to, as it reads, whatever root the state has; where it is told
  abbrev pub FromRepositories : CallState T P → (State → Type 0) → Type 0
  FromRepositories before P = IsTrue repo_disk.tells → (s : State) → Recovers repository_store (repo_disk.reads before.repo) s.repository → P s

  -- ---- both disks after it

  -- both disks rest and store the state
  pub record RestBoth (m : CallState T P) (s : State) : Type 0 where
    pub root : RestsAt root_store root_disk m.root s.root
    pub repo : RestsAt repository_store repo_disk m.repo s.repository

  -- Each disk that is told recovers to what it recovered to; where its commit flag wasn't set, its tree is as it was, but that a root
  -- of format 1 was brought to format 2.
  pub record DisksAreKept (before now : CallState T P) : Type 0 where
    pub root : IsTrue root_disk.tells → IsRootKept (root_disk.reads before.root) (root_disk.reads now.root)
    pub repo : IsTrue repo_disk.tells → IsKept repository_store.base (repo_disk.reads before.repo) (repo_disk.reads now.repo)

  -- ---- how far it came

  -- The input wasn't read: this is why, and nothing was done on the disks that were opened.
  pub record NotRead (m : Meaning) (input : List ℕ) (root : T) (repo : P) (before now : CallState T P) (end : End) : Type 0 where
    pub failure : Failure
    pub is : end ≡ Err failure
    pub gives : Gives m.takes_input input (Err failure)
    pub reads : ReadsGiven m.takes_input before.input now.input (Err failure)
    pub same_root : now.root ≡ root
    pub same_repo : now.repo ≡ repo
    pub silent : now.out ≡ before.out

  -- what the command was performed with, and what reading it left
  pub record WasGiven (m : Meaning) (input : List ℕ) (before now : CallState T P) : Type 0 where
    pub bytes : List ℕ
    pub gives : given m.takes_input input ≡ Ok bytes
    pub reads : ReadsGiven m.takes_input before.input now.input (Ok bytes)

  -- By a state that has what a command works on: the state after it, as on this one, and of which, after a status up to 4, the disks hold
  -- the tree, the database and the catalogue. At every moment from the opening on a crash leaves a root that recovers to the tree and the
  -- database of the state before or of this one.
  pub record EndsByOpened (m : Meaning) (input : List ℕ) (s : State) (root : T) (before now : CallState T P) (end : End) : Type 0 where
    pub next : State
    pub ends : CallEnds (OwnOutcome m s input) s next before.out now.out end
    pub holds : status_of end ≤ 4 → HoldsOpened root_disk repo_disk now.root now.repo next
    pub moments : IsTrue root_disk.tells → LeavesOnly root_disk root now.root (IsHeldOf s next)

  -- Both disks were opened: the root first, and then the repository.
  pub record WasOpened (scope : Scope) (m : Meaning) (input : List ℕ) (before now : CallState T P) (end : End) : Type 0 where
    pub root : T
    pub repo : P
    pub opened : Opened
    pub opens : AreOpened root_disk repo_disk before.root root before.repo repo opened
    pub reads : NotRead m input root repo before now end ⊎ WasGiven m input before now
    -- where it was refused, the input failed or a file is damaged, each disk that is told reads as its opening left it
    pub root_same : ChangesNothing end → IsTrue root_disk.tells → root_disk.reads now.root ≡ root_disk.reads root
    pub repo_same : ChangesNothing end → IsTrue repo_disk.tells → repo_disk.reads now.repo ≡ repo_disk.reads repo
    -- A command that works on the root alone leaves the repository as its opening left it, one that works on the repository alone the
    -- root, and any that doesn't work on the root alone changes the repository below its directory alone, however the call ends.
    pub repo_left : scope.of_root ≡ true → now.repo ≡ repo
    pub root_left : scope.of_repository ≡ true → now.root ≡ root
    pub repo_within : IsTrue repo_disk.tells → Confined repo_disk (Among (is_within repository_base)) repo now.repo
    -- A disk that the command only reads was only read from its opening on, where it is told.
    pub root_read : scope.reads_root ≡ true → Reads root_disk root now.root (Unit {0})
    pub repo_read : scope.reads_repository ≡ true → Reads repo_disk repo now.repo (Unit {0})
    -- After a status up to 4 each disk that is told is at rest, and a crash leaves just what it reads.
    pub root_rests : status_of end ≤ 4 → IsTrue root_disk.tells → IsSettled root_disk root_store.base now.root
    pub repo_rests : status_of end ≤ 4 → IsTrue repo_disk.tells → IsSettled repo_disk repository_store.base now.repo
    -- The damaged file that the line names: of a command that works on the root alone one of the root, of one that works on the repository
    -- alone one of the repository, and of any other one of the two.
    pub root_damaged : scope.of_root ≡ true → NamesDamaged root_store root_disk now.root end
    pub repo_damaged : scope.of_repository ≡ true → NamesDamaged repository_store repo_disk now.repo end
    pub damaged : (path : Name) → end ≡ Err (failure.Damaged path) → (IsTrue root_disk.tells → HasDamagedFile root_store (root_disk.reads now.root) path) ⊎ (IsTrue repo_disk.tells → HasDamagedFile repository_store (repo_disk.reads now.repo) path)
    -- A command that works on the lists alone that were read when the disks were opened touches neither disk, and ends as its outcome on each
    -- state that has them, whatever else the disks tell or store. Where the root is told, so does one that works on its tree and its installed
    -- list alone; and, where the repository is told too, unless it works on the root alone, one that works on the root's tree and on all that
    -- was read then. Where both are told, so does one that also works on contents, unless a damaged file ended it, on each such state that has
    -- the contents which stand whole. Where the root is told, so does one that reads records of jobs, on each such state whose jobs have those
    -- that the root holds. Any command leaves the files of the commits and of the contents that are committed, however it ends, and
    -- one that works on no content those of all contents.
    pub by_lists : scope.of_lists ≡ true → (now.root ≡ root) × (now.repo ≡ repo) × ((s : State) → HasOpenedLists opened s → CallEnds (OwnOutcome m s input) s s before.out now.out end)
    pub by_tree : scope.of_tree ≡ true → IsTrue root_disk.tells → (s : State) → HasTree root_disk root opened s → CallEnds (OwnOutcome m s input) s s before.out now.out end
    pub by_opened : scope.of_opened ≡ true → IsTrue root_disk.tells → (scope.of_root ≡ false → IsTrue repo_disk.tells) → (s : State) → HasOpened root_disk root opened s → EndsByOpened m input s root before now end
    pub by_contents : scope.of_contents ≡ true → IsTrue root_disk.tells → IsTrue repo_disk.tells → status_of end ≤ 7 → (s : State) → HasOpened root_disk root opened s → HasWholeContents repo_disk repo opened s → EndsByOpened m input s root before now end
    pub by_records : scope.of_records ≡ true → IsTrue root_disk.tells → (s : State) → HasOpened root_disk root opened s → HoldsRecordsOf (root_disk.reads root) s.root.installed s.root.stack → CallEnds (OwnOutcome m s input) s s before.out now.out end
    pub files_stay : FilesStay repo_disk opened.catalogue scope.of_opened repo now.repo

  -- The disks weren't opened, and nothing else was done; or they were.
  abbrev pub CallReaches : Scope → Meaning → List ℕ → CallState T P → CallState T P → End → Type 0
  CallReaches scope m input before now end = NotOpened root_disk repo_disk before now end ⊎ WasOpened scope m input before now end

  -- ---- why it ended so, and what stands then, whatever the disks store

  -- why a call ended so, and what was written
  abbrev pub CallCause : CallState T P → CallState T P → End → Type 0
  CallCause before now (Ok x) = Unit {0}
  CallCause before now (Err failure.InputFault) = Rose before.input.faults now.input.faults × Keeps before.out.written now.out.written
  CallCause before now (Err failure.OutputFault) = Rose before.out.faults now.out.faults
  CallCause before now (Err failure.RootFault) = Rose (root_disk.faults before.root) (root_disk.faults now.root) × Keeps before.out.written now.out.written
  CallCause before now (Err failure.RepositoryFault) = Rose (repo_disk.faults before.repo) (repo_disk.faults now.repo) × Keeps before.out.written now.out.written
  CallCause before now (Err failure.Usage) = ⊥
  CallCause before now _ = Keeps before.out.written now.out.written

  -- no count of faults fell
  pub record AreLater (before now : CallState T P) : Type 0 where
    pub input : before.input.faults ≤ now.input.faults
    pub out : before.out.faults ≤ now.out.faults
    pub root : root_disk.faults before.root ≤ root_disk.faults now.root
    pub repo : repo_disk.faults before.repo ≤ repo_disk.faults now.repo

  -- Whatever the disks store.
  pub record CallFacts (before now : CallState T P) (end : End) : Type 0 where
    pub later : AreLater before now
    pub cause : CallCause before now end
    -- where it was refused, the input failed or a file is damaged, both disks recover to what they recovered to
    pub kept : ChangesNothing end → DisksAreKept before now
    -- A disk that recovers to no tree is left as it stands. A root of which a fixed directory isn't one is only read, and nothing else is done.
    pub root_untouched : IsTrue root_disk.tells → RecoversToNone root_store.base (root_disk.reads before.root) → Confined root_disk (Among no_name) before.root now.root
    pub repo_untouched : IsTrue repo_disk.tells → RecoversToNone repository_store.base (repo_disk.reads before.repo) → Confined repo_disk (Among no_name) before.repo now.repo
    -- A repository whose commit flag isn't set is changed below its directory alone, however the call ends.
    pub repo_within : IsTrue repo_disk.tells → is_committed repository_store.base (repo_disk.reads before.repo) ≡ false → Confined repo_disk (Among (is_within repository_base)) before.repo now.repo
    pub missing : IsTrue root_disk.tells → (r : Refusal) → fixed_dirs (root_disk.reads before.root) ≡ Err r → HasRead root_disk before.root now.root (Unit {0}) × (now.repo ≡ before.repo) × (now.input ≡ before.input)

  -- ---- a root whose log can't be put

  -- It was refused for the root's log, or for a fixed directory.
  pub record RefusesRoot (before : CallState T P) (end : End) : Type 0 where
    pub refusal : Refusal
    pub is : end ≡ Err (failure.Refused refusal)
    pub why : RefusesLog root_store.base (root_disk.reads before.root) refusal ⊎ (fixed_dirs (root_disk.reads before.root) ≡ Err refusal)

  -- The root wasn't opened, and is left as it stands; and where neither a fault of its disk, want of memory nor a damaged file ended it, the
  -- call was so refused.
  pub record IsBlocked (before now : CallState T P) (end : End) : Type 0 where
    pub stops : StopsForRoot root_disk repo_disk before now end
    pub untouched : Confined root_disk (Among no_name) before.root now.root
    pub refused : status_of end ≤ 4 → RefusesRoot before end

  -- ---- from a state to which both disks recover

  -- Until some moment, by which the root recovered, or which is the end of a call whose root wasn't opened, readers see at each name
  -- outside its private directory what stood there, what it recovers to, or nothing where just one of the two is a directory; and from
  -- then on what the command shows, and what no outcome touches reads as it did then. The count of faults at that moment is between the
  -- two others: where none rose over the whole call, it rose in neither part.
  pub record ShowsCall (IsOutcome : Result Effect Refusal → Type 0) (s : State) (before now : CallState T P) (end : End) : Type 0 where
    pub ready : T
    pub reached : RecoversOutside (root_disk.reads before.root) (root_disk.reads ready) ⊎ ((ready ≡ now.root) × StopsForRoot root_disk repo_disk before now end)
    pub recovery_later : root_disk.faults before.root ≤ root_disk.faults ready
    pub command_later : root_disk.faults ready ≤ root_disk.faults now.root
    pub recovery : UnlessFailed root_disk before.root ready (ShowsBetween (root_disk.reads before.root) (tree_of s.root))
    pub command : UnlessFailed root_disk ready now.root (IsShown IsOutcome s (root_disk.reads ready))
    pub outside : KeepsOthers IsOutcome s (root_disk.reads ready) (root_disk.reads now.root)

  -- Both disks were opened, and each lived so from then on.
  pub record LiveOpened (before now : CallState T P) (Root : T → Type 0) (Repo : P → Type 0) : Type 0 where
    pub root : T
    pub repo : P
    pub opened : Opened
    pub opens : AreOpened root_disk repo_disk before.root root before.repo repo opened
    pub root_lives : Root root
    pub repo_lives : Repo repo

  -- the disks weren't opened; or both were, and this is what each lived from then on
  abbrev pub LivePair : CallState T P → CallState T P → End → (T → Type 0) → (P → Type 0) → Type 0
  LivePair before now end Root Repo = NotOpened root_disk repo_disk before now end ⊎ LiveOpened before now Root Repo

  -- The state after the call, and what each disk went through. Until it is opened a crash leaves of the root an image at entry, or a tree that
  -- recovers to the state before, and of the repository an image at entry, or a tree that recovers to all that the disk, as it read at
  -- entry, recovers to.
  pub record CallFrom (m : Meaning) (input : List ℕ) (s : State) (before now : CallState T P) (end : End) : Type 0 where
    pub next : State
    pub ends : CallEnds (Outcome m s input) s next before.out now.out end
    pub apart : OneDisk s next
    pub root : LivesCall root_store root_disk (IsEntryOr root_store root_disk before.root s.root) s.root next.root before.root now.root
    pub repo : LivesCall repository_store repo_disk (RecoversAsThen repo_disk repository_store.base before.repo) s.repository next.repository before.repo now.repo
    -- from where both were opened a crash leaves of each a tree that recovers to its state before or to the one after
    pub pair : LivePair before now end (λ root. LeavesOnly root_disk root now.root (OneOf root_store s.root next.root)) (λ repo. LeavesOnly repo_disk repo now.repo (OneOf repository_store s.repository next.repository))
    pub rests : HasEffect end → RestBoth now next
    pub root_reads : OneOf root_store s.root next.root (root_disk.reads now.root)
    pub repo_reads : OneOf repository_store s.repository next.repository (repo_disk.reads now.repo)
    pub outside : is_committed root_store.base (root_disk.reads before.root) ≡ false → KeepsOthers (Outcome m s input) s (root_disk.reads before.root) (root_disk.reads now.root)
    pub seen : ShowsCall (Outcome m s input) s before now end
    pub left : status_of end ≤ 2 → IfSome before.input.left (λ input. now.input.left ≡ Some (left_of m s input))

  -- ---- a root that others edited before it was recovered

  -- A root whose commit flag is set and whose log can't be put blocks the call, until an edit makes room. Where others edited a root that
  -- recovered to a system, and the log can be put, the call is one from the system with those edits at whose paths the log puts nothing;
  -- where the commit flag isn't set, with all of them.
  pub record MeetsLog (m : Meaning) (input : List ℕ) (before now : CallState T P) (end : End) : Type 0 where
    pub blocked : IsTrue root_disk.tells → (puts : List Put) → is_committed root_store.base (root_disk.reads before.root) ≡ true → HoldsLog root_store.base puts (root_disk.reads before.root)
        → (AllCanBePut puts (root_disk.reads before.root) → ⊥) → IsBlocked before now end
    pub edited : IsTrue root_disk.tells → IsTrue repo_disk.tells → (s : State) (tree : Tree) (edits : List Edit) (puts : List Put) → AreEdits tree edits → root_disk.reads before.root ≡ all_edited tree edits
        → is_committed root_store.base tree ≡ true → HoldsLog root_store.base puts tree → AllCanBePut puts (root_disk.reads before.root) → Recovers root_store tree s.root → Recovers repository_store (repo_disk.reads before.repo) s.repository
        → CallFrom m input (after_edits s (edits_beside puts edits)) before now end
    pub edited_clear : IsTrue root_disk.tells → IsTrue repo_disk.tells → (s : State) (tree : Tree) (edits : List Edit) → AreEdits tree edits → root_disk.reads before.root ≡ all_edited tree edits
        → is_committed root_store.base tree ≡ false → Recovers root_store tree s.root → Recovers repository_store (repo_disk.reads before.repo) s.repository
        → CallFrom m input (after_edits s edits) before now end

  -- ---- from a root that recovers to a state

  -- the state after the call, and what the root went through
  pub record CallOnRoot (m : Meaning) (input : List ℕ) (s : State) (before now : CallState T P) (end : End) : Type 0 where
    pub next : State
    pub ends : StopsForRepository root_disk repo_disk before now end ⊎ CallEnds (Outcome m s input) s next before.out now.out end
    pub is_next : IsNext (Outcome m s input) s next
    pub stays : next.repository ≡ s.repository
    pub root : LivesCall root_store root_disk (IsEntryOr root_store root_disk before.root s.root) s.root next.root before.root now.root
    pub pair : LivePair before now end (λ root. LeavesOnly root_disk root now.root (OneOf root_store s.root next.root)) (λ repo. Unit {0})
    pub rests : HasEffect end → RestsAt root_store root_disk now.root next.root
    pub reads : OneOf root_store s.root next.root (root_disk.reads now.root)
    pub outside : is_committed root_store.base (root_disk.reads before.root) ≡ false → KeepsOthers (Outcome m s input) s (root_disk.reads before.root) (root_disk.reads now.root)
    pub seen : ShowsCall (Outcome m s input) s before now end

  -- The repository was opened at most: at every moment a crash leaves an image at entry, or a tree that recovers to all that its disk,
  -- as it read then, recovers to; and so does what it reads.
  pub record IsOpenedOnly (before now : CallState T P) : Type 0 where
    pub images : LeavesOnly repo_disk before.repo now.repo (RecoversAsThen repo_disk repository_store.base before.repo)
    pub kept : IsKept repository_store.base (repo_disk.reads before.repo) (repo_disk.reads now.repo)

  -- A command that works on the root alone: whatever the repository's disk tells or stores, it is opened at most.
  pub record IsOnRoot (m : Meaning) (input : List ℕ) (before now : CallState T P) (end : End) : Type 0 where
    pub from : FromRoots before (λ s. CallOnRoot m input s before now end)
    pub repository : IsTrue repo_disk.tells → IsOpenedOnly before now

  -- ---- from a repository that recovers to a state

  -- the repository after the call, and what its disk went through
  pub record CallOnRepository (m : Meaning) (input : List ℕ) (s : State) (before now : CallState T P) (end : End) : Type 0 where
    pub next : RepositoryState
    pub ends : StopsForRoot root_disk repo_disk before now end ⊎ CallEnds (OwnOutcome m s input) s (record { root = s.root; repository = next }) before.out now.out end
    pub is_next : IsNext (OwnOutcome m s input) s (record { root = s.root; repository = next })
    pub repo : LivesCall repository_store repo_disk (RecoversAsThen repo_disk repository_store.base before.repo) s.repository next before.repo now.repo
    pub pair : LivePair before now end (λ root. Unit {0}) (λ repo. LeavesOnly repo_disk repo now.repo (OneOf repository_store s.repository next))
    pub rests : HasEffect end → RestsAt repository_store repo_disk now.repo next
    pub reads : OneOf repository_store s.repository next (repo_disk.reads now.repo)

  -- A command that works on the repository alone: whatever the root's disk tells or stores, it is opened at most.
  pub record IsOnRepository (m : Meaning) (input : List ℕ) (before now : CallState T P) (end : End) : Type 0 where
    pub from : FromRepositories before (λ s. CallOnRepository m input s before now end)
    pub opened : Result Db Stop
    pub root : OpensRoot root_disk repo_disk before.root now.root opened

  -- ---- the whole

  -- A call of a command of this meaning, which works on so much, took its objects from one state to the other, and ended in this status.
  pub record IsCall (scope : Scope) (m : Meaning) (before now : CallState T P) (err err' : SinkState) (status : ℕ) : Type 0 where
    -- how it ended, which the status and the line on the standard error tell
    pub end : End
    pub reports : Reports end err err' status
    -- The input, of which all that follows is said: where the command takes one and it is told, all of it; else some bytes. A command
    -- that takes none reads none, and one that is done has read all.
    pub input : List ℕ
    pub is_input : IsInput m.takes_input before.input input
    pub unread : m.takes_input ≡ false → now.input ≡ before.input
    pub read_to_end : end ≡ Ok tt → m.takes_input ≡ true → IfSome before.input.left (λ input. now.input.left ≡ Some [])
    -- how far it came, why it ended so, and what stands then
    pub reaches : CallReaches scope m input before now end
    pub facts : CallFacts before now end
    pub log : MeetsLog m input before now end
    -- Its outcome, where both disks, the root alone, or the repository alone recover to a state. (That of a command that works on less
    -- is said where the disks were opened.)
    pub from : FromStates before (λ s. CallFrom m input s before now end)
    pub on_root : scope.of_root ≡ true → IsOnRoot m input before now end
    pub on_repository : scope.of_repository ≡ true → IsOnRepository m input before now end

-- ---- words that are no command

-- Nothing was done, and the failure was reported, or memory ran out.
pub record IsNoCall {T P : Type 0} (e : Failure) (before now : CallState T P) (err err' : SinkState) (status : ℕ) : Type 0 where
  pub same : now ≡ before
  pub reports : Reports (Err e) err err' status ⊎ Reports (Err failure.Memory) err err' status
