-- A command over two disks that are open, with what it writes.
use Rattle.std.specs.Prelude.{◌≡◌, ℕ, ◌≤◌, false, true, IsTrue, List, Result, Ok, Err}
use Rattle.std.specs.Io.KnownBytes.{Appends, Keeps}
use Rattle.cny_laws.specs.system-core.cny-base.Count.{Rose}
use Rattle.cny_laws.specs.system-core.cny-base.declared.refusal.Refusal.{Refusal}
use Rattle.repo_load.specs.cny-base.Flow.{SinkModel, SinkState, sink_state, AppendsPart}
use Rattle.cny_laws.specs.system-core.tree-disk.Clear.{is_within}
use Rattle.cny_laws.specs.system-core.tree-disk.Confined.{Among, Confined, LeavesOnly}
use Rattle.cny_laws.specs.system-core.tree-disk.Disk.{DiskModel, Reads}
use Rattle.repo_load.specs.Files.{repository_base}
use Rattle.repo_load.specs.State.{RepositoryState}
use Rattle.cny_laws.specs.system-core.tree-disk.Unfailed.{UnlessFailed}
use Rattle.cny_laws.specs.declared.failure.Failure.{Failure}
use Rattle.cny_laws.specs.declared.failure.Failure.TheVariants as failure
use Rattle.cny_laws.specs.declared.opened.Opened.{Opened}
use Rattle.cny_laws.specs.Call.{FilesStay, HasOpenedLists, HasOpened, HasTree, HasWholeContents, HoldsOpened, HoldsRecordsOf, IsHeldOf}
use Rattle.cli_call.specs.Command.{Disks, disks, Goes, StandsFor, Rest, ReadsSame, HasDamage}
use Rattle.cny_laws.specs.Shown.{KeepsOthers, IsShown}
use Rattle.cny_laws.specs.Report.{ChangesNothing, End, status_of}
use Rattle.cny_laws.specs.State.{Scope, State, Effect, Meaning, Takes, IsNext, OneDisk}
use Rattle.cny_laws.specs.Store.{NamesDamaged, RestsAt}
use Rattle.cny_laws.specs.Stores.{root_store, repository_store}

-- ---- writing

-- What a command answered was written, and nothing else: all of it, or after a fault of the output a first part of it.
abbrev pub Wrote : Result (List ℕ) Failure → SinkState → SinkState → End → Type 0
Wrote (Err e) before now end = (end ≡ Err e) × (now ≡ before)
Wrote (Ok text) before now (Ok x) = Appends before.written now.written text
Wrote (Ok text) before now (Err failure.OutputFault) = Rose before.faults now.faults × AppendsPart before.written now.written text
Wrote (Ok text) before now (Err failure.Memory) = Keeps before.written now.written
Wrote (Ok text) before now (Err _) = ⊥

pub record WritesAnswer (answered : Result (List ℕ) Failure) (before now : SinkState) (end : End) : Type 0 where
  pub later : before.faults ≤ now.faults
  pub wrote : Wrote answered before now end

-- ---- the whole line

-- all that it works on: the disks and the output
pub record Moment (T P : Type 0) : Type 0 where
  pub at : Disks T P
  pub out : SinkState

abbrev pub moment : {O T P : Type 0} → SinkModel O → T → P → Opened → O → Moment T P
moment sink root repo opened out = record { at = disks root repo opened; out = sink_state sink out }

-- how it ended, by its outcomes on a state: the state after it, and what was written
abbrev pub EndsWriting : (Result Effect Refusal → Type 0) → State → State → SinkState → SinkState → End → Type 0
EndsWriting IsOutcome s next before now (Ok x) = Takes IsOutcome s next (λ bytes. Appends before.written now.written bytes)
EndsWriting IsOutcome s next before now (Err (failure.Refused r)) = IsOutcome (Err r) × (next ≡ s) × Keeps before.written now.written
EndsWriting IsOutcome s next before now (Err failure.OutputFault) = Takes IsOutcome s next (λ bytes. AppendsPart before.written now.written bytes)
EndsWriting IsOutcome s next before now (Err failure.RootFault) = IsNext IsOutcome s next × Keeps before.written now.written
EndsWriting IsOutcome s next before now (Err failure.RepositoryFault) = IsNext IsOutcome s next × Keeps before.written now.written
EndsWriting IsOutcome s next before now (Err failure.Memory) = IsNext IsOutcome s next × Keeps before.written now.written
EndsWriting IsOutcome s next before now (Err failure.Usage) = ⊥
EndsWriting IsOutcome s next before now (Err failure.InputFault) = ⊥
EndsWriting IsOutcome s next before now (Err (failure.Damaged path)) = ⊥

module _ {T P : Type 0} (root_disk : DiskModel T) (repo_disk : DiskModel P) where
  -- why it ended so
  abbrev pub LineCause : Moment T P → Moment T P → End → Type 0
  LineCause old new (Ok x) = Unit {0}
  LineCause old new (Err (failure.Refused r)) = Keeps old.out.written new.out.written
  LineCause old new (Err failure.OutputFault) = Rose old.out.faults new.out.faults
  LineCause old new (Err failure.RootFault) = Rose (root_disk.faults old.at.root) (root_disk.faults new.at.root) × Keeps old.out.written new.out.written
  LineCause old new (Err failure.RepositoryFault) = Rose (repo_disk.faults old.at.repo) (repo_disk.faults new.at.repo) × Keeps old.out.written new.out.written
  LineCause old new (Err failure.Memory) = Keeps old.out.written new.out.written
  LineCause old new (Err (failure.Damaged path)) = HasDamage root_disk repo_disk new.at path × Keeps old.out.written new.out.written
  LineCause old new (Err failure.Usage) = ⊥
  LineCause old new (Err failure.InputFault) = ⊥

  -- From a state that the disks store: the state after it, and what each disk went through.
  pub record LineFrom (IsOutcome : Result Effect Refusal → Type 0) (s : State) (old new : Moment T P) (end : End) : Type 0 where
    pub next : State
    pub ends : EndsWriting IsOutcome s next old.out new.out end
    pub apart : OneDisk s next
    pub root : Goes root_store root_disk s.root next.root old.at.root new.at.root end
    pub repo : Goes repository_store repo_disk s.repository next.repository old.at.repo new.at.repo end
    pub outside : KeepsOthers IsOutcome s (root_disk.reads old.at.root) (root_disk.reads new.at.root)
    pub seen : UnlessFailed root_disk old.at.root new.at.root (IsShown IsOutcome s (root_disk.reads old.at.root))

  -- The same of the root alone, from a state whose root its disk stores, whatever repository the state has.
  pub record LineOnRoot (IsOutcome : Result Effect Refusal → Type 0) (s : State) (old new : Moment T P) (end : End) : Type 0 where
    pub next : State
    pub ends : EndsWriting IsOutcome s next old.out new.out end
    pub stays : next.repository ≡ s.repository
    pub root : Goes root_store root_disk s.root next.root old.at.root new.at.root end
    pub outside : KeepsOthers IsOutcome s (root_disk.reads old.at.root) (root_disk.reads new.at.root)
    pub seen : UnlessFailed root_disk old.at.root new.at.root (IsShown IsOutcome s (root_disk.reads old.at.root))

  pub record LineAlone (m : Meaning) (input : List ℕ) (old new : Moment T P) (end : End) : Type 0 where
    pub repo : new.at.repo ≡ old.at.repo
    pub damaged : NamesDamaged root_store root_disk new.at.root end
    pub told : IsTrue root_disk.tells → (s : State) → RestsAt root_store root_disk old.at.root s.root → LineOnRoot (m.IsOutcome s input) s old new end

  -- The same of the repository alone, from a state whose repository its disk stores, whatever root the state has.
  pub record LineOnRepository (IsOutcome : Result Effect Refusal → Type 0) (s : State) (old new : Moment T P) (end : End) : Type 0 where
    pub next : RepositoryState
    pub ends : EndsWriting IsOutcome s (record { root = s.root; repository = next }) old.out new.out end
    pub repo : Goes repository_store repo_disk s.repository next old.at.repo new.at.repo end

  pub record LineApart (m : Meaning) (input : List ℕ) (old new : Moment T P) (end : End) : Type 0 where
    pub root : new.at.root ≡ old.at.root
    pub damaged : NamesDamaged repository_store repo_disk new.at.repo end
    pub told : IsTrue repo_disk.tells → (s : State) → RestsAt repository_store repo_disk old.at.repo s.repository → LineOnRepository (m.IsOutcome s input) s old new end

  -- By the lists alone that were read when the disks were opened.
  pub record LineByLists (m : Meaning) (input : List ℕ) (old new : Moment T P) (end : End) : Type 0 where
    pub root : new.at.root ≡ old.at.root
    pub repo : new.at.repo ≡ old.at.repo
    pub ends : (s : State) → HasOpenedLists old.at.opened s → EndsWriting (m.IsOutcome s input) s s old.out new.out end

  -- By the root's tree and its installed list alone.
  abbrev pub LineByTree : Meaning → List ℕ → Moment T P → Moment T P → End → Type 0
  LineByTree m input old new end = IsTrue root_disk.tells → (s : State) → HasTree root_disk old.at.root old.at.opened s → EndsWriting (m.IsOutcome s input) s s old.out new.out end

  -- By the root's tree and what was read when the disks were opened.
  pub record LineByOpened (IsOutcome : Result Effect Refusal → Type 0) (s : State) (old new : Moment T P) (end : End) : Type 0 where
    pub next : State
    pub ends : EndsWriting IsOutcome s next old.out new.out end
    pub holds : status_of end ≤ 4 → HoldsOpened root_disk repo_disk new.at.root new.at.repo next
    pub moments : IsTrue root_disk.tells → LeavesOnly root_disk old.at.root new.at.root (IsHeldOf s next)

  -- A command of this meaning, which works on so much, was performed with this input, what it answered was written, and it
  -- ended so.
  pub record RunsLine (scope : Scope) (m : Meaning) (input : List ℕ) (old new : Moment T P) (end : End) : Type 0 where
    pub root_later : root_disk.faults old.at.root ≤ root_disk.faults new.at.root
    pub repo_later : repo_disk.faults old.at.repo ≤ repo_disk.faults new.at.repo
    pub out_later : old.out.faults ≤ new.out.faults
    pub cause : LineCause old new end
    pub rest : status_of end ≤ 4 → Rest root_disk repo_disk new.at
    pub same : ChangesNothing end → ReadsSame root_disk repo_disk old.at new.at
    pub within : IsTrue repo_disk.tells → Confined repo_disk (Among (is_within repository_base)) old.at.repo new.at.repo
    pub told : IsTrue root_disk.tells → IsTrue repo_disk.tells → (s : State) → StandsFor root_disk repo_disk old.at s → LineFrom (m.IsOutcome s input) s old new end
    pub alone : scope.of_root ≡ true → LineAlone m input old new end
    pub apart : scope.of_repository ≡ true → LineApart m input old new end
    pub by_lists : scope.of_lists ≡ true → LineByLists m input old new end
    pub by_tree : scope.of_tree ≡ true → LineByTree m input old new end
    pub by_opened : scope.of_opened ≡ true → IsTrue root_disk.tells → (scope.of_root ≡ false → IsTrue repo_disk.tells) → (s : State) → HasOpened root_disk old.at.root old.at.opened s → LineByOpened (m.IsOutcome s input) s old new end
    pub by_contents : scope.of_contents ≡ true → IsTrue root_disk.tells → IsTrue repo_disk.tells → status_of end ≤ 7 → (s : State) → HasOpened root_disk old.at.root old.at.opened s → HasWholeContents repo_disk old.at.repo old.at.opened s → LineByOpened (m.IsOutcome s input) s old new end
    pub by_records : scope.of_records ≡ true → IsTrue root_disk.tells → (s : State) → HasOpened root_disk old.at.root old.at.opened s → HoldsRecordsOf (root_disk.reads old.at.root) s.root.installed s.root.stack → EndsWriting (m.IsOutcome s input) s s old.out new.out end
    pub files_stay : FilesStay repo_disk old.at.opened.catalogue scope.of_opened old.at.repo new.at.repo
    -- a disk that it only reads
    pub root_read : scope.reads_root ≡ true → Reads root_disk old.at.root new.at.root (Unit {0})
    pub repo_read : scope.reads_repository ≡ true → Reads repo_disk old.at.repo new.at.repo (Unit {0})
