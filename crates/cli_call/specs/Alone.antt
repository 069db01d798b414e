-- What the function of a command does that works on one of the disks alone, or on the lists alone that were read when they were opened,
-- or that only reads a disk.
use Rattle.std.specs.Prelude.{◌≡◌, ℕ, ◌≤◌, false, true, IsTrue, List, Result}
use Rattle.cny_laws.specs.system-core.cny-base.declared.refusal.Refusal.{Refusal}
use Rattle.cny_laws.specs.system-core.tree-disk.Clear.{is_within}
use Rattle.cny_laws.specs.system-core.tree-disk.Confined.{Among, Confined, LeavesOnly}
use Rattle.cny_laws.specs.system-core.tree-disk.Disk.{DiskModel, Reads}
use Rattle.cny_laws.specs.system-core.tree-disk.Unfailed.{UnlessFailed}
use Rattle.repo_load.specs.Files.{repository_base}
use Rattle.repo_load.specs.State.{RepositoryState}
use Rattle.cny_laws.specs.declared.failure.Failure.{Failure}
use Rattle.cli_call.specs.Command.{Disks, Goes, AnswersAs, HasFailureCause, Performs, end_of}
use Rattle.cny_laws.specs.Report.{ChangesNothing, status_of}
use Rattle.cny_laws.specs.Shown.{KeepsOthers, IsShown}
use Rattle.cny_laws.specs.State.{State, Effect, Meaning, Scope}
use Rattle.cny_laws.specs.Store.{IsSettled, NamesDamaged, RestsAt}
use Rattle.cny_laws.specs.Stores.{root_store, repository_store}
use Rattle.cny_laws.specs.Call.{FilesStay, HasOpenedLists, HasOpened, HasTree, HasWholeContents, HoldsOpened, HoldsRecordsOf, IsHeldOf}

module _ {T P : Type 0} (root_disk : DiskModel T) (repo_disk : DiskModel P) where
  -- From a state whose root the root's disk stores, whatever repository the state has: the state after it, and what the root went
  -- through.
  pub record PerformsOnRoot (IsOutcome : Result Effect Refusal → Type 0) (s : State) (old new : T) (result : Result (List ℕ) Failure) : Type 0 where
    pub next : State
    pub answers : AnswersAs IsOutcome s next result
    pub stays : next.repository ≡ s.repository
    pub root : Goes root_store root_disk s.root next.root old new (end_of result)
    pub outside : KeepsOthers IsOutcome s (root_disk.reads old) (root_disk.reads new)
    pub seen : UnlessFailed root_disk old new (IsShown IsOutcome s (root_disk.reads old))

  -- THE SECOND CLAUSE of the function of a command that works on the root alone: whatever the repository's disk tells or stores, it
  -- wasn't touched, and the command was performed as on every repository; a file that it names as damaged is one of the root.
  pub record PerformsAlone (m : Meaning) (input : List ℕ) (old new : Disks T P) (result : Result (List ℕ) Failure) : Type 0 where
    pub repo : new.repo ≡ old.repo
    pub damaged : NamesDamaged root_store root_disk new.root result
    pub told : IsTrue root_disk.tells → (s : State) → RestsAt root_store root_disk old.root s.root → PerformsOnRoot (m.IsOutcome s input) s old.root new.root result

  -- From a state whose repository the repository's disk stores, whatever root the state has: the repository after it, what was answered,
  -- and what the disk went through.
  pub record PerformsOnRepository (IsOutcome : Result Effect Refusal → Type 0) (s : State) (old new : P) (result : Result (List ℕ) Failure) : Type 0 where
    pub next : RepositoryState
    pub answers : AnswersAs IsOutcome s (record { root = s.root; repository = next }) result
    pub goes : Goes repository_store repo_disk s.repository next old new (end_of result)

  -- THE CLAUSE of the function of a command that works on the repository alone: whatever the root's disk tells or stores, it wasn't
  -- touched, and the command was performed as on every root; a file that it names as damaged is one of the repository. (That it was
  -- performed so as any command is, follows.)
  pub record ActsOnRepository (m : Meaning) (input : List ℕ) (old new : Disks T P) (result : Result (List ℕ) Failure) : Type 0 where
    pub root : new.root ≡ old.root
    pub later : repo_disk.faults old.repo ≤ repo_disk.faults new.repo
    pub cause : HasFailureCause root_disk repo_disk old new result
    pub damaged : NamesDamaged repository_store repo_disk new.repo result
    pub rest : status_of (end_of result) ≤ 4 → IsTrue repo_disk.tells → IsSettled repo_disk repository_store.base new.repo
    pub same : ChangesNothing (end_of result) → IsTrue repo_disk.tells → repo_disk.reads new.repo ≡ repo_disk.reads old.repo
    pub within : IsTrue repo_disk.tells → Confined repo_disk (Among (is_within repository_base)) old.repo new.repo
    pub told : IsTrue repo_disk.tells → (s : State) → RestsAt repository_store repo_disk old.repo s.repository → PerformsOnRepository (m.IsOutcome s input) s old.repo new.repo result

  -- THE CLAUSE of the function of a command that works on the lists alone that were read when the disks were opened: it answers as on
  -- each state that has them, whatever else the disks tell or store, and neither was touched.
  pub record AnswersByLists (m : Meaning) (input : List ℕ) (old new : Disks T P) (result : Result (List ℕ) Failure) : Type 0 where
    pub root : new.root ≡ old.root
    pub repo : new.repo ≡ old.repo
    pub answers : (s : State) → HasOpenedLists old.opened s → AnswersAs (m.IsOutcome s input) s s result

  -- THE CLAUSE of the function of a command that works on the root's tree and its installed list alone: it answers as on each state that
  -- has them, whatever else the disks store; the root was only read, and the repository's disk wasn't touched.
  pub record AnswersByTree (m : Meaning) (input : List ℕ) (old new : Disks T P) (result : Result (List ℕ) Failure) : Type 0 where
    pub root : Reads root_disk old.root new.root (Unit {0})
    pub repo : new.repo ≡ old.repo
    pub answers : IsTrue root_disk.tells → (s : State) → HasTree root_disk old.root old.opened s → AnswersAs (m.IsOutcome s input) s s result

  -- By a state that has what was read when the disks were opened: the state after it, of which, after a status up to 4, the disks hold
  -- the tree, the database and the catalogue; and at every moment a crash leaves a root that recovers to the tree and the database of the
  -- state before or of this one.
  pub record AnswersOpened (IsOutcome : Result Effect Refusal → Type 0) (s : State) (old new : Disks T P) (result : Result (List ℕ) Failure) : Type 0 where
    pub next : State
    pub answers : AnswersAs IsOutcome s next result
    pub holds : status_of (end_of result) ≤ 4 → HoldsOpened root_disk repo_disk new.root new.repo next
    pub moments : IsTrue root_disk.tells → LeavesOnly root_disk old.root new.root (IsHeldOf s next)

  -- THE CLAUSE of the function of a command that works on the root's tree and on what was read when the disks were opened, whatever else
  -- both store: it answers as on each state that has these.
  abbrev pub AnswersByOpened : Meaning → List ℕ → Disks T P → Disks T P → Result (List ℕ) Failure → Type 0
  AnswersByOpened m input old new result = IsTrue root_disk.tells → (s : State) → HasOpened root_disk old.root old.opened s → AnswersOpened (m.IsOutcome s input) s old new result

  -- THE CLAUSE of the function of a command that also works on contents of the repository, whatever else both disks store, unless it met a
  -- damaged one: it answers as on each state that has these, and the contents which stand whole.
  abbrev pub AnswersByContents : Meaning → List ℕ → Disks T P → Disks T P → Result (List ℕ) Failure → Type 0
  AnswersByContents m input old new result =
      IsTrue root_disk.tells → IsTrue repo_disk.tells → status_of (end_of result) ≤ 7 → (s : State) → HasOpened root_disk old.root old.opened s → HasWholeContents repo_disk old.repo old.opened s → AnswersOpened (m.IsOutcome s input) s old new result

  -- THE CLAUSE of the function of a command that reads the records of the root's jobs, whatever else both disks store: it answers as on each
  -- state that has what was read when the disks were opened, and of whose jobs the root holds the records.
  abbrev pub AnswersByRecords : Meaning → List ℕ → Disks T P → Disks T P → Result (List ℕ) Failure → Type 0
  AnswersByRecords m input old new result =
      IsTrue root_disk.tells → (s : State) → HasOpened root_disk old.root old.opened s → HoldsRecordsOf (root_disk.reads old.root) s.root.installed s.root.stack → AnswersAs (m.IsOutcome s input) s s result

  -- ALL CLAUSES of a command that works on so much: it was performed, also where it is told of no more than what it works on, and a disk
  -- that it only reads was only read.
  pub record PerformsWithin (scope : Scope) (m : Meaning) (input : List ℕ) (old new : Disks T P) (result : Result (List ℕ) Failure) : Type 0 where
    pub performs : Performs root_disk repo_disk m input old new result
    pub alone : scope.of_root ≡ true → PerformsAlone m input old new result
    pub apart : scope.of_repository ≡ true → ActsOnRepository m input old new result
    pub tree : scope.of_tree ≡ true → AnswersByTree m input old new result
    pub opened : scope.of_opened ≡ true → (scope.of_root ≡ false → IsTrue repo_disk.tells) → AnswersByOpened m input old new result
    pub by_contents : scope.of_contents ≡ true → AnswersByContents m input old new result
    pub by_records : scope.of_records ≡ true → AnswersByRecords m input old new result
    pub files : FilesStay repo_disk old.opened.catalogue scope.of_opened old.repo new.repo
    pub lists : scope.of_lists ≡ true → AnswersByLists m input old new result
    pub root_read : scope.reads_root ≡ true → Reads root_disk old.root new.root (Unit {0})
    pub repo_read : scope.reads_repository ≡ true → Reads repo_disk old.repo new.repo (Unit {0})
