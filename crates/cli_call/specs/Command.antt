-- What a command's own function does over two disks that are open.
use Rattle.std.specs.Prelude.{◌≡◌, ◌⊎◌, ℕ, ◌≤◌, false, IsTrue, List, Result, Ok, Err}
use Rattle.cny_laws.specs.system-core.cny-base.Count.{Rose}
use Rattle.cny_laws.specs.system-core.cny-base.declared.refusal.Refusal.{Refusal}
use Rattle.cny_laws.specs.system-core.tree-disk.Tree.{Name}
use Rattle.cny_laws.specs.system-core.tree-disk.Disk.{DiskModel}
use Rattle.cny_laws.specs.system-core.tree-disk.Clear.{is_within}
use Rattle.cny_laws.specs.system-core.tree-disk.Confined.{Among, Confined, IsSynced, LeavesOnly}
use Rattle.cny_laws.specs.system-core.tree-disk.Unfailed.{UnlessFailed}
use Rattle.repo_load.specs.Files.{repository_base, HoldsCatalogue}
use Rattle.repo_load.specs.Loading.{IsCatalogue}
use Rattle.local_db.specs.declared.format.Format.TheVariants.{Two}
use Rattle.local_db.specs.Stores.{HoldsDatabase, IsDatabase}
use Rattle.cny_laws.specs.system-core.tree-journal.Recovery.{is_committed}
use Rattle.cny_laws.specs.declared.failure.Failure.{Failure}
use Rattle.cny_laws.specs.declared.failure.Failure.TheVariants as failure
use Rattle.cny_laws.specs.declared.opened.Opened.{Opened}
use Rattle.cny_laws.specs.system-core.FixedDirs.{fixed_dirs}
use Rattle.cny_laws.specs.Report.{End, status_of, ChangesNothing}
use Rattle.cny_laws.specs.State.{State, Effect, Meaning, Takes, IsNext, OneDisk}
use Rattle.cny_laws.specs.Store.{Store, OneOf, HasDamagedFile, IsSettled, RestsAt}
use Rattle.cny_laws.specs.Stores.{root_store, repository_store}
use Rattle.cny_laws.specs.Shown.{KeepsOthers, IsShown}

-- ---- two disks that are open

-- the two disks at one moment, and what is kept of them in memory
pub record Disks (T P : Type 0) : Type 0 where
  pub root : T
  pub repo : P
  pub opened : Opened

abbrev pub disks : {T P : Type 0} → T → P → Opened → Disks T P
disks root repo opened = record { root = root; repo = repo; opened = opened }

-- a root on which a command begins: the fixed directories stand, it is at rest, and holds this database in format 2
pub record IsLoadedRoot {D : Type 0} (disk : DiskModel D) (opened : Opened) (d : D) : Type 0 where
  pub fixed : fixed_dirs (disk.reads d) ≡ Ok tt
  pub flag_clear : is_committed root_store.base (disk.reads d) ≡ false
  pub synced : IsSynced disk d
  pub holds : HoldsDatabase Two (disk.reads d) opened.db.installed opened.db.oldest opened.db.newest

-- a repository on which a command begins: it is at rest, and this is its catalogue
pub record IsLoaded {D : Type 0} (disk : DiskModel D) (opened : Opened) (d : D) : Type 0 where
  pub settled : IsSettled disk repository_store.base d
  pub catalogue : HoldsCatalogue (disk.reads d) opened.catalogue

-- how a command's own function ended, as an end of a call
abbrev pub end_of : Result (List ℕ) Failure → End
end_of (Ok text) = Ok tt
end_of (Err e) = Err e

-- ---- by a state that the disks store

-- What one disk goes through, from a state to another: at every moment a crash leaves a tree that recovers to one of the two; after
-- a status up to 4 it rests at the second, and else, as it reads, it recovers to one of them.
pub record Goes {D X : Type 0} (store : Store X) (disk : DiskModel D) (x y : X) (old new : D) (end : End) : Type 0 where
  pub images : LeavesOnly disk old new (OneOf store x y)
  pub rests : status_of end ≤ 4 → RestsAt store disk new y
  pub reads : OneOf store x y (disk.reads new)

-- how a command's own function ended, by its outcomes on a state: the state after it, and its bytes
abbrev pub AnswersAs : (Result Effect Refusal → Type 0) → State → State → Result (List ℕ) Failure → Type 0
AnswersAs IsOutcome s next (Ok text) = Takes IsOutcome s next (λ bytes. bytes ≡ text)
AnswersAs IsOutcome s next (Err (failure.Refused r)) = IsOutcome (Err r) × (next ≡ s)
AnswersAs IsOutcome s next (Err failure.RootFault) = IsNext IsOutcome s next
AnswersAs IsOutcome s next (Err failure.RepositoryFault) = IsNext IsOutcome s next
AnswersAs IsOutcome s next (Err failure.Memory) = IsNext IsOutcome s next
AnswersAs IsOutcome s next (Err failure.Usage) = ⊥
AnswersAs IsOutcome s next (Err failure.InputFault) = ⊥
AnswersAs IsOutcome s next (Err failure.OutputFault) = ⊥
AnswersAs IsOutcome s next (Err (failure.Damaged path)) = ⊥

module _ {T P : Type 0} (root_disk : DiskModel T) (repo_disk : DiskModel P) where
  -- both disks rest and store the state
  pub record StandsFor (m : Disks T P) (s : State) : Type 0 where
    pub root : RestsAt root_store root_disk m.root s.root
    pub repo : RestsAt repository_store repo_disk m.repo s.repository

  -- a command may begin
  pub record AreReady (m : Disks T P) : Type 0 where
    pub root : IsTrue root_disk.tells → IsLoadedRoot root_disk m.opened m.root
    pub database : IsDatabase Two m.opened.db.installed m.opened.db.oldest m.opened.db.newest
    pub repo : IsTrue repo_disk.tells → IsLoaded repo_disk m.opened m.repo
    pub rules : IsCatalogue m.opened.catalogue

  -- each disk that is told rests, and a crash leaves just what it reads
  pub record Rest (m : Disks T P) : Type 0 where
    pub root : IsTrue root_disk.tells → IsSettled root_disk root_store.base m.root
    pub repo : IsTrue repo_disk.tells → IsSettled repo_disk repository_store.base m.repo

  -- each disk that is told reads as before
  pub record ReadsSame (old new : Disks T P) : Type 0 where
    pub root : IsTrue root_disk.tells → root_disk.reads new.root ≡ root_disk.reads old.root
    pub repo : IsTrue repo_disk.tells → repo_disk.reads new.repo ≡ repo_disk.reads old.repo

  -- a file of one of the disks is damaged
  abbrev pub HasDamage : Disks T P → Name → Type 0
  HasDamage m path = (IsTrue root_disk.tells → HasDamagedFile root_store (root_disk.reads m.root) path) ⊎ (IsTrue repo_disk.tells → HasDamagedFile repository_store (repo_disk.reads m.repo) path)

  -- why it ended so: the count of faults of a disk rose, or a file is damaged
  abbrev pub HasFailureCause : Disks T P → Disks T P → Result (List ℕ) Failure → Type 0
  HasFailureCause old new (Ok text) = Unit {0}
  HasFailureCause old new (Err (failure.Refused r)) = Unit {0}
  HasFailureCause old new (Err failure.RootFault) = Rose (root_disk.faults old.root) (root_disk.faults new.root)
  HasFailureCause old new (Err failure.RepositoryFault) = Rose (repo_disk.faults old.repo) (repo_disk.faults new.repo)
  HasFailureCause old new (Err failure.Memory) = Unit {0}
  HasFailureCause old new (Err (failure.Damaged path)) = HasDamage new path
  HasFailureCause old new (Err failure.Usage) = ⊥
  HasFailureCause old new (Err failure.InputFault) = ⊥
  HasFailureCause old new (Err failure.OutputFault) = ⊥

  -- From a state that the disks store: the state after it, and what each disk went through.
  pub record PerformsFrom (IsOutcome : Result Effect Refusal → Type 0) (s : State) (old new : Disks T P) (result : Result (List ℕ) Failure) : Type 0 where
    pub next : State
    pub answers : AnswersAs IsOutcome s next result
    pub apart : OneDisk s next
    pub root : Goes root_store root_disk s.root next.root old.root new.root (end_of result)
    pub repo : Goes repository_store repo_disk s.repository next.repository old.repo new.repo (end_of result)
    pub outside : KeepsOthers IsOutcome s (root_disk.reads old.root) (root_disk.reads new.root)
    pub seen : UnlessFailed root_disk old.root new.root (IsShown IsOutcome s (root_disk.reads old.root))

  -- THE CLAUSE of each command's own function: a command of this meaning was performed with this input, and ended so.
  pub record Performs (m : Meaning) (input : List ℕ) (old new : Disks T P) (result : Result (List ℕ) Failure) : Type 0 where
    pub root_later : root_disk.faults old.root ≤ root_disk.faults new.root
    pub repo_later : repo_disk.faults old.repo ≤ repo_disk.faults new.repo
    pub cause : HasFailureCause old new result
    pub rest : status_of (end_of result) ≤ 4 → Rest new
    pub same : ChangesNothing (end_of result) → ReadsSame old new
    -- the repository's disk is changed below the repository's directory alone, however it ends
    pub within : IsTrue repo_disk.tells → Confined repo_disk (Among (is_within repository_base)) old.repo new.repo
    pub told : IsTrue root_disk.tells → IsTrue repo_disk.tells → (s : State) → StandsFor old s → PerformsFrom (m.IsOutcome s input) s old new result
