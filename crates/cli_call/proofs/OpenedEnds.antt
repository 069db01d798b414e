-- How a command ends by what was read when the disks were opened, whatever else both store.
use Rattle.std.proofs.Common.{◌≡◌, ⊎_elim, ℕ, ◌≤◌, Bool, false, List, Result, Err, refl, sym, ap, ◌∙◌, subst, inl, arith}
use Rattle.std.specs.Prelude.{IsTrue}
use Rattle.std.specs.FinMap.{get}
use Rattle.cny_laws.specs.system-core.cny-base.declared.refusal.Fault.{Fault}
use Rattle.cny_laws.specs.system-core.cny-base.declared.refusal.Fault.TheVariants as fault
use Rattle.cny_laws.specs.system-core.cny-base.declared.refusal.Refusal.{Refusal}
use Rattle.cny_laws.specs.system-core.cny-base.Reserved.{private_directory}
use Rattle.cny_laws.specs.system-core.Job.{db_of}
use Rattle.cny_laws.specs.system-core.JobWriting.{RecoversToHeld}
use Rattle.cny_laws.specs.system-core.tree-disk.Confined.{Among, IsSynced, IsUnsyncedOr, LeavesOnly}
use Rattle.cny_laws.specs.system-core.tree-disk.Disk.{DiskModel, HasRead, IsDisk, Reads}
use Rattle.cny_laws.specs.system-core.tree-disk.Steps.{no_name}
use Rattle.cny_laws.specs.system-core.tree-disk.Tree.{Name, Tree}
use Rattle.cny_laws.specs.system-core.tree-journal.Recovery.{at_rest, is_committed}
use Rattle.cny_laws.proofs.system-core.tree-disk.ConfinedLaws.{confined_read, leaves_then, leaves_weaker}
use Rattle.cny_laws.proofs.system-core.tree-disk.Laws.{same_tree}
use Rattle.local_db.specs.declared.db.Db.{Db}
use Rattle.local_db.specs.declared.format.Format.TheVariants.{Two}
use Rattle.local_db.specs.Stores.{HoldsDatabase}
use Rattle.local_db.specs.SystemState.{newest, oldest}
use Rattle.repo_index.specs.Catalogue.{CatalogueParts}
use Rattle.repo_load.specs.Contents.{FindsContent}
use Rattle.repo_load.specs.Files.{HoldsCatalogue}
use Rattle.repo_load.specs.State.{catalogue_of}
use Rattle.cny_laws.specs.declared.failure.Failure.{Failure}
use Rattle.cny_laws.specs.declared.failure.Failure.TheVariants as failure
use Rattle.cny_laws.specs.declared.opened.Opened.{Opened}
use Rattle.cny_laws.specs.Call.{FilesStay, HasOpened, HasWholeContents, HoldsOpened, IsHeldOf, IsKeptFile}
use Rattle.cny_laws.specs.Failures.{failure_of_fault}
use Rattle.cny_laws.specs.Report.{status_of}
use Rattle.cny_laws.specs.State.{tree_of, Effect, Meaning, State}
use Rattle.cli_call.specs.Alone.{AnswersByContents, AnswersByOpened, AnswersOpened}
use Rattle.cli_call.specs.Command.{AnswersAs, AreReady, Disks}
use Rattle.cli_call.proofs.CommandLaws.{AreRead, answers_more}
use Rattle.cli_call.proofs.StoreLaws.{nothing_done}

-- ---- the files of a repository

-- it was only read
pub files_read : {P : Type 0} {disk : DiskModel P} → IsDisk disk → (c : CatalogueParts) (all : Bool) (old new : P) → Reads disk old new (Unit {0}) → FilesStay disk c all old new
files_read laws c all old new read told = confined_read laws (λ q. IsKeptFile c all q → ⊥) (read told)

-- nothing was done on it
pub files_kept : {P : Type 0} {disk : DiskModel P} → IsDisk disk → (c : CatalogueParts) (all : Bool) (d : P) → FilesStay disk c all d d
files_kept laws c all d = files_read laws c all d d (λ told. nothing_done laws d)

-- ---- what is held

-- the database that was read is that of the state
pub database_held : {T : Type 0} {root_disk : DiskModel T} (root : T) (opened : Opened) (s : State) → HasOpened root_disk root opened s → (tree : Tree) → HoldsDatabase Two tree opened.db.installed opened.db.oldest opened.db.newest
    → HoldsDatabase Two tree s.root.installed (oldest s.root.stack) (newest s.root.stack)
database_held root opened s has tree holds = subst (λ (d : Db). HoldsDatabase Two tree d.installed d.oldest d.newest) (sym has.database) holds

pub catalogue_held : {T : Type 0} {root_disk : DiskModel T} (root : T) (opened : Opened) (s : State) → HasOpened root_disk root opened s → (tree : Tree) → HoldsCatalogue tree opened.catalogue → HoldsCatalogue tree (catalogue_of s.repository.commits)
catalogue_held root opened s has tree holds = subst (λ (c : CatalogueParts). HoldsCatalogue tree c) (sym has.catalogue) holds

-- while the root is only read, a crash leaves its tree and its database
pub moments_read : {T : Type 0} {root_disk : DiskModel T} (root root' : T) (opened : Opened) → is_committed private_directory (root_disk.reads root) ≡ false → IsSynced root_disk root
    → HoldsDatabase Two (root_disk.reads root) opened.db.installed opened.db.oldest opened.db.newest → HasRead root_disk root root' (Unit {0}) → IsDisk root_disk → (s next : State) → HasOpened root_disk root opened s → LeavesOnly root_disk root root' (IsHeldOf s next)
moments_read {root_disk = root_disk} root root' opened clear synced holds read laws s next has =
    let held : RecoversToHeld (tree_of s.root) (db_of s.root) (root_disk.reads root) = record {
      recovered = root_disk.reads root;
      recovers = at_rest clear (λ q out. refl);
      outer = has.outer;
      holds = database_held root opened s has (root_disk.reads root) holds;
    } in
    let run = confined_read laws (Among no_name) read in
    leaves_weaker (λ image differs. inl (subst (RecoversToHeld (tree_of s.root) (db_of s.root)) (sym (same_tree image (root_disk.reads root) (λ p. differs.agrees p (none p)))) held)) run.images
  where
    none : (p : Name) → IsUnsyncedOr root_disk root (Among no_name) p → ⊥
    none p h = ⊎_elim (λ un. absurd (cc (un, synced p))) (λ is. absurd (cc is)) h

module _ {T P : Type 0} {root_disk : DiskModel T} {repo_disk : DiskModel P} where
  pub root_moments : IsDisk root_disk → (old new : Disks T P) → AreReady root_disk repo_disk old → Reads root_disk old.root new.root (Unit {0}) → (s next : State) → HasOpened root_disk old.root old.opened s → IsTrue root_disk.tells
      → LeavesOnly root_disk old.root new.root (IsHeldOf s next)
  root_moments laws old new ready read s next has told = let at = ready.root told in moments_read old.root new.root old.opened at.flag_clear at.synced at.holds (read told) laws s next has

  -- where the disks read as they did
  pub opened_holds : (root root' : T) (repo repo' : P) (opened : Opened) → (IsTrue root_disk.tells → HoldsDatabase Two (root_disk.reads root) opened.db.installed opened.db.oldest opened.db.newest) → (IsTrue repo_disk.tells → HoldsCatalogue (repo_disk.reads repo) opened.catalogue)
      → (IsTrue root_disk.tells → root_disk.reads root' ≡ root_disk.reads root) → (IsTrue repo_disk.tells → repo_disk.reads repo' ≡ repo_disk.reads repo) → (s : State) → HasOpened root_disk root opened s → HoldsOpened root_disk repo_disk root' repo' s
  opened_holds root root' repo repo' opened database catalogue same_root same_repo s has = record {
    outer = λ told q out. ap (λ (t : Tree). get t q) (same_root told) ∙ has.outer q out;
    database = λ told. database_held root opened s has (root_disk.reads root') (subst (λ (t : Tree). HoldsDatabase Two t opened.db.installed opened.db.oldest opened.db.newest) (sym (same_root told)) (database told));
    catalogue = λ told. catalogue_held root opened s has (repo_disk.reads repo') (subst (λ (t : Tree). HoldsCatalogue t opened.catalogue) (sym (same_repo told)) (catalogue told));
  }

  pub same_holds : (old new : Disks T P) → AreReady root_disk repo_disk old → (IsTrue root_disk.tells → root_disk.reads new.root ≡ root_disk.reads old.root) → (IsTrue repo_disk.tells → repo_disk.reads new.repo ≡ repo_disk.reads old.repo)
      → (s : State) → HasOpened root_disk old.root old.opened s → HoldsOpened root_disk repo_disk new.root new.repo s
  same_holds old new ready same_root same_repo s has = opened_holds old.root new.root old.repo new.repo old.opened (λ told. (ready.root told).holds) (λ told. (ready.repo told).catalogue) same_root same_repo s has

  -- ---- a command that ended while the root was only read

  module _ (root_laws : IsDisk root_disk) (m : Meaning) (input : List ℕ) (old new : Disks T P) (ready : AreReady root_disk repo_disk old) (root_read : Reads root_disk old.root new.root (Unit {0})) where
    -- memory ran out, or a disk failed
    stopped_opened : (f : Failure) → (status_of (Err f) ≤ 4 → ⊥) → ((s : State) → AnswersAs (m.IsOutcome s input) s s (Err f)) → AnswersByOpened root_disk repo_disk m input old new (Err f)
    stopped_opened f high answers told s has = record { next = s; answers = answers s; holds = λ le. absurd (high le); moments = root_moments root_laws old new ready root_read s s has }

    pub memory_opened : AnswersByOpened root_disk repo_disk m input old new (Err failure.Memory)
    memory_opened = stopped_opened failure.Memory (λ le. omega (arith, le)) (λ s. inl refl)

    pub root_fault_opened : AnswersByOpened root_disk repo_disk m input old new (Err failure.RootFault)
    root_fault_opened = stopped_opened failure.RootFault (λ le. omega (arith, le)) (λ s. inl refl)

    pub repo_fault_opened : AnswersByOpened root_disk repo_disk m input old new (Err failure.RepositoryFault)
    repo_fault_opened = stopped_opened failure.RepositoryFault (λ le. omega (arith, le)) (λ s. inl refl)

    module _ (same_repo : IsTrue repo_disk.tells → repo_disk.reads new.repo ≡ repo_disk.reads old.repo) where
      -- it was refused
      pub refused_opened : (refused : Refusal) → (IsTrue root_disk.tells → (s : State) → HasOpened root_disk old.root old.opened s → m.IsOutcome s input (Err refused)) → AnswersByOpened root_disk repo_disk m input old new (Err (failure.Refused refused))
      refused_opened refused refuses told s has = record {
        next = s;
        answers = (refuses told s has, refl);
        holds = λ le. same_holds old new ready (λ t. let read = root_read t in read.same.reads) same_repo s has;
        moments = root_moments root_laws old new ready root_read s s has;
      }

      -- a test refused, or memory ran out
      pub fault_opened : (f : Fault) → ((refused : Refusal) → f ≡ fault.Refused refused → IsTrue root_disk.tells → (s : State) → HasOpened root_disk old.root old.opened s → m.IsOutcome s input (Err refused)) → AnswersByOpened root_disk repo_disk m input old new (Err (failure_of_fault f))
      fault_opened (fault.Refused refused) refuses = refused_opened refused (refuses refused refl)
      fault_opened fault.Memory refuses = memory_opened

  -- a meaning that has all outcomes of another was performed too
  pub opened_more : (one two : Meaning) (from input : List ℕ) → ((s : State) (outcome : Result Effect Refusal) → one.IsOutcome s from outcome → two.IsOutcome s input outcome) → (old new : Disks T P) (result : Result (List ℕ) Failure)
      → AnswersByOpened root_disk repo_disk one from old new result → AnswersByOpened root_disk repo_disk two input old new result
  opened_more one two from input more old new result done told s has =
      let by : AnswersOpened root_disk repo_disk (one.IsOutcome s from) s old new result = done told s has in
      record { next = by.next; answers = answers_more (more s) s by.next result by.answers; holds = by.holds; moments = by.moments }

  -- ---- a command that went on from there

  -- the state still has all that was read
  pub has_since : (old mid : Disks T P) → AreRead root_disk repo_disk old mid → mid.opened ≡ old.opened → IsTrue root_disk.tells → (s : State) → HasOpened root_disk old.root old.opened s → HasOpened root_disk mid.root mid.opened s
  has_since old mid read same told s has = record {
    system = has.system;
    outer = λ q out. ap (λ (t : Tree). get t q) (read.root told).same.reads ∙ has.outer q out;
    database = has.database ∙ ap (λ (o : Opened). o.db) (sym same);
    catalogue = has.catalogue ∙ ap (λ (o : Opened). o.catalogue) (sym same);
  }

  -- so it was performed from then on, also by a meaning that has its outcomes
  pub opened_since : IsDisk root_disk → (one two : Meaning) (from input : List ℕ) (old mid new : Disks T P) (result : Result (List ℕ) Failure) → AreReady root_disk repo_disk old → AreRead root_disk repo_disk old mid → mid.opened ≡ old.opened
      → (IsTrue root_disk.tells → (s : State) → HasOpened root_disk old.root old.opened s → (outcome : Result Effect Refusal) → one.IsOutcome s from outcome → two.IsOutcome s input outcome)
      → AnswersByOpened root_disk repo_disk one from mid new result → AnswersByOpened root_disk repo_disk two input old new result
  opened_since root_laws one two from input old mid new result ready read same more done told s has =
      let by : AnswersOpened root_disk repo_disk (one.IsOutcome s from) s mid new result = done told s (has_since old mid read same told s has) in
      record {
        next = by.next;
        answers = answers_more (more told s has) s by.next result by.answers;
        holds = by.holds;
        moments = λ t. leaves_then (root_moments root_laws old mid ready read.root s by.next has t) (by.moments t);
      }

-- ---- with the contents that stand whole

module _ {T P : Type 0} {root_disk : DiskModel T} {repo_disk : DiskModel P} where
  -- what asks for no content
  pub opened_contents : (m : Meaning) (input : List ℕ) (old new : Disks T P) (result : Result (List ℕ) Failure) → AnswersByOpened root_disk repo_disk m input old new result → AnswersByContents root_disk repo_disk m input old new result
  opened_contents m input old new result done told repo_told whole s has contents = done told s has

  -- a test refused, or memory ran out, while the disks were only read
  pub fault_whole : IsDisk root_disk → (m : Meaning) (input : List ℕ) (old new : Disks T P) → AreReady root_disk repo_disk old → Reads root_disk old.root new.root (Unit {0}) → (IsTrue repo_disk.tells → repo_disk.reads new.repo ≡ repo_disk.reads old.repo) → (f : Fault)
      → ((refused : Refusal) → f ≡ fault.Refused refused → IsTrue root_disk.tells → (s : State) → HasOpened root_disk old.root old.opened s → m.IsOutcome s input (Err refused)) → AnswersByContents root_disk repo_disk m input old new (Err (failure_of_fault f))
  fault_whole laws m input old new ready read same f refuses = opened_contents m input old new (Err (failure_of_fault f)) (fault_opened laws m input old new ready read same f refuses)

  -- a meaning that has all outcomes of another, on each such state, was performed too
  pub contents_more : (one two : Meaning) (from input : List ℕ) (old new : Disks T P) (result : Result (List ℕ) Failure)
      → ((s : State) → HasOpened root_disk old.root old.opened s → (outcome : Result Effect Refusal) → one.IsOutcome s from outcome → two.IsOutcome s input outcome)
      → AnswersByContents root_disk repo_disk one from old new result → AnswersByContents root_disk repo_disk two input old new result
  contents_more one two from input old new result more done told repo_told whole s has contents =
      let by : AnswersOpened root_disk repo_disk (one.IsOutcome s from) s old new result = done told repo_told whole s has contents in
      record { next = by.next; answers = answers_more (more s has) s by.next result by.answers; holds = by.holds; moments = by.moments }

  whole_since : (old mid : Disks T P) → AreRead root_disk repo_disk old mid → mid.opened ≡ old.opened → IsTrue repo_disk.tells → (s : State) → HasWholeContents repo_disk old.repo old.opened s → HasWholeContents repo_disk mid.repo mid.opened s
  whole_since old mid read same told s whole name found finds =
      whole name found (subst (λ (t : Tree). FindsContent old.opened.catalogue.troves name t found) (read.repo told).same.reads (subst (λ (o : Opened). FindsContent o.catalogue.troves name (repo_disk.reads mid.repo) found) same finds))

  -- it went on after both disks were only read
  pub contents_since : IsDisk root_disk → (one two : Meaning) (from input : List ℕ) (old mid new : Disks T P) (result : Result (List ℕ) Failure) → AreReady root_disk repo_disk old → AreRead root_disk repo_disk old mid → mid.opened ≡ old.opened
      → (IsTrue root_disk.tells → (s : State) → HasOpened root_disk old.root old.opened s → (outcome : Result Effect Refusal) → one.IsOutcome s from outcome → two.IsOutcome s input outcome)
      → AnswersByContents root_disk repo_disk one from mid new result → AnswersByContents root_disk repo_disk two input old new result
  contents_since root_laws one two from input old mid new result ready read same more done told repo_told whole s has contents =
      let by : AnswersOpened root_disk repo_disk (one.IsOutcome s from) s mid new result = done told repo_told whole s (has_since old mid read same told s has) (whole_since old mid read same repo_told s contents) in
      record {
        next = by.next;
        answers = answers_more (more told s has) s by.next result by.answers;
        holds = by.holds;
        moments = λ t. leaves_then (root_moments root_laws old mid ready read.root s by.next has t) (by.moments t);
      }
