-- How a command that takes specifications ends where nothing was changed.
use Rattle.std.proofs.Common.{◌≡◌, ◌≤◌, ℕ, false, List, Result, Ok, Err, IfErr, IfOk, refl, sym, ap, ◌∙◌, subst, arith}
use Rattle.std.specs.Prelude.{IsTrue, Option}
use Rattle.std.specs.FinMap.{get}
use Rattle.cny_laws.specs.system-core.cny-base.Reserved.{is_reserved}
use Rattle.cny_laws.specs.system-core.cny-base.declared.node.Node.{Node}
use Rattle.cny_laws.specs.system-core.cny-base.declared.refusal.Fault.{Fault}
use Rattle.cny_laws.specs.system-core.cny-base.declared.refusal.Fault.TheVariants as fault
use Rattle.cny_laws.specs.system-core.cny-base.declared.refusal.Refusal.{Refusal}
use Rattle.cny_laws.specs.system-core.cny-base.declared.refusal.What.TheVariants as what
use Rattle.cny_laws.specs.system-core.cny-base.declared.stop.Stop.{Stop}
use Rattle.cny_laws.specs.system-core.cny-base.declared.stop.Stop.TheVariants as stop
use Rattle.cny_laws.specs.system-core.tree-disk.Tree.{Name, Tree}
use Rattle.cny_laws.specs.system-core.tree-disk.Disk.{DiskModel, IsDisk, HasRead}
use Rattle.cny_laws.specs.system-core.tree-disk.Rows.{bytes_of}
use Rattle.cny_laws.specs.system-core.tree-journal.Recovery.{is_committed}
use Rattle.repo_index.specs.Catalogue.{CatalogueParts}
use Rattle.repo_load.specs.Files.{HoldsCatalogue, StoresRepository}
use Rattle.repo_load.specs.State.{catalogue_of, troves_of, RepositoryState}
use Rattle.cny_laws.specs.system-core.FixedDirs.{fixed_dirs}
use Rattle.local_db.specs.declared.format.Format.TheVariants.{Two}
use Rattle.local_db.specs.Stores.{HoldsDatabase}
use Rattle.trove_spec.specs.RootConfig.{config_path, HasConfig, HasConfigIn}
use Rattle.trove_spec.specs.RootFile.{within_limit, ReadsFile}
use Rattle.cny_laws.specs.declared.failure.Failure.{Failure}
use Rattle.cny_laws.specs.declared.failure.Failure.TheVariants as failure
use Rattle.cny_laws.specs.declared.opened.Opened.{Opened}
use Rattle.cny_laws.specs.Call.{HasOpened}
use Rattle.cli_call.specs.Alone.{AnswersByOpened}
use Rattle.cli_call.specs.Command.{Disks, disks, AreReady, Performs, StandsFor}
use Rattle.cli_call.proofs.CommandLaws.{AreRead, performs_reading}
use Rattle.cli_call.proofs.OpenedEnds.{memory_opened, refused_opened, root_fault_opened}
use Rattle.cny_laws.specs.Failures.{failure_of_fault}
use Rattle.cli_call.proofs.RootLaws.{root_laws, stored_outside}
use Rattle.cny_laws.specs.State.{tree_of, Meaning, State}
use Rattle.cny_laws.specs.Stops.{root_result}
use Rattle.cny_laws.specs.Store.{IsStore, RestsAt}
use Rattle.cli_call.proofs.StoreLaws.{nothing_done}
use Rattle.cny_laws.specs.Stores.{repository_store, root_store}

-- what is loaded is the catalogue of the state
abbrev pub CatalogueIs : Type 0
CatalogueIs = (x : Tree) (r : RepositoryState) (c : CatalogueParts) → StoresRepository x r → HoldsCatalogue x c → c ≡ catalogue_of r.commits

-- ---- a text file of the root

-- a file outside the private directory, by what stands at its path alone
pub record IsTextFile {V : Type 0} (Says : Tree → Result V Refusal → Type 0) : Type 0 where
  pub path : Name
  pub foreign : is_reserved path ≡ false
  pub same : (t u : Tree) (r : Result V Refusal) → get t path ≡ get u path → Says t r → Says u r

pub configuration : IsTextFile HasConfig
configuration = record {
  path = config_path;
  foreign = refl;
  same = λ t u r same has. subst (λ (o : Option Node). HasConfigIn (within_limit what.Config (bytes_of o)) r) same has;
}

-- what was read, where reading didn't stop
pub file_made : {V D : Type 0} {Says : Tree → Result V Refusal → Type 0} (disk : DiskModel D) (old new : D) (r : Result V Stop) → ReadsFile Says disk old new r → (value : V) → root_result r ≡ Ok value → ReadsFile Says disk old new (Ok value)
file_made {V = V} {Says = Says} disk old new (Ok made) reads value is = subst (λ (x : Result V Failure). IfOk x (λ k. ReadsFile Says disk old new (Ok k))) is reads
file_made disk old new (Err e) reads value is = absurd (cc is)

-- each state that has what was read when the disks were opened has what the file was read to say
pub file_opened : {V T : Type 0} {Says : Tree → Result V Refusal → Type 0} (file : IsTextFile Says) {root_disk : DiskModel T} (root : T) (opened : Opened) (r : Result V Refusal) → Says (root_disk.reads root) r → (s : State) → HasOpened root_disk root opened s → Says (tree_of s.root) r
file_opened file {root_disk = root_disk} root opened r has s is = file.same (root_disk.reads root) (tree_of s.root) r (is.outer file.path file.foreign) has

module _ {T P : Type 0} {root_disk : DiskModel T} {repo_disk : DiskModel P} where
  -- what it says in the state
  pub file_at : {V : Type 0} {Says : Tree → Result V Refusal → Type 0} (file : IsTextFile Says) (old : Disks T P) (r : Result V Refusal) → Says (root_disk.reads old.root) r → (s : State) → StandsFor root_disk repo_disk old s → Says (tree_of s.root) r
  file_at file old r has s stands = file.same (root_disk.reads old.root) (tree_of s.root) r (stored_outside (root_disk.reads old.root) s.root stands.root.stored file.path file.foreign) has

  -- the state has the troves that were loaded
  pub troves_at : CatalogueIs → (old : Disks T P) → AreReady root_disk repo_disk old → IsTrue repo_disk.tells → (s : State) → RestsAt repository_store repo_disk old.repo s.repository → old.opened.catalogue.troves ≡ troves_of s.repository.commits
  troves_at law old ready told s rests = ap (λ (c : CatalogueParts). c.troves) (law (repo_disk.reads old.repo) s.repository old.opened.catalogue rests.stored (ready.repo told).catalogue)

  pub troves_are : CatalogueIs → (old : Disks T P) → AreReady root_disk repo_disk old → IsTrue repo_disk.tells → (s : State) → StandsFor root_disk repo_disk old s → old.opened.catalogue.troves ≡ troves_of s.repository.commits
  troves_are law old ready told s stands = troves_at law old ready told s stands.repo

  -- after the root was only read, a command may begin
  pub ready_on : (root root' : T) (repo : P) (opened : Opened) → (IsTrue root_disk.tells → HasRead root_disk root root' (Unit {0})) → AreReady root_disk repo_disk (disks root repo opened) → AreReady root_disk repo_disk (disks root' repo opened)
  ready_on root root' repo opened read ready = record {
    root = λ told. record {
      fixed = ap fixed_dirs (read told).same.reads ∙ (ready.root told).fixed;
      flag_clear = ap (is_committed root_store.base) (read told).same.reads ∙ (ready.root told).flag_clear;
      synced = λ p. (read told).same.unsynced p ∙ (ready.root told).synced p;
      holds = subst (λ (t : Tree). HoldsDatabase Two t opened.db.installed opened.db.oldest opened.db.newest) (sym (read told).same.reads) (ready.root told).holds;
    };
    database = ready.database;
    repo = ready.repo;
    rules = ready.rules;
  }

  module _ (root_disk_laws : IsDisk root_disk) (repo_disk_laws : IsDisk repo_disk) where
    -- the root was read, and nothing else was done
    pub root_read : (root root' : T) (repo : P) (opened : Opened) → root_disk.faults root ≤ root_disk.faults root' → (IsTrue root_disk.tells → HasRead root_disk root root' (Unit {0})) → AreRead root_disk repo_disk (disks root repo opened) (disks root' repo opened)
    root_read root root' repo opened later read = record {
      root_later = later;
      repo_later = omega arith;
      root = read;
      repo = λ told. nothing_done repo_disk_laws repo;
    }

    module _ (store_laws : IsStore repository_store) (m : Meaning) (input : List ℕ) where
      -- ---- the file couldn't be read

      module _ {V : Type 0} {Says : Tree → Result V Refusal → Type 0} (file : IsTextFile Says) (root root' : T) (repo : P) (opened : Opened) (ready : AreReady root_disk repo_disk (disks root repo opened)) where
        abbrev pub Stopped : Failure → Type 0
        Stopped f = Performs root_disk repo_disk m input (disks root repo opened) (disks root' repo opened) (Err f)

        stopped : ((s : State) (refused : Refusal) → Says (tree_of s.root) (Err refused) → m.IsOutcome s input (Err refused)) → (e : Stop) → ReadsFile Says root_disk root root' (Err e) → IfErr (let r : Result V Stop = Err e in root_result r) Stopped
        stopped refuses (stop.Refused refused) reads = performs_reading root_disk_laws repo_disk_laws root_laws store_laws m input (disks root repo opened) (disks root' repo opened) ready (root_read root root' repo opened reads.later reads.same) (Err (failure.Refused refused)) tt
            (λ told repo_told s stands. refuses s refused (file_at file (disks root repo opened) (Err refused) (reads.ends told) s stands))
        stopped refuses stop.Failed reads = performs_reading root_disk_laws repo_disk_laws root_laws store_laws m input (disks root repo opened) (disks root' repo opened) ready (root_read root root' repo opened reads.later reads.same) (Err failure.RootFault) reads.ends tt
        stopped refuses stop.Memory reads = performs_reading root_disk_laws repo_disk_laws root_laws store_laws m input (disks root repo opened) (disks root' repo opened) ready (root_read root root' repo opened reads.later reads.same) (Err failure.Memory) tt tt
        stopped refuses (stop.Damaged path) reads = absurd reads.ends
        stopped refuses stop.FarFailed reads = absurd reads.ends
        stopped refuses (stop.FarDamaged path) reads = absurd reads.ends

        pub file_stopped : ((s : State) (refused : Refusal) → Says (tree_of s.root) (Err refused) → m.IsOutcome s input (Err refused)) → (r : Result V Stop) → ReadsFile Says root_disk root root' r → (f : Failure) → root_result r ≡ Err f → Stopped f
        file_stopped refuses (Ok value) reads f is = absurd (cc is)
        file_stopped refuses (Err e) reads f is = subst (λ (x : Result V Failure). IfErr x Stopped) is (stopped refuses e reads)

        -- also by what was read when the disks were opened
        abbrev pub StoppedOpened : Failure → Type 0
        StoppedOpened f = AnswersByOpened root_disk repo_disk m input (disks root repo opened) (disks root' repo opened) (Err f)

        stopped_opened : ((s : State) (refused : Refusal) → Says (tree_of s.root) (Err refused) → m.IsOutcome s input (Err refused)) → (e : Stop) → ReadsFile Says root_disk root root' (Err e) → IfErr (let r : Result V Stop = Err e in root_result r) StoppedOpened
        stopped_opened refuses (stop.Refused refused) reads = refused_opened root_disk_laws m input (disks root repo opened) (disks root' repo opened) ready reads.same (λ told. refl) refused
            (λ told s has. refuses s refused (file_opened file root opened (Err refused) (reads.ends told) s has))
        stopped_opened refuses stop.Failed reads = root_fault_opened root_disk_laws m input (disks root repo opened) (disks root' repo opened) ready reads.same
        stopped_opened refuses stop.Memory reads = memory_opened root_disk_laws m input (disks root repo opened) (disks root' repo opened) ready reads.same
        stopped_opened refuses (stop.Damaged path) reads = absurd reads.ends
        stopped_opened refuses stop.FarFailed reads = absurd reads.ends
        stopped_opened refuses (stop.FarDamaged path) reads = absurd reads.ends

        pub file_stopped_opened : ((s : State) (refused : Refusal) → Says (tree_of s.root) (Err refused) → m.IsOutcome s input (Err refused)) → (r : Result V Stop) → ReadsFile Says root_disk root root' r → (f : Failure) → root_result r ≡ Err f → StoppedOpened f
        file_stopped_opened refuses (Ok value) reads f is = absurd (cc is)
        file_stopped_opened refuses (Err e) reads f is = subst (λ (x : Result V Failure). IfErr x StoppedOpened) is (stopped_opened refuses e reads)

      -- ---- a test refused, or memory ran out

      pub fault_ends : (old new : Disks T P) → AreReady root_disk repo_disk old → AreRead root_disk repo_disk old new → (f : Fault)
          → ((refused : Refusal) → f ≡ fault.Refused refused → IsTrue root_disk.tells → IsTrue repo_disk.tells → (s : State) → StandsFor root_disk repo_disk old s → m.IsOutcome s input (Err refused))
          → Performs root_disk repo_disk m input old new (Err (failure_of_fault f))
      fault_ends old new ready read (fault.Refused refused) refuses = performs_reading root_disk_laws repo_disk_laws root_laws store_laws m input old new ready read (Err (failure.Refused refused)) tt
          (λ told repo_told s stands. refuses refused refl told repo_told s stands)
      fault_ends old new ready read fault.Memory refuses = performs_reading root_disk_laws repo_disk_laws root_laws store_laws m input old new ready read (Err failure.Memory) tt tt
