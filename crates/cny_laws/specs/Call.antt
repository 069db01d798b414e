-- What a call works on, and how its disks are opened.
use Rattle.std.specs.Prelude.{◌≡◌, ◌⊎◌, ℕ, ◌≤◌, Bool, true, ◌||◌, IsTrue, List, [], ◌∷◌, Option, Result, Ok, Err}
use Rattle.system_core.specs.cny-base.declared.stop.Stop.{Stop}
use Rattle.repo_load.specs.cny-base.Flow.{SourceModel, SourceState, source_state, SinkModel, SinkState, sink_state}
use Rattle.system_core.specs.tree-disk.Disk.{DiskModel}
use Rattle.repo_index.specs.Catalogue.{CatalogueParts, has_content}
use Rattle.repo_load.specs.Contents.{FindsContent}
use Rattle.repo_load.specs.Files.{commit_file, contents_dir, HoldsCatalogue}
use Rattle.repo_load.specs.Loading.{IsCatalogue}
use Rattle.cny_laws.specs.declared.failure.Failure.{Failure}
use Rattle.cny_laws.specs.declared.opened.Opened.{Opened}
use Rattle.cny_laws.specs.Opening.{Opens, no_test}
use Rattle.cny_laws.specs.Report.{End}
use Rattle.cny_laws.specs.RootOpening.{OpensSystem}
use Rattle.cny_laws.specs.Stops.{root_failure, repository_failure}
use Rattle.cny_laws.specs.Stores.{repository_store}
use Rattle.local_db.specs.declared.db.Db.{Db}
use Rattle.local_db.specs.declared.format.Format.TheVariants.{Two}
use Rattle.local_db.specs.Stores.{HoldsDatabase}
use Rattle.local_db.specs.Record.{entries_of}
use Rattle.local_db.specs.SystemState.{IsSystemState, StackItem, newest, oldest}
use Rattle.system_core.specs.Job.{db_of}
use Rattle.system_core.specs.JobWriting.{RecoversToHeld}
use Rattle.system_core.specs.rollback-stack.JobReading.{HoldsRecord}
use Rattle.system_core.specs.content-store.Store.{content_path, IsContentName}
use Rattle.system_core.specs.cny-base.Reserved.{is_reserved}
use Rattle.system_core.specs.tree-disk.Confined.{Confined}
use Rattle.system_core.specs.tree-disk.Tree.{AgreesOutside, Name, Tree}
use Rattle.system_core.specs.trove-stream.declared.parts.TroveParts.{TroveParts}
use Rattle.repo_load.specs.State.{catalogue_of, troves_of}
use Rattle.cny_laws.specs.State.{State, tree_of}

-- all that a call works on but the error output, at one moment
pub record CallState (T P : Type 0) : Type 0 where
  pub input : SourceState
  pub root : T
  pub repo : P
  pub out : SinkState

abbrev pub call_state : {I O T P : Type 0} → SourceModel I → SinkModel O → I → O → T → P → CallState T P
call_state source sink input out root repo = record { input = source_state source input; root = root; repo = repo; out = sink_state sink out }

-- the state has the lists that were read when the disks were opened: the installed troves, and those of the catalogue
pub record HasOpenedLists (opened : Opened) (s : State) : Type 0 where
  pub installed : s.root.installed ≡ opened.db.installed
  pub committed : troves_of s.repository.commits ≡ opened.catalogue.troves

-- and its tree is what the root reads outside its private directory
pub record HasTree {T : Type 0} (root_disk : DiskModel T) (root : T) (opened : Opened) (s : State) : Type 0 where
  pub lists : HasOpenedLists opened s
  pub outer : AgreesOutside is_reserved (root_disk.reads root) (tree_of s.root)

-- the same of a state whose root keeps its rules, with all that was read when the disks were opened: the database and the catalogue
pub record HasOpened {T : Type 0} (root_disk : DiskModel T) (root : T) (opened : Opened) (s : State) : Type 0 where
  pub system : IsSystemState s.root
  pub outer : AgreesOutside is_reserved (root_disk.reads root) (tree_of s.root)
  pub database : db_of s.root ≡ opened.db
  pub catalogue : catalogue_of s.repository.commits ≡ opened.catalogue

-- each disk that is told holds the database, or the catalogue, of the state, and the root its tree outside the private directory
pub record HoldsOpened {T P : Type 0} (root_disk : DiskModel T) (repo_disk : DiskModel P) (root : T) (repo : P) (s : State) : Type 0 where
  pub outer : IsTrue root_disk.tells → AgreesOutside is_reserved (root_disk.reads root) (tree_of s.root)
  pub database : IsTrue root_disk.tells → HoldsDatabase Two (root_disk.reads root) s.root.installed (oldest s.root.stack) (newest s.root.stack)
  pub catalogue : IsTrue repo_disk.tells → HoldsCatalogue (repo_disk.reads repo) (catalogue_of s.repository.commits)

-- an image of the root recovers to a tree that is so outside the private directory and holds the database of the one state, or of the other
abbrev pub IsHeldOf : State → State → Tree → Type 0
IsHeldOf s next image = RecoversToHeld (tree_of s.root) (db_of s.root) image ⊎ RecoversToHeld (tree_of next.root) (db_of next.root) image

-- the tree holds the records of these jobs, from the newest down, each read against the list after it
abbrev pub HoldsRecordsOf : Tree → List TroveParts → List StackItem → Type 0
HoldsRecordsOf tree after [] = Unit {0}
HoldsRecordsOf tree after (o ∷ olds) = HoldsRecord Two tree o.number after o.list (entries_of o) × HoldsRecordsOf tree o.list olds

-- what a search of the repository's contents finds is so in the state: the bytes that stand whole, or none where no trove names them
abbrev pub HasWholeContents : {P : Type 0} → DiskModel P → P → Opened → State → Type 0
HasWholeContents repo_disk repo opened s = (name : List ℕ) (found : Option (List ℕ)) → FindsContent opened.catalogue.troves name (repo_disk.reads repo) found → found ≡ s.repository.contents name

-- the file of a commit of the catalogue, or that of a content: of one that the troves of the catalogue name, or of all
abbrev pub IsKeptFile : CatalogueParts → Bool → Name → Type 0
IsKeptFile catalogue all q = ((number : ℕ) × (number ≤ catalogue.commits) × (q ≡ commit_file number)) ⊎ ((name : List ℕ) × IsContentName name × ((all || has_content name catalogue.troves) ≡ true) × (q ≡ content_path contents_dir name))

-- at every moment what stands in a repository at the names of such files is what stood there
abbrev pub FilesStay : {P : Type 0} → DiskModel P → CatalogueParts → Bool → P → P → Type 0
FilesStay repo_disk catalogue all old new = IsTrue repo_disk.tells → Confined repo_disk (λ q. IsKeptFile catalogue all q → ⊥) old new

module _ {T P : Type 0} (root_disk : DiskModel T) (repo_disk : DiskModel P) where
  -- ---- opening

  -- the root was opened, and this is its database
  abbrev pub OpensRoot : T → T → Result Db Stop → Type 0
  OpensRoot old new result = OpensSystem root_disk old new result

  -- the repository was opened, and this is its catalogue
  abbrev pub OpensRepository : P → P → Result CatalogueParts Stop → Type 0
  OpensRepository old new result = Opens repository_store repo_disk no_test HoldsCatalogue old new result

  -- The root wasn't opened, and its disk says why; the repository wasn't touched.
  pub record StopsAtRoot (root root' : T) (repo repo' : P) (e : Failure) : Type 0 where
    pub stop : Stop
    pub is : e ≡ root_failure stop
    pub opens : OpensRoot root root' (Err stop)
    pub same : repo' ≡ repo

  -- The root was opened, and the repository wasn't, and its disk says why.
  pub record StopsAtRepository (root root' : T) (repo repo' : P) (e : Failure) : Type 0 where
    pub stop : Stop
    pub is : e ≡ repository_failure stop
    pub db : Db
    pub opens_root : OpensRoot root root' (Ok db)
    pub opens : OpensRepository repo repo' (Err stop)

  abbrev pub StopsOpening : T → T → P → P → Failure → Type 0
  StopsOpening root root' repo repo' e = StopsAtRoot root root' repo repo' e ⊎ StopsAtRepository root root' repo repo' e

  -- Both were opened.
  pub record AreOpened (root root' : T) (repo repo' : P) (opened : Opened) : Type 0 where
    pub opens_root : OpensRoot root root' (Ok opened.db)
    pub opens : OpensRepository repo repo' (Ok opened.catalogue)
    pub rules : IsCatalogue opened.catalogue

  -- ---- a call whose disks weren't opened

  -- What stopped the opening ended the call, and nothing else was done.
  pub record EndsOpening (Stops : T → T → P → P → Failure → Type 0) (before now : CallState T P) (end : End) : Type 0 where
    pub failure : Failure
    pub is : end ≡ Err failure
    pub stops : Stops before.root now.root before.repo now.repo failure
    pub unread : now.input ≡ before.input
    pub silent : now.out ≡ before.out

  abbrev pub StopsForRoot : CallState T P → CallState T P → End → Type 0
  StopsForRoot before now end = EndsOpening StopsAtRoot before now end

  abbrev pub StopsForRepository : CallState T P → CallState T P → End → Type 0
  StopsForRepository before now end = EndsOpening StopsAtRepository before now end

  -- the one or the other
  abbrev pub NotOpened : CallState T P → CallState T P → End → Type 0
  NotOpened before now end = EndsOpening StopsOpening before now end
