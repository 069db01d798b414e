-- How the root and the repository are stored.
use Rattle.std.specs.Prelude.{◌≡◌, ◌⊎◌, true, IsTrue, List, ℕ, length, Some}
use Rattle.sha1.specs.Sha1.{sha1}
use Rattle.system_core.specs.cny-base.Reserved.{private_directory}
use Rattle.system_core.specs.tree-disk.Tree.{Name, Tree}
use Rattle.system_core.specs.content-store.Store.{content_path, stored}
use Rattle.repo_index.specs.Catalogue.{CatalogueParts, records_content}
use Rattle.repo_load.specs.Counts.{Counts}
use Rattle.repo_load.specs.Damage.{IsDamagedCommit}
use Rattle.repo_load.specs.Files.{contents_dir, repository_base, HoldsCatalogue, StoresRepository}
use Rattle.repo_load.specs.State.{RepositoryState}
use Rattle.repo_load.specs.Contents.{IsDamagedContent}
use Rattle.local_db.specs.declared.db.Db.{Db}
use Rattle.system_core.specs.rollback-stack.JobReading.{IsDamagedRecord}
use Rattle.system_core.specs.rollback-stack.Inverse.{IsDamagedJob, IsFirstDamagedContent}
use Rattle.system_core.specs.rollback-stack.Numbers.{job_count}
use Rattle.system_core.specs.Migrating.{IsDamagedStore}
use Rattle.local_db.specs.declared.format.Format.TheVariants.{Two}
use Rattle.local_db.specs.Names.{counts}
use Rattle.local_db.specs.Stores.{HoldsDatabase, StoresSystem}
use Rattle.cny_laws.specs.State.{RootState}
use Rattle.cny_laws.specs.Store.{Store}

-- ---- the root

-- it stores no system
abbrev pub StoresNone : Tree → Type 0
StoresNone tree = (s : RootState) → StoresSystem tree s → ⊥

-- Behind this database a record is damaged, or a content that a job saved: the first one, of those that a rollback to some number
-- would put.
pub record HasDamagedJob (tree : Tree) (path : Name) : Type 0 where
  pub db : Db
  pub holds : HoldsDatabase Two tree db.installed db.oldest db.newest
  pub damaged : IsDamagedRecord Two tree (job_count db.oldest db.newest) db.newest db.installed path
      ⊎ ((number : ℕ) × (IsDamagedJob tree db number path ⊎ IsFirstDamagedContent tree db number path))

-- A root stores its system, in format 1 or in format 2. One of which a file is damaged stores none.
abbrev pub root_store : Store RootState
root_store = record {
  base = private_directory;
  IsStored = StoresSystem;
  Counts = λ s q. counts s q ≡ true;
  IsDamaged = λ tree path. (IsDamagedStore tree path ⊎ HasDamagedJob tree path) × StoresNone tree;
  IsDamagedAtOpening = λ tree path. IsDamagedStore tree path × StoresNone tree;
}

-- ---- the repository

-- a content that a committed trove names doesn't stand under its name with a size that is recorded
pub record HasDamagedContent (tree : Tree) (path : Name) : Type 0 where
  pub catalogue : CatalogueParts
  pub holds : HoldsCatalogue tree catalogue
  pub name : List ℕ
  pub damaged : IsDamagedContent catalogue.troves name tree path

-- A committed trove records a content with a size, and no bytes that have its name, and each size that is recorded with that, stand
-- under it.
pub record HasUnsoundContent (tree : Tree) (path : Name) : Type 0 where
  pub catalogue : CatalogueParts
  pub holds : HoldsCatalogue tree catalogue
  pub name : List ℕ
  pub size : ℕ
  pub recorded : IsTrue (records_content name size catalogue.troves)
  pub here : path ≡ content_path contents_dir name
  pub none : (bytes : List ℕ) → stored tree contents_dir name ≡ Some bytes → sha1 bytes ≡ name
      → ((other : ℕ) → IsTrue (records_content name other catalogue.troves) → length bytes ≡ other) → ⊥

-- A repository stores its state; a commit's file or a content can be damaged. The contents aren't read when it is opened.
abbrev pub repository_store : Store RepositoryState
repository_store = record {
  base = repository_base;
  IsStored = StoresRepository;
  Counts = Counts;
  IsDamaged = λ tree path. IsDamagedCommit tree path ⊎ (HasDamagedContent tree path ⊎ HasUnsoundContent tree path);
  IsDamagedAtOpening = IsDamagedCommit;
}
