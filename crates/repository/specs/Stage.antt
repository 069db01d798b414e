-- Contents that are staged in a repository's journal before they are committed.
use Rattle.std.specs.Prelude.{◌≡◌, false}
use Rattle.repo_load.specs.tree-disk.Disk.{DiskModel}
use Rattle.repo_load.specs.journal-log.Own.{gate}
use Rattle.tree_journal.specs.Recovery.{is_committed}
use Rattle.repo_index.specs.Catalogue.{CatalogueParts}
use Rattle.repo_load.specs.Files.{repository_base, StoresRepository}
use Rattle.repo_load.specs.State.{RepositoryState}
use Rattle.repository.specs.Outcome.{IsSyncedFor, MayCommit}

-- A disk on which contents may be staged: the commit flag isn't set, also after a crash.
pub record MayStage {D : Type 0} (disk : DiskModel D) (d : D) : Type 0 where
  pub flag_clear : is_committed repository_base (disk.reads d) ≡ false
  pub flag_synced : disk.unsynced d (gate repository_base) ≡ false

-- What the disk stores stays: each repository, the catalogue on which a commit may be made, and that no name on which it depends
-- is unsynced.
pub record KeepsRepository {D : Type 0} (disk : DiskModel D) (old new : D) : Type 0 where
  pub stores : (r : RepositoryState) → StoresRepository (disk.reads old) r → StoresRepository (disk.reads new) r
  pub rests : (c : CatalogueParts) → MayCommit disk c old → MayCommit disk c new
  pub settled : (r : RepositoryState) → IsSyncedFor disk old r → IsSyncedFor disk new r
