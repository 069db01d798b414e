-- What a tree that stores a state gives.
use Rattle.std.proofs.Common.{ℕ, List}
use Rattle.journal_log.specs.tree-disk.Tree.{Name, Tree}
use Rattle.repo_load.specs.State.{Commit, troves_of, AreCommits, RepositoryState}
use Rattle.repo_load.specs.Files.{HoldsCommits, StoresRepository}
use Rattle.repo_load.specs.Damage.{IsDamagedCommit}
use Rattle.repo_load.specs.Contents.{IsDamagedContent}
use Rattle.repo_load.proofs.ContentsLaws.{named_is_recorded}

pub no_damaged_commit : ((x : Tree) (path : Name) (commits : List Commit) → IsDamagedCommit x path → HoldsCommits x commits → AreCommits commits → ⊥)
    → (x : Tree) (r : RepositoryState) (path : Name) → StoresRepository x r → IsDamagedCommit x path → ⊥
no_damaged_commit damaged x r path stores damage = damaged x path r.commits damage stores.commits stores.repository.commits_are

-- ---- contents

pub no_damaged_content : (x : Tree) (r : RepositoryState) (name : List ℕ) (path : Name) → StoresRepository x r → IsDamagedContent (troves_of r.commits) name x path → ⊥
no_damaged_content x r name path stores damage =
    let size = named_is_recorded name (troves_of r.commits) damage.recorded in
    let held = stores.repository.there name size.0 size.1 in
    let named = stores.repository.named name held.0 held.1 in
    damage.none held.0 (stores.contents name held.0 held.1) (record { named = named.0; recorded = named.1 })
