-- What a commit makes of a repository.
use Rattle.std.specs.Prelude.{◌≡◌, ◌⊎◌, ℕ, List, [], ◌∷◌, map, Option, Some, None}
use Rattle.std.specs.List.{find}
use Rattle.std.specs.Str.{bytes_eq}
use Rattle.repo_load.specs.trove-stream.declared.parts.TroveParts.{TroveParts}
use Rattle.repo_load.specs.trove-parts.declared.id.TroveId.{TroveId}
use Rattle.repo_load.specs.tree-disk.Tree.{Tree}
use Rattle.tree_journal.specs.Recovery.{RecoversTo}
use Rattle.change_set.specs.declared.change.Carried.{Carried}
use Rattle.change_set.specs.declared.change.ChangeSet.{ChangeSet}
use Rattle.repo_load.specs.content-store.Contents.{ContentMap}
use Rattle.repo_index.specs.Catalogue.{CatalogueParts}
use Rattle.repo_load.specs.State.{catalogue_of, RepositoryState}
use Rattle.repo_load.specs.Steps.{catalogue_with, with_commit}
use Rattle.repo_load.specs.Files.{repository_base, StoresRepository}
use Rattle.repository.specs.Tests.{Passes}

-- ---- values

abbrev pub bytes_if_carried : Option Carried → Option (List ℕ)
bytes_if_carried None = None
bytes_if_carried (Some content) = Some content.bytes

-- the bytes that are carried under a name
abbrev pub carried : List Carried → ContentMap
carried contents name = bytes_if_carried (find (λ (content : Carried). bytes_eq content.name name) contents)

abbrev pub or_carried : Option (List ℕ) → Option (List ℕ) → Option (List ℕ)
or_carried None bytes = bytes
or_carried (Some kept) bytes = Some kept

-- the contents that were there, and those that are carried
abbrev pub with_contents : ContentMap → List Carried → ContentMap
with_contents held contents name = or_carried (held name) (carried contents name)

-- The repository after a commit of these troves with these contents. Where there are no troves it stays.
abbrev pub after_commit : List TroveParts → List Carried → RepositoryState → RepositoryState
after_commit [] contents r = r
after_commit (trove ∷ troves) contents r = with_commit (trove ∷ troves) (with_contents r.contents contents) r

-- the catalogue after a commit of these troves
abbrev pub catalogue_after : List TroveParts → CatalogueParts → CatalogueParts
catalogue_after [] c = c
catalogue_after (trove ∷ troves) c = catalogue_with (trove ∷ troves) c

abbrev pub ids_of : List TroveParts → List TroveId
ids_of troves = map (λ (t : TroveParts). t.id) troves

-- ---- states

-- the change set makes this repository of another, and no test fails
pub record IsCommitStep (r : RepositoryState) (change : ChangeSet) (new : RepositoryState) : Type 0 where
  pub troves : List TroveParts
  pub passes : Passes (catalogue_of r.commits) r.contents change troves
  pub is : new ≡ after_commit troves change.contents r

-- A tree that a crash left recovers to this repository.
pub record RecoversToRepository (image : Tree) (r : RepositoryState) : Type 0 where
  pub tree : Tree
  pub recovers : RecoversTo repository_base image tree
  pub stores : StoresRepository tree r

-- It recovers to this repository, and to no other.
pub record RecoversAlone (image : Tree) (r : RepositoryState) : Type 0 where
  pub recovers : RecoversToRepository image r
  pub alone : (s : RepositoryState) → RecoversToRepository image s → s ≡ r

-- the repository before, or the one after the commit
abbrev pub IsOldOrNew : RepositoryState → ChangeSet → RepositoryState → Type 0
IsOldOrNew r change next = (next ≡ r) ⊎ IsCommitStep r change next

-- it recovers to one of two repositories
abbrev pub RecoversToEitherRepository : RepositoryState → RepositoryState → Tree → Type 0
RecoversToEitherRepository r next image = RecoversToRepository image r ⊎ RecoversToRepository image next
