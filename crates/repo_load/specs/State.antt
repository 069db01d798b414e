-- The state of a repository: its commits in their order, and the contents that their troves name.
use Rattle.std.specs.Prelude.{◌≡◌, ◌≢◌, ℕ, ◌≤◌, IsTrue, List, [], ◌∷◌, ◌++◌, length, flat_map, All, Some, None, IsSome}
use Rattle.sha1.specs.Sha1.{sha1}
use Rattle.repo_index.specs.cny-base.declared.limits.TheConstants.{COMMITS_LIMIT}
use Rattle.repo_index.specs.trove-parts.declared.id.TroveId.{TroveId}
use Rattle.repo_index.specs.trove-stream.declared.parts.TroveParts.{TroveParts}
use Rattle.repo_index.specs.trove-stream.Trove.{IsTrove}
use Rattle.content_store.specs.Contents.{ContentMap}
use Rattle.repo_index.specs.Catalogue.{CatalogueParts, found}
-- what troves record of contents
pub use Rattle.repo_index.specs.Catalogue.{trove_records, records_content}
pub use Rattle.repo_index.specs.trove-stream.Forbidden.{IsAllowed}

-- a commit: its troves in their order
abbrev pub Commit : Type 0
Commit = List TroveParts

-- the troves of commits, in their order
abbrev pub troves_of : List Commit → List TroveParts
troves_of commits = flat_map (λ (troves : Commit). troves) commits

-- ---- the rules of commits

-- the id of each trove is none of those of the troves before it
abbrev pub AreNew : List TroveParts → List TroveParts → Type 0
AreNew before [] = Unit {0}
AreNew before (t ∷ troves) = (found t.id before ≡ None) × AreNew (before ++ t ∷ []) troves

-- A commit that may follow troves that are committed: at least one trove, each is allowed, and no id stands twice.
pub record IsCommit (before : List TroveParts) (troves : Commit) : Type 0 where
  pub full : troves ≢ []
  pub troves_are : All IsTrove troves
  pub allowed : All IsAllowed troves
  pub new_ids : AreNew before troves

-- each of the commits may follow the troves before it
abbrev pub AreFollowing : List TroveParts → List Commit → Type 0
AreFollowing before [] = Unit {0}
AreFollowing before (troves ∷ commits) = IsCommit before troves × AreFollowing (before ++ troves) commits

-- each reference of the trove is the id of one of the troves
abbrev pub HasRefs : List TroveParts → TroveParts → Type 0
HasRefs troves t = All (λ (id : TroveId). IsSome (found id troves)) t.refs

-- The commits of a repository. A trove may refer to one that is committed later.
pub record AreCommits (commits : List Commit) : Type 0 where
  pub few : length commits ≤ COMMITS_LIMIT
  pub following : AreFollowing [] commits
  pub refs : All (HasRefs (troves_of commits)) (troves_of commits)

-- the catalogue of commits
abbrev pub catalogue_of : List Commit → CatalogueParts
catalogue_of commits = record { commits = length commits; troves = troves_of commits }

-- ---- states

-- the commits, and a map from names to contents
pub record RepositoryState : Type 0 where
  pub commits : List Commit
  pub contents : ContentMap

-- The contents are just those that the troves record. A content has the size of each record that names it, and its name is
-- its SHA-1.
pub record IsRepository (r : RepositoryState) : Type 0 where
  pub commits_are : AreCommits r.commits
  pub there : (name : List ℕ) (size : ℕ) → IsTrue (records_content name size (troves_of r.commits))
      → (bytes : List ℕ) × (r.contents name ≡ Some bytes) × (length bytes ≡ size)
  pub named : (name bytes : List ℕ) → r.contents name ≡ Some bytes
      → (sha1 bytes ≡ name) × IsTrue (records_content name (length bytes) (troves_of r.commits))
