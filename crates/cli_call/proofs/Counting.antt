-- What a repository's store keeps to.
use Rattle.std.proofs.Common.{◌≡◌, inl, ⊎_elim, false, List, ℕ, length, ap, ◌∙◌, subst}
use Rattle.std.specs.Prelude.{IsTrue}
use Rattle.std.specs.FinMap.{get}
use Rattle.cny_laws.specs.system-core.tree-disk.Tree.{Name, Tree}
use Rattle.cny_laws.specs.system-core.journal-log.Own.{is_own}
use Rattle.repo_index.specs.Catalogue.{CatalogueParts, records_content}
use Rattle.repo_load.specs.Counts.{Counts}
use Rattle.repo_load.specs.Damage.{IsDamagedCommit}
use Rattle.repo_load.specs.Files.{repository_base, HoldsCatalogue, StoresRepository}
use Rattle.repo_load.specs.State.{catalogue_of, troves_of, RepositoryState}
use Rattle.repo_load.specs.Contents.{IsDamagedContent}
use Rattle.cny_laws.specs.Store.{IsStore}
use Rattle.cny_laws.specs.Stores.{repository_store, HasDamagedContent, HasUnsoundContent}
use Rattle.repo_load.proofs.Holding.{some_bytes as same_bytes}

-- what `stored_state` and `counted_names` say
pub record StoredState : Type 0 where
  pub catalogue : (x : Tree) (r : RepositoryState) (c : CatalogueParts) → StoresRepository x r → HoldsCatalogue x c → c ≡ catalogue_of r.commits
  pub commits : (x : Tree) (r : RepositoryState) (path : Name) → StoresRepository x r → IsDamagedCommit x path → ⊥
  pub contents : (x : Tree) (r : RepositoryState) (name : List ℕ) (path : Name) → StoresRepository x r → IsDamagedContent (troves_of r.commits) name x path → ⊥
  pub stored : (x y : Tree) (r : RepositoryState) → StoresRepository x r → ((q : Name) → Counts r q → get y q ≡ get x q) → StoresRepository y r
  pub own : (r : RepositoryState) (q : Name) → Counts r q → is_own repository_base q ≡ false

content_whole : StoredState → (x : Tree) (r : RepositoryState) (path : Name) → StoresRepository x r → HasDamagedContent x path → ⊥
content_whole laws x r path stores bad =
    let same = laws.catalogue x r bad.catalogue stores bad.holds in
    laws.contents x r bad.name path stores (subst (λ (c : CatalogueParts). IsDamagedContent c.troves bad.name x path) same bad.damaged)

-- the content of a repository has each size that is recorded with its name
sound_whole : StoredState → (x : Tree) (r : RepositoryState) (path : Name) → StoresRepository x r → HasUnsoundContent x path → ⊥
sound_whole laws x r path stores bad =
    let same = laws.catalogue x r bad.catalogue stores bad.holds in
    let so : (size : ℕ) → IsTrue (records_content bad.name size bad.catalogue.troves) → IsTrue (records_content bad.name size (troves_of r.commits)) =
    λ size is. subst (λ (c : CatalogueParts). IsTrue (records_content bad.name size c.troves)) same is in
    let held = stores.repository.there bad.name bad.size (so bad.size bad.recorded) in
    bad.none held.0 (stores.contents bad.name held.0 held.1) (stores.repository.named bad.name held.0 held.1).0 (λ size is.
    let other = stores.repository.there bad.name size (so size is) in
    ap (λ (l : List ℕ). length l) (same_bytes held.0 other.0 (r.contents bad.name) held.1 other.1) ∙ other.2)

pub repository_laws : StoredState → IsStore repository_store
repository_laws laws = record {
  counted = laws.stored;
  own = laws.own;
  whole = λ t path r damaged stored. ⊎_elim (λ commit. laws.commits t r path stored commit) (⊎_elim (λ content. content_whole laws t r path stored content) (λ content. sound_whole laws t r path stored content)) damaged;
  at_opening = λ t path commit. inl commit;
}
