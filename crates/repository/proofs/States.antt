-- What a tree stores once the file of a commit stands.
use Rattle.std.proofs.Common.{◌≡◌, ◌≢◌, inr, ⊎_elim, ℕ, ◌+◌, ◌<◌, ◌^◌, false, List, [], Option, Some, None, refl, sym, ◌∙◌, ap, subst, arith}
use Rattle.std.proofs.lemmas.Bool.{cases_Bool}
use Rattle.std.specs.FinMap.{get}
use Rattle.repo_load.specs.trove-stream.declared.parts.TroveParts.{TroveParts}
use Rattle.repo_load.specs.tree-disk.Tree.{Tree}
use Rattle.change_set.specs.declared.change.Carried.{Carried}
use Rattle.change_set.specs.declared.change.ChangeSet.{ChangeSet}
use Rattle.change_set.specs.ChangeSet.{HasContents}
use Rattle.repo_load.specs.content-store.Store.{content_path, file_bytes, stored}
use Rattle.repo_index.specs.Catalogue.{CatalogueParts, has_content}
use Rattle.repo_load.specs.Files.{commit_file, contents_dir, HoldsCatalogue, StoresRepository}
use Rattle.repo_load.specs.State.{catalogue_of, troves_of, IsRepository, RepositoryState}
use Rattle.repo_load.specs.Steps.{catalogue_with, with_commit, IsCommitReady, KeepsCommits, MayFollow}
use Rattle.repo_load.proofs.Committing.{commit_after}
use Rattle.repo_load.proofs.CountedNames.{prepared_commits, prepared_state}
use Rattle.repo_load.proofs.HeldCatalogues.{held_after, same_catalogue, same_state}
use Rattle.repo_load.proofs.ContentsLaws.{named_is_recorded}
use Rattle.repository.specs.Preparing.{with_commit_file, IsPreparedFrom, IsStored, IsWrittenFrom}
use Rattle.repository.specs.Steps.{after_commit, carried, or_carried, with_contents}
use Rattle.repository.specs.Tests.{Passes}
use Rattle.repository.proofs.Sources.{found_has}
use Rattle.repository.proofs.Stepping.{after_full, is_after}
use Rattle.change_rel.specs.cny-base.Modes.{file_mode}

-- ---- the catalogue

keeps : (c : CatalogueParts) (contents : List Carried) (x x1 : Tree) → c.commits + 2 < 2 ^ 64 → IsPreparedFrom c contents x x1 → KeepsCommits c.commits x x1
keeps c contents x x1 few readied = record {
  same = λ number le. readied.kept (commit_file number) (λ prepared. prepared_commits c (commit_file number) few prepared (record { number = number; few = le; is = refl }));
  nothing_behind = readied.ready.nothing_behind;
}

pub written_catalogue : (c : CatalogueParts) (contents : List Carried) (troves : List TroveParts) (x y : Tree) → HoldsCatalogue x c → MayFollow c troves → IsWrittenFrom c contents troves x y
    → HoldsCatalogue y (catalogue_with troves c)
written_catalogue c contents troves x y holds may written =
    let few = may.few in
    same_catalogue (with_commit_file c troves written.readied) y (λ q out. sym (written.same q out)) (catalogue_with troves c)
    (held_after x written.readied c troves file_mode holds (keeps c contents x written.readied (omega (arith, few)) written.is_readied) may written.fits)

-- ---- the state

unnamed : (r : RepositoryState) → IsRepository r → (name : List ℕ) → r.contents name ≡ None → has_content name (troves_of r.commits) ≡ false
unnamed r is name none = ⊎_elim
    (λ has. let size = named_is_recorded name (troves_of r.commits) has in let there = is.there name size.0 size.1 in absurd (cc (none, there.1)))
    (λ lacks. lacks) (cases_Bool (has_content name (troves_of r.commits)))

module _ (r : RepositoryState) (contents : List Carried) (x x1 : Tree) (h : StoresRepository x r) (readied : IsPreparedFrom (catalogue_of r.commits) contents x x1) where
  kept_content : (name bytes : List ℕ) → r.contents name ≡ Some bytes → get x1 (content_path contents_dir name) ≡ get x (content_path contents_dir name)
  kept_content name bytes is =
      readied.kept (content_path contents_dir name) (λ prepared. prepared_state r (content_path contents_dir name) h.repository prepared (inr (record { name = name; bytes = bytes; holds = is; is = refl })))

  added : (name bytes : List ℕ) → with_contents r.contents contents name ≡ Some bytes → stored x1 contents_dir name ≡ Some bytes
  added name bytes is = by (r.contents name) refl is
    where
      by : (o : Option (List ℕ)) → r.contents name ≡ o → or_carried o (carried contents name) ≡ Some bytes → stored x1 contents_dir name ≡ Some bytes
      by None none is =
          let c = found_has (λ (content : Carried). IsStored (catalogue_of r.commits) content x1) name bytes contents readied.ready.stand is in
          subst (λ (n : List ℕ). stored x1 contents_dir n ≡ Some bytes) c.2
          (c.1 (ap (λ (n : List ℕ). has_content n (troves_of r.commits)) c.2 ∙ unnamed r h.repository name none) ∙ ap Some c.3)
      by (Some kept) held is = ap file_bytes (kept_content name kept held) ∙ h.contents name kept held ∙ is

  commit_ready : (new : RepositoryState) → new.contents ≡ with_contents r.contents contents → IsCommitReady r new x x1
  commit_ready new same =
      let few = h.repository.commits_are.few in record {
        commits = λ number le. readied.kept (commit_file number) (λ prepared. prepared_commits (catalogue_of r.commits) (commit_file number) (omega (arith, few)) prepared (record { number = number; few = le; is = refl }));
        kept = kept_content;
        added = λ name bytes is. added name bytes (ap (λ (f : List ℕ → Option (List ℕ)). f name) (sym same) ∙ is);
        nothing_behind = readied.ready.nothing_behind;
      }

pub written_state : (r : RepositoryState) (change : ChangeSet) (troves : List TroveParts) (x y : Tree) → StoresRepository x r → HasContents change → troves ≢ []
    → Passes (catalogue_of r.commits) r.contents change troves → IsWrittenFrom (catalogue_of r.commits) change.contents troves x y → StoresRepository y (after_commit troves change.contents r)
written_state r change troves x y h has full passes written =
    let new : RepositoryState = with_commit troves (with_contents r.contents change.contents) r in
    subst (StoresRepository y) (sym (after_full troves change.contents r full))
    (same_state (with_commit_file (catalogue_of r.commits) troves written.readied) y (λ q out. sym (written.same q out)) new
    (commit_after x written.readied r new troves file_mode h (commit_ready r change.contents x written.readied h written.is_readied new refl)
    (is_after r h.repository change has troves full written.troves_are passes) refl written.fits))
