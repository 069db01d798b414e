-- What a crash leaves of a disk at rest.
use Rattle.std.proofs.Common.{◌≡◌, false, refl, sym, ◌∙◌, ap}
use Rattle.repo_load.specs.tree-disk.Tree.{Tree}
use Rattle.repo_load.specs.tree-disk.Disk.{DiskModel, IsImageOf}
use Rattle.repo_load.specs.journal-log.Own.{gate}
use Rattle.tree_journal.specs.Recovery.{at_rest, by_log, is_committed, is_flag, RecoversTo}
use Rattle.repo_index.specs.Catalogue.{CatalogueParts}
use Rattle.repo_load.specs.Files.{repository_base, StoresRepository}
use Rattle.repo_load.specs.State.{RepositoryState}
use Rattle.repo_load.proofs.CountedNames.{counted_state}
use Rattle.repo_load.proofs.HeldCatalogues.{same_state}
use Rattle.repository.specs.Outcome.{MayCommit, IsSyncedFor}
use Rattle.repository.specs.Steps.{RecoversAlone, RecoversToRepository}

-- a tree stores one state at most
abbrev pub StoresOne : Type 0
StoresOne = (x : Tree) (r s : RepositoryState) → StoresRepository x r → StoresRepository x s → r ≡ s

-- where the flag isn't set, a tree recovers to what it stores
clear_recovers : (x : Tree) (r : RepositoryState) → is_committed repository_base x ≡ false → StoresRepository x r → RecoversToRepository x r
clear_recovers x r clear stores = record { tree = x; recovers = at_rest clear (λ q out. refl); stores = stores }

clear_stores : (x y : Tree) (r : RepositoryState) → is_committed repository_base x ≡ false → RecoversTo repository_base x y → StoresRepository y r → StoresRepository x r
clear_stores x y r clear (at_rest unset same) stores = same_state y x (λ q out. sym (same q out)) r stores
clear_stores x y r clear (by_log set puts holds stand can same) stores = absurd (cc (clear, set))

clear_alone : StoresOne → (x : Tree) (r : RepositoryState) → is_committed repository_base x ≡ false → StoresRepository x r → RecoversAlone x r
clear_alone one x r clear stores = record {
  recovers = clear_recovers x r clear stores;
  alone = λ s there. one x s r (clear_stores x there.tree s clear there.recovers there.stores) stores;
}

module _ {D : Type 0} {disk : DiskModel D} where
  pub reads_alone : StoresOne → (d : D) (c : CatalogueParts) (r : RepositoryState) → MayCommit disk c d → StoresRepository (disk.reads d) r → RecoversAlone (disk.reads d) r
  reads_alone one d c r rests stores = clear_alone one (disk.reads d) r rests.flag_clear stores

  pub image_alone : StoresOne → (d : D) (c : CatalogueParts) (r : RepositoryState) (image : Tree) → MayCommit disk c d → StoresRepository (disk.reads d) r → IsSyncedFor disk d r → IsImageOf disk d image
      → RecoversAlone image r
  image_alone one d c r image rests stores settled left = clear_alone one image r
      (ap is_flag (left.synced (gate repository_base) rests.flag_synced) ∙ rests.flag_clear)
      (counted_state (disk.reads d) image r stores (λ q counts. left.synced q (settled q counts)))
