-- A repository as a source of contents.
use Rattle.std.specs.Prelude.{◌≡◌, ℕ, ◌≤◌, Bool, IsTrue, List, Option, refl}
use Rattle.std.proofs.Common.{◌∙◌, sym, subst, arith}
use Rattle.repo_index.specs.cny-base.declared.stop.Stop.{Stop}
use Rattle.repo_index.specs.cny-base.declared.stop.Stop.TheVariants.{Refused, Memory, Failed, Damaged, FarFailed, FarDamaged}
use Rattle.repo_index.specs.trove-stream.declared.parts.TroveParts.{TroveParts}
use Rattle.journal_log.specs.tree-disk.Tree.{Name, Tree}
use Rattle.journal_log.specs.tree-disk.Disk.{DiskModel, HasRead, IsDisk}
use Rattle.journal_log.specs.tree-disk.Moments.{same_start, same_on, time_start, time_on}
use Rattle.content_store.specs.Contents.{ContentMap, ContentsModel, IsSource}
use Rattle.content_store.specs.declared.contents.FarStop.{FarStop}
use Rattle.content_store.specs.declared.contents.FarStop.TheVariants as far
use Rattle.repo_index.specs.Catalogue.{CatalogueParts}
use Rattle.repo_load.specs.State.{catalogue_of, troves_of, RepositoryState}
use Rattle.repo_load.specs.Files.{StoresRepository}
use Rattle.repo_load.specs.declared.repo_contents.RepoContents.{RepoContents}
use Rattle.repo_load.specs.Contents.{FindsContent, IsDamagedContent, IsSoundAnswer}
use Rattle.repo_load.specs.ContentsLaws.{one_answer, same_content}

-- a tree stores a state of this catalogue, and this is the map of its contents
pub record HoldsContents (tree : Tree) (catalogue : CatalogueParts) (map : ContentMap) : Type 0 where
  pub state : RepositoryState
  pub stores : StoresRepository tree state
  pub catalogue_is : catalogue ≡ catalogue_of state.commits
  pub contents : (name : List ℕ) → map name ≡ state.contents name

-- What a search answers, of troves and a tree: none only where no trove names the content; and bytes only where they have the
-- name's SHA-1 and a size that a trove records, and, where the tree is told, stand under the name. What stands under other names
-- doesn't matter.
pub record IsAnswerOf (told : Bool) (tree : Tree) (troves : List TroveParts) (name : List ℕ) (found : Option (List ℕ)) : Type 0 where
  pub sound : IsSoundAnswer troves name found
  pub stands : IsTrue told → FindsContent troves name tree found

-- some trove of the catalogue names a content whose file this is, and which doesn't stand there
pub record IsDamagedAt (tree : Tree) (catalogue : CatalogueParts) (path : Name) : Type 0 where
  pub name : List ℕ
  pub damaged : IsDamagedContent catalogue.troves name tree path

-- the disk of a source, which was only read, and its catalogue, which is the same
pub record HasSearched {D : Type 0} (disk : DiskModel D) (old new : RepoContents D) : Type 0 where
  pub same_disk : new.disk.ghost_name ≡ old.disk.ghost_name
  pub same_catalogue : new.catalogue.now ≡ old.catalogue.now
  pub later : disk.faults old.disk.now ≤ disk.faults new.disk.now
  pub same : IsTrue disk.tells → HasRead disk old.disk.now new.disk.now (Unit {0})

-- What a source over a disk means: the contents of each state that the disk stores, where it tells its tree, and what each search
-- answers, whether or not the disk stores a state or tells its tree. Its faults are the disk's.
abbrev pub repo_contents : {D : Type 0} → DiskModel D → ContentsModel (RepoContents D)
repo_contents disk = record {
  holds = λ c map. IsTrue disk.tells × HoldsContents (disk.reads c.disk.now) c.catalogue.now map;
  answers = λ c name found. IsAnswerOf disk.tells (disk.reads c.disk.now) c.catalogue.now.troves name found;
  tells = disk.tells;
  is_damaged = λ c path. IsDamagedAt (disk.reads c.disk.now) c.catalogue.now path;
  faults = λ c. disk.faults c.disk.now;
  searched = HasSearched disk;
}

-- the content of a state that the tree stores is what is answered
pub mapped_content : (tree : Tree) (catalogue : CatalogueParts) (map : ContentMap) (name : List ℕ) (found : Option (List ℕ)) → HoldsContents tree catalogue map
    → FindsContent catalogue.troves name tree found → found ≡ map name
mapped_content tree catalogue map name found h finds =
    let own : FindsContent (troves_of h.state.commits) name tree found = subst (λ (c : CatalogueParts). FindsContent c.troves name tree found) h.catalogue_is finds in
    same_content tree h.state name found h.stores own ∙ sym (h.contents name)

-- it is a source
pub repo_source : {D : Type 0} {disk : DiskModel D} → IsDisk disk → IsSource (repo_contents disk)
repo_source {disk = disk} laws = record {
  none = λ c. record {
    same_disk = refl;
    same_catalogue = refl;
    later = omega arith;
    same = λ tells. record { answer = tt; same = same_start disk c.disk.now; time = time_start laws c.disk.now };
  };
  next = λ a b c first second. record {
    same_disk = second.same_disk ∙ first.same_disk;
    same_catalogue = second.same_catalogue ∙ first.same_catalogue;
    later = omega (arith, first.later, second.later);
    same = λ tells. record {
      answer = tt;
      same = same_on (first.same tells).same (second.same tells).same;
      time = time_on laws (first.same tells).same (first.same tells).time (second.same tells).time;
    };
  };
  mapped = λ c map name found holds answer. mapped_content (disk.reads c.disk.now) c.catalogue.now map name found holds.1 (answer.stands holds.0);
  one = λ tells c name a b first second. one_answer c.catalogue.now.troves name (disk.reads c.disk.now) a b (first.stands tells) (second.stands tells);
}

-- why a content isn't found, by why the disk's call stopped
abbrev pub IsFarStop : Stop → FarStop → Type 0
IsFarStop Failed stop = stop ≡ far.Failed
IsFarStop (Damaged path) stop = stop ≡ far.Damaged path
IsFarStop Memory stop = stop ≡ far.Memory
IsFarStop (Refused refusal) stop = ⊥
IsFarStop FarFailed stop = ⊥
IsFarStop (FarDamaged path) stop = ⊥

-- a call that only reads a repository stops so
abbrev pub IsLookStop : Stop → Type 0
IsLookStop (Refused refusal) = ⊥
IsLookStop FarFailed = ⊥
IsLookStop (FarDamaged path) = ⊥
IsLookStop Failed = Unit {0}
IsLookStop (Damaged path) = Unit {0}
IsLookStop Memory = Unit {0}
