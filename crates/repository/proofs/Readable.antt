-- The contents that a commit carries can be read once its file stands, whatever else is damaged.
use Rattle.std.proofs.Common.{◌≡◌, ◌≢◌, inl, inr, ⊎_elim, ℕ, ◌+◌, true, false, List, [], ◌++◌, length, get_or, Option, Some, None, refl, sym, ◌∙◌, ap, arith}
use Rattle.std.proofs.lemmas.Bool.{cases_Bool}
use Rattle.std.proofs.lemmas.List.Folds.{list_any-append}
use Rattle.sha1.specs.Sha1.{sha1}
use Rattle.repo_load.specs.trove-stream.declared.parts.TroveParts.{TroveParts}
use Rattle.repo_load.specs.tree-disk.Tree.{Name, Tree}
use Rattle.repo_load.proofs.tree-disk.Laws.{get_put_other}
use Rattle.repo_load.specs.journal-log.Targets.{node_of}
use Rattle.change_set.specs.declared.change.Carried.{Carried}
use Rattle.change_set.specs.declared.change.ChangeSet.{ChangeSet}
use Rattle.change_set.specs.ChangeSet.{HasContents, IsContentOf}
use Rattle.repo_load.specs.content-store.Store.{content_path, file_bytes, stored, IsContentName}
use Rattle.repo_index.specs.Catalogue.{CatalogueParts, has_content}
use Rattle.repo_load.specs.Contents.{FindsContent, IsDamagedContent, IsRecorded}
use Rattle.repo_load.specs.Counts.{IsPreparedName}
use Rattle.repo_load.specs.Files.{commit_file, contents_dir}
use Rattle.repo_load.specs.State.{records_content, trove_records}
use Rattle.repo_load.specs.Steps.{commit_put}
use Rattle.repo_load.proofs.CountedNames.{content_apart}
use Rattle.repo_load.proofs.FileNames.{content_differs}
use Rattle.repository.specs.Outcome.{committed_contents, is_recorded, AreSound, CanBeRead}
use Rattle.repository.specs.Parts.{MakeTroves}
use Rattle.repository.specs.Preparing.{IsStored, IsWrittenFrom}
use Rattle.repository.specs.Tests.{collides, Passes}
use Rattle.repository.proofs.Held.{kept_at, recorded_means, recorded_same}
use Rattle.repository.proofs.Making.{parts_record}
use Rattle.repository.proofs.Putting.{is_name}
use Rattle.repository.proofs.Readying.{content_not_behind}
use Rattle.repository.proofs.Sources.{no_collision, same_content}
use Rattle.repository.proofs.Stepping.{passed_all}
use Rattle.change_rel.specs.cny-base.Modes.{file_mode}
use Rattle.change_rel.proofs.cny-base.Bools.{or_right as or_second}

-- ---- names

-- the file of a content that a trove records isn't prepared
named_not_prepared : (c : CatalogueParts) (name : List ℕ) → IsContentName name → has_content name c.troves ≡ true → IsPreparedName c (content_path contents_dir name) → ⊥
named_not_prepared c name name_is has (inl is) = let one : 47 ≡ 0 = ap (λ (n : Name). get_or n 11 0) is in omega (arith, one)
named_not_prepared c name name_is has (inr (inl is)) = let one : 47 ≡ 0 = ap (λ (n : Name). get_or n 13 0) is in omega (arith, one)
named_not_prepared c name name_is has (inr (inr (inl other))) =
    let same : other.name ≡ name = content_apart other.name name other.name_is name_is other.within in absurd (cc (has, other.unnamed, same))
named_not_prepared c name name_is has (inr (inr (inr behind))) = absurd (cc (behind, content_not_behind (c.commits + 2) name))

-- with the commit's file a content stands as it stood before
written_content : (c : CatalogueParts) (contents : List Carried) (troves : List TroveParts) (x y : Tree) (written : IsWrittenFrom c contents troves x y) (name : List ℕ)
    → stored y contents_dir name ≡ stored written.readied contents_dir name
written_content c contents troves x y written name = ap file_bytes
    (written.same (content_path contents_dir name) refl
    ∙ get_put_other written.readied (commit_file (c.commits + 1)) (node_of (commit_put (c.commits + 1) file_mode troves).want) (content_path contents_dir name) (content_differs name (c.commits + 1)))

-- ---- a committed content

-- what stands under the name of a content that isn't damaged is recorded
sound_is_recorded : (troves : List TroveParts) (x : Tree) (name kept : List ℕ) → has_content name troves ≡ true → ((path : Name) → IsDamagedContent troves name x path → ⊥) → stored x contents_dir name ≡ Some kept
    → IsRecorded troves name kept
sound_is_recorded troves x name kept has free is = ⊎_elim
    (λ recorded. recorded_means troves name kept recorded)
    (λ lacks. absurd (free (content_path contents_dir name) (record { here = refl; recorded = has; none = λ bytes there recorded. never bytes there recorded lacks })))
    (cases_Bool (is_recorded troves name kept))
  where
    never : (bytes : List ℕ) → stored x contents_dir name ≡ Some bytes → IsRecorded troves name bytes → is_recorded troves name kept ≡ false → ⊥
    never bytes there recorded lacks =
        let both : Some bytes ≡ Some kept = sym there ∙ is in
        let same : bytes ≡ kept = cc both in
        absurd (cc (recorded_same troves name bytes recorded, ap (is_recorded troves name) same, lacks))

-- the bytes that stand under the name
record IsSoundAt (troves : List TroveParts) (x : Tree) (name : List ℕ) : Type 0 where
  kept : List ℕ
  finds : FindsContent troves name x (Some kept)

sound_bytes : (troves : List TroveParts) (x : Tree) (name : List ℕ) → has_content name troves ≡ true → ((path : Name) → IsDamagedContent troves name x path → ⊥) → IsSoundAt troves x name
sound_bytes troves x name has free = by (stored x contents_dir name) refl
  where
    by : (o : Option (List ℕ)) → stored x contents_dir name ≡ o → IsSoundAt troves x name
    by None is = absurd (free (content_path contents_dir name) (record { here = refl; recorded = has; none = λ bytes there recorded. absurd (cc (is, there)) }))
    by (Some kept) is = record { kept = kept; finds = (is, sound_is_recorded troves x name kept has free is) }

-- ---- what is carried

module _ (c : CatalogueParts) (contents : List Carried) (troves : List TroveParts) (x y : Tree) (written : IsWrittenFrom c contents troves x y) where
  committed_stands : (one : Carried) → one.name ≡ sha1 one.bytes → has_content one.name c.troves ≡ true → ((path : Name) → IsDamagedContent c.troves one.name x path → ⊥)
      → collides (committed_contents c.troves x one.name) one ≡ None → stored y contents_dir one.name ≡ Some one.bytes
  committed_stands one hash has free agrees =
      let found = sound_bytes c.troves x one.name has free in
      let same : found.kept ≡ one.bytes = same_content (committed_contents c.troves x one.name) found.kept one (kept_at c.troves x one.name found.kept found.finds) agrees in
      written_content c contents troves x y written one.name
      ∙ ap file_bytes (written.is_readied.kept (content_path contents_dir one.name) (named_not_prepared c one.name (is_name one hash) has))
      ∙ found.finds.0 ∙ ap Some same

  carried_stands : (one : Carried) → one.name ≡ sha1 one.bytes → IsStored c one written.readied → ((path : Name) → IsDamagedContent c.troves one.name x path → ⊥)
      → collides (committed_contents c.troves x one.name) one ≡ None → stored y contents_dir one.name ≡ Some one.bytes
  carried_stands one hash put free agrees = ⊎_elim
      (λ has. committed_stands one hash has free agrees)
      (λ lacks. written_content c contents troves x y written one.name ∙ put lacks)
      (cases_Bool (has_content one.name c.troves))

-- a content of the parts is recorded by the troves that they make
carried_recorded : (before : List TroveParts) (change : ChangeSet) (troves : List TroveParts) (one : Carried) → MakeTroves before change.parts troves → IsContentOf change.parts one → IsRecorded (before ++ troves) one.name one.bytes
carried_recorded before change troves one make is = record {
  named = sym is.hash;
  recorded = list_any-append (trove_records one.name (length one.bytes)) before troves
      ∙ or_second (records_content one.name (length one.bytes) before) (records_content one.name (length one.bytes) troves)
      (parts_record before change.parts troves one.name (length one.bytes) make is.recorded);
}

pub carried_read : (c : CatalogueParts) (change : ChangeSet) (troves : List TroveParts) (x y : Tree) → troves ≢ [] → HasContents change → Passes c (committed_contents c.troves x) change troves
    → AreSound change.contents c.troves x → IsWrittenFrom c change.contents troves x y → CanBeRead change.contents (c.troves ++ troves) y
carried_read c change troves x y full has passes sound written k d lt =
    let one : Carried = get_or change.contents k d in
    let is : IsContentOf change.parts one = has.contents k d lt in
    let tests = passed_all c (committed_contents c.troves x) change.contents troves full passes.passed in
    let agrees = no_collision (committed_contents c.troves x) change.contents tests.no_collisions k d lt in (
      carried_stands c change.contents troves x y written one is.hash (written.is_readied.ready.stand k d lt) (sound k d lt) agrees,
      carried_recorded c.troves change troves one passes.made.make is,
    )

-- with no troves nothing is carried
pub nothing_read : (before : List TroveParts) (change : ChangeSet) (troves : List TroveParts) (given : List TroveParts) (y : Tree) → troves ≡ [] → HasContents change → MakeTroves before change.parts troves → CanBeRead change.contents given y
nothing_read before change troves given y none has make k d lt =
    let is : IsContentOf change.parts (get_or change.contents k d) = has.contents k d lt in
    let name = (get_or change.contents k d).name in
    let size = length (get_or change.contents k d).bytes in
    let recorded : records_content name size troves ≡ true = parts_record before change.parts troves name size make is.recorded in
    let lacking : records_content name size troves ≡ false = ap (records_content name size) none in
    absurd (cc (recorded, lacking))
