-- The change set that leads from no troves to those that are sent.
use Rattle.std.proofs.Common.{◌≡◌, ⊎_elim, inl, inr, ◌⊎◌, ℕ, Bool, true, false, ◌&&◌, List, [], ◌∷◌, ◌++◌, length, map, All, Contains, Some, refl, sym, subst}
use Rattle.std.specs.Prelude.{◌↔◌, ◌==◌}
use Rattle.std.specs.Str.{bytes_eq}
use Rattle.std.proofs.lemmas.List.Elements.{All-contains}
use Rattle.std.proofs.lemmas.Slice.Eq.{bytes_eq-Decides}
use Rattle.repo_load.specs.cny-stream.Record.{has_name_and_size}
use Rattle.repo_load.specs.cny-stream.declared.record.FileRec.{FileRec}
use Rattle.repo_load.specs.cny-stream.declared.record.FileRec.TheVariants.{Dir, File, Link}
use Rattle.repo_load.specs.trove-parts.declared.files.FileAt.{FileAt}
use Rattle.repo_load.specs.trove-stream.declared.parts.TroveParts.{TroveParts}
use Rattle.repo_load.specs.trove-stream.FilesOf.{files_of}
use Rattle.repo_load.proofs.cny-base.Below.{test_equal}
use Rattle.repo_load.proofs.cny-base.Lists.{contains_cases, contains_first, contains_rest, nothing_in, one_passes}
use Rattle.repo_load.proofs.cny-base.Recorded.{any_of}
use Rattle.repo_index.specs.Catalogue.{is_content, is_file_of}
use Rattle.repository.specs.change-set.ChangeSet.{change_bytes}
use Rattle.repository.specs.change-set.declared.change.Carried.{Carried}
use Rattle.repository.specs.change-set.declared.change.ChangeSet.{ChangeSet}
use Rattle.repository.specs.change-set.declared.change.Part.{Part}
use Rattle.repository.specs.change-set.declared.change.Part.TheVariants.{Whole}
use Rattle.repository.specs.Between.{ArePartsBetween, IsSoundContent, LeadsBetween, RecordsContent, SendsContent}
use Rattle.repository.specs.BetweenSteps.{IsHashed}
use Rattle.repository.proofs.Members.{named_record}
use Rattle.repo_mirror.specs.Absolute.{IsAbsoluteSet}
use Rattle.repo_mirror.specs.Lengths.{set_length}

-- the laws that are called upon
abbrev pub WholeParts : Type 0
WholeParts = (fresh : List TroveParts) (parts : List Part) → ArePartsBetween [] fresh parts → parts ≡ map Whole fresh

abbrev pub AllSent : Type 0
AllSent = (fresh : List TroveParts) (name : List ℕ) → SendsContent [] fresh name ↔ ((size : ℕ) × RecordsContent fresh name size)

abbrev pub SetLength : Type 0
SetLength = (troves : List TroveParts) (set : ChangeSet) → IsAbsoluteSet troves set → length (change_bytes set) ≡ set_length troves

-- ---- files

in_append : (a b : List FileAt) (file : FileAt) → Contains (a ++ b) file → Contains a file ⊎ Contains b file
in_append [] b file h = inr h
in_append (x ∷ a) b file h = ⊎_elim
    (λ here. inl (subst (Contains (x ∷ a)) here (contains_first x a)))
    (λ later. ⊎_elim (λ g. inl (contains_rest x file a g)) (λ g. inr g) (in_append a b file later))
    (contains_cases x file (a ++ b) h)

append_first : (a b : List FileAt) (file : FileAt) → Contains a file → Contains (a ++ b) file
append_first [] b file h = absurd (nothing_in file h)
append_first (x ∷ a) b file h = ⊎_elim
    (λ here. subst (Contains (x ∷ (a ++ b))) here (contains_first x (a ++ b)))
    (λ later. contains_rest x file (a ++ b) (append_first a b file later))
    (contains_cases x file a h)

append_second : (a b : List FileAt) (file : FileAt) → Contains b file → Contains (a ++ b) file
append_second [] b file h = h
append_second (x ∷ a) b file h = contains_rest x file (a ++ b) (append_second a b file h)

-- one of the troves has the file
pub trove_of_file : (troves : List TroveParts) (file : FileAt) → Contains (files_of troves) file → (t : TroveParts) × Contains troves t × Contains t.files file
trove_of_file [] file h = absurd (nothing_in file h)
trove_of_file (t ∷ troves) file h = ⊎_elim
    (λ here. (t, contains_first t troves, here))
    (λ later. let one = trove_of_file troves file later in (one.0, contains_rest t one.0 troves one.1, one.2))
    (in_append t.files (files_of troves) file h)

pub file_of_trove : (troves : List TroveParts) (t : TroveParts) (file : FileAt) → Contains troves t → Contains t.files file → Contains (files_of troves) file
file_of_trove [] t file h g = absurd (nothing_in t h)
file_of_trove (u ∷ troves) t file h g = ⊎_elim
    (λ here. append_first u.files (files_of troves) file (subst (λ (v : TroveParts). Contains v.files file) (sym here) g))
    (λ later. append_second u.files (files_of troves) file (file_of_trove troves t file later g))
    (contains_cases u t troves h)

-- ---- records

both_of : (a b : Bool) → (a && b) ≡ true → (a ≡ true) × (b ≡ true)
both_of true b is = (refl, is)
both_of false b is = absurd (cc is)

same_name : (a b : List ℕ) → bytes_eq a b ≡ true → a ≡ b
same_name a b is = (bytes_eq-Decides a b).0 is

module _ (troves : List TroveParts) (t : TroveParts) (file : FileAt) (there : Contains troves t) (among : Contains t.files file) where
  of_record : (rec : FileRec) → file.rec ≡ rec → Contains t.files (record file { rec = rec })
  of_record rec is = subst (λ (r : FileRec). Contains t.files (record file { rec = r })) is among

  -- the file tells this name and this size
  pub sized_content : (name : List ℕ) (size : ℕ) → has_name_and_size name size file.rec ≡ true → RecordsContent troves name size
  sized_content name size is = by file.rec refl is
    where
      by : (rec : FileRec) → file.rec ≡ rec → has_name_and_size name size rec ≡ true → RecordsContent troves name size
      by (Dir mode owner) same is = absurd (cc is)
      by (File mode owner flags s n) same is =
          let both = both_of (s == size) (bytes_eq n name) is in
          let sizes = test_equal s size both.0 in
          let names = same_name n name both.1 in
          record { trove = t; there = there; file = record file { rec = File mode owner flags s n }; among = of_record (File mode owner flags s n) same; content = λ i. Some (names i, sizes i) }
      by (Link target) same is = absurd (cc is)

  -- it tells this name with some size
  pub named_content : (name : List ℕ) → is_content name file.rec ≡ true → (size : ℕ) × RecordsContent troves name size
  named_content name is = by file.rec refl is
    where
      by : (rec : FileRec) → file.rec ≡ rec → is_content name rec ≡ true → (size : ℕ) × RecordsContent troves name size
      by (Dir mode owner) same is = absurd (cc is)
      by (File mode owner flags s n) same is =
          let names = same_name n name is in
          (s, record { trove = t; there = there; file = record file { rec = File mode owner flags s n }; among = of_record (File mode owner flags s n) same; content = λ i. Some (names i, s) })
      by (Link target) same is = absurd (cc is)

-- ---- the set

module _ (whole_parts : WholeParts) (all_sent : AllSent) (troves : List TroveParts) (set : ChangeSet) (leads : LeadsBetween [] troves set) (hashed : All IsHashed set.contents) where
  pub absolute_of : IsAbsoluteSet troves set
  absolute_of = record {
    parts = whole_parts troves set.parts leads.parts;
    rising = leads.contents.rising;
    each = λ name. (
      (λ h. let r = (all_sent troves name).0 ((leads.contents.each name).0 h) in
          any_of (is_file_of name) (files_of troves) r.1.file (file_of_trove troves r.1.trove r.1.file r.1.there r.1.among) (named_record r.1.file.rec name r.0 r.1.content)),
      (λ is. let one = one_passes (is_file_of name) (files_of troves) is in
          let there = trove_of_file troves one.0 one.1 in
          (leads.contents.each name).1 ((all_sent troves name).1 (named_content troves there.0 one.0 there.1 there.2 name one.2))),
    );
    twenty = λ content among. (All-contains IsHashed set.contents content hashed among).twenty;
    sized = λ content file size among in_files is.
        let there = trove_of_file troves file in_files in
        (All-contains (λ (c : Carried). IsSoundContent troves c.name c.bytes) set.contents content leads.contents.sound among).sized size
        (sized_content troves there.0 file there.1 there.2 content.name size is);
  }
