-- The contents of a manifest are those of a change set of its troves.
use Rattle.std.proofs.Common.{◌≡◌, ℕ, Bool, true, false, ◌&&◌, ◌||◌, List, [], ◌∷◌, length, map, flat_map, refl, sym, ap, subst, ◌∙◌, eq-eqb}
use Rattle.std.specs.Prelude.{◌==◌, All, Contains}
use Rattle.std.specs.Cmp.{second_so}
use Rattle.std.specs.List.{AllByRecursion, list_any}
use Rattle.std.specs.List.Sorted.{IsStrictlySortedBy}
use Rattle.std.specs.Str.{bytes_eq}
use Rattle.std.proofs.lemmas.Bool.{true≢false}
use Rattle.std.proofs.lemmas.List.Elements.{All-from_recursion, recursion_from_All, All-weaker, All-contains}
use Rattle.sha1.specs.Sha1.{sha1}
use Rattle.manifest_troves.specs.cny-base.Name.{kind_of_name}
use Rattle.manifest_troves.specs.cny-base.declared.name.NameKind.{NameKind}
use Rattle.manifest_troves.specs.cny-base.declared.name.NameKind.TheVariants.{Component, Package, Group}
use Rattle.manifest_troves.specs.cny-stream.Record.{IsFileRecord, has_name_and_size}
use Rattle.manifest_troves.specs.cny-stream.declared.record.FileRec.{FileRec}
use Rattle.manifest_troves.specs.cny-stream.declared.record.FileRec.TheVariants as rec
use Rattle.manifest_troves.specs.trove-parts.declared.files.FileAt.{FileAt}
use Rattle.manifest_troves.specs.trove-parts.Files.{IsFileAt}
use Rattle.manifest_troves.specs.trove-stream.declared.parts.TroveParts.{TroveParts}
use Rattle.manifest_troves.specs.trove-stream.Trove.{IsTrove}
use Rattle.manifest_troves.specs.change-set.ChangeSet.{has_record, IsContentOf, content_cmp}
use Rattle.manifest_troves.specs.change-set.declared.change.Carried.{Carried}
use Rattle.manifest_troves.specs.change-set.declared.change.Part.TheVariants.{Whole}
use Rattle.manifest_troves.specs.Troves.{has_entry, KeepsEntries}
use Rattle.cny_manifest.specs.Body.{Body}
use Rattle.cny_manifest.specs.Made.{lines_of}
use Rattle.cny_manifest.specs.Makes.{HasOwnContents}
use Rattle.cny_manifest.specs.Reading.{IsReadOf}
use Rattle.cny_manifest.specs.Spelling.{Entry, DirEntry, FileEntry, LinkEntry, file_at, contents_in, KeepsToKind, IsSpelling}
use Rattle.cny_manifest.proofs.OneReading.{spelling_of}
use Rattle.manifest_troves.proofs.Names.{or_true}
use Rattle.cny_version.proofs.cny-base.ByteLists.{bytes_mean as bytes_are, bytes_itself as same_bytes}

-- ---- tests

-- ---- contents that are recorded

-- a file with this name and this size
abbrev records : Carried → FileAt → Bool
records c file = has_name_and_size c.name (length c.bytes) file.rec

record IsEntered (files : List FileAt) (c : Carried) : Type 0 where
  hash : c.name ≡ sha1 c.bytes
  recorded : list_any (records c) files ≡ true

one_more : (file : FileAt) (files : List FileAt) (cs : List Carried) → AllByRecursion (IsEntered files) cs → AllByRecursion (IsEntered (file ∷ files)) cs
one_more file files [] all = tt
one_more file files (c ∷ cs) all =
    (record { hash = all.0.hash; recorded = ap (λ (b : Bool). records c file || b) all.0.recorded ∙ or_true (records c file) }, one_more file files cs all.1)

own_record : (content : List ℕ) → ((length content == length content) && bytes_eq (sha1 content) (sha1 content)) ≡ true
own_record content = rw (eq-eqb (length content) (length content) refl, same_bytes (sha1 content)) refl

entered : (entries : List Entry) → AllByRecursion (IsEntered (map file_at entries)) (flat_map contents_in entries)
entered [] = tt
entered (DirEntry path mode owner ∷ entries) = one_more (file_at (DirEntry path mode owner)) (map file_at entries) (flat_map contents_in entries) (entered entries)
entered (LinkEntry path target ∷ entries) = one_more (file_at (LinkEntry path target)) (map file_at entries) (flat_map contents_in entries) (entered entries)
entered (FileEntry path mode owner flags content ∷ entries) =
    let c : Carried = record { name = sha1 content; bytes = content } in
    let file : FileAt = file_at (FileEntry path mode owner flags content) in (
      record { hash = refl; recorded = ap (λ (b : Bool). b || list_any (records c) (map file_at entries)) (own_record content) },
      one_more file (map file_at entries) (flat_map contents_in entries) (entered entries),
    )

all_entered : (bytes : List ℕ) (b : Body) → IsSpelling bytes b → All (IsEntered b.files) b.contents
all_entered bytes b is =
    subst (λ (files : List FileAt). All (IsEntered files) b.contents) (sym is.are.files_are)
    (subst (All (IsEntered (map file_at is.are.entries))) (sym is.are.contents_are) (All-from_recursion (IsEntered (map file_at is.are.entries)) (flat_map contents_in is.are.entries) (entered is.are.entries)))

-- ---- recorded by one of the troves

nothing_else : (kind : NameKind) (b : Body) (test : FileAt → Bool) → KeepsToKind kind b → kind ≡ Group → list_any test b.files ≡ true → ⊥
nothing_else Component b test keeps e any = absurd (cc)
nothing_else Package b test keeps e any = absurd (cc)
nothing_else Group b test keeps e any = true≢false (sym any ∙ ap (list_any test) keeps.2)

in_troves : (bytes : List ℕ) (b : Body) (troves : List TroveParts) (c : Carried) → IsSpelling bytes b → KeepsEntries (lines_of b) troves → IsEntered b.files c → list_any (has_entry (records c)) troves ≡ true
in_troves bytes b troves c is keeps entered =
    keeps (records c) (λ group. nothing_else (kind_of_name b.id.name) b (records c) is.lists.kind group entered.recorded) entered.recorded

in_parts : (c : Carried) (troves : List TroveParts) → list_any (has_record c.name (length c.bytes)) (map Whole troves) ≡ list_any (has_entry (records c)) troves
in_parts c [] = refl
in_parts c (t ∷ troves) = ap (λ (b : Bool). has_entry (records c) t || b) (in_parts c troves)

-- ---- names of twenty bytes

record_twenty : (c : Carried) (r : FileRec) → IsFileRecord r → has_name_and_size c.name (length c.bytes) r ≡ true → length c.name ≡ 20
record_twenty c (rec.Dir mode owner) is e = absurd (true≢false (sym e))
record_twenty c (rec.Link target) is e = absurd (true≢false (sym e))
record_twenty c (rec.File mode owner flags size name) is e =
    subst (λ (l : List ℕ). length l ≡ 20) (bytes_are name c.name (second_so (size == length c.bytes) (bytes_eq name c.name) e)) is.2

file_twenty : (c : Carried) (files : List FileAt) → AllByRecursion IsFileAt files → list_any (records c) files ≡ true → length c.name ≡ 20
file_twenty c [] all e = absurd (true≢false (sym e))
file_twenty c (file ∷ files) all e = at (records c file) refl (λ later. file_twenty c files all.1 later) e
  where
    at : (b : Bool) → records c file ≡ b → (list_any (records c) files ≡ true → length c.name ≡ 20) → (b || list_any (records c) files) ≡ true → length c.name ≡ 20
    at true is later given = record_twenty c file.rec all.0.rec is
    at false is later given = later given

trove_twenty : (c : Carried) (troves : List TroveParts) → AllByRecursion IsTrove troves → list_any (has_entry (records c)) troves ≡ true → length c.name ≡ 20
trove_twenty c [] all e = absurd (true≢false (sym e))
trove_twenty c (t ∷ troves) all e = at (has_entry (records c) t) refl (λ later. trove_twenty c troves all.1 later) e
  where
    at : (b : Bool) → has_entry (records c) t ≡ b → (list_any (has_entry (records c)) troves ≡ true → length c.name ≡ 20) → (b || list_any (has_entry (records c)) troves) ≡ true → length c.name ≡ 20
    at true is later given = file_twenty c t.files (recursion_from_All IsFileAt t.files all.0.lists.files.valid) is
    at false is later given = later given

-- ---- what is made

content_is : (bytes : List ℕ) (b : Body) (troves : List TroveParts) (c : Carried) → IsSpelling bytes b → KeepsEntries (lines_of b) troves → All IsTrove troves → IsEntered b.files c
    → IsContentOf (map Whole troves) c
content_is bytes b troves c is keeps are entered =
    let among = in_troves bytes b troves c is keeps entered in
    record { hash = entered.hash; twenty = trove_twenty c troves (recursion_from_All IsTrove troves are) among; recorded = in_parts c troves ∙ among }

pub troves_are : (bytes : List ℕ) (troves : List TroveParts) (contents : List Carried) → IsReadOf bytes troves contents → All IsTrove troves
troves_are bytes troves contents read = subst (All IsTrove) (sym read.troves_are) (spelling_of bytes read.body read.runs).troves

pub own_contents : (bytes : List ℕ) (troves : List TroveParts) (contents kept : List Carried) → IsReadOf bytes troves contents → All (Contains contents) kept → IsStrictlySortedBy content_cmp kept
    → HasOwnContents (record { troves = troves; contents = kept })
own_contents bytes troves contents kept read given rising =
    let b : Body = read.body in
    let is : IsSpelling bytes b = spelling_of bytes b read.runs in
    let are : All IsTrove troves = troves_are bytes troves contents read in
    let all : All (IsEntered b.files) contents = subst (All (IsEntered b.files)) (sym read.contents_are) (all_entered bytes b is) in
    record {
      contents = All-weaker (Contains contents) (IsContentOf (map Whole troves))
          (λ c among. content_is bytes b troves c is read.entries are (All-contains (IsEntered b.files) contents c all among)) kept given;
      rising = rising;
    }
