-- A stream is that of one relative trove, and the streams in both encodings.
use Rattle.std.proofs.Common.{◌≡◌, ◌↔◌, ℕ, ◌+◌, ◌≤◌, List, [], ◌++◌, length, All, refl, sym, ap, ◌∙◌, append-nil}
use Rattle.std.proofs.lemmas.List.{append_cancel_left}
use Rattle.cny_dep.specs.Dep.{IsDependency, dep_text}
use Rattle.cny_stream.specs.Item.{item_bytes}
use Rattle.cny_stream.proofs.ItemLaws.{same_item}
use Rattle.trove_parts.specs.cny-stream.declared.encoding.Encoding.{Encoding}
use Rattle.trove_parts.specs.cny-stream.declared.encoding.Encoding.TheVariants.{Compact, Explicit}
use Rattle.trove_parts.specs.declared.id.TroveId.{TroveId}
use Rattle.trove_parts.specs.Id.{IsTroveId, id_bytes}
use Rattle.trove_parts.specs.declared.files.FileAt.{FileAt}
use Rattle.trove_parts.specs.Files.{IsFileAt, HasOtherOwner, file_value, files_bytes}
use Rattle.trove_parts.specs.Items.{items_bytes, AreOfOneList}
use Rattle.trove_parts.proofs.ItemsLaws.{same_middle}
use Rattle.trove_parts.specs.Paths.{IsPath, path_value, paths_bytes}
use Rattle.trove_stream.specs.declared.rel.RelParts.{RelParts}
use Rattle.trove_stream.specs.Pairs.{BeginsWithPair, ids_bytes}
use Rattle.trove_stream.specs.RelBytes.{IsStreamOf, rel_stream_bytes}
use Rattle.trove_stream.proofs.RelStreamParts.{first_id, first_of_pair, second_of_pair, files_part, refs_part, requires_part, provides_part, begins_files, begins_refs, begins_requires, begins_provides}
use Rattle.cny_version.proofs.cny-base.Counts.{small as fits}

record SamePair {A B : Type 0} (xs xs' : List A) (ys ys' : List B) (rest rest' : List ℕ) : Type 0 where
  first : xs ≡ xs'
  second : ys ≡ ys'
  behind : rest ≡ rest'

one_pair : {A B : Type 0} (value value' : A → List ℕ) (value2 value2' : B → List ℕ) (IsValid : A → Type 0) (IsValid2 : B → Type 0) → AreOfOneList value value' IsValid → AreOfOneList value2 value2' IsValid2
    → (tag : ℕ) (bytes : List ℕ) (xs xs' : List A) (ys ys' : List B) (rest rest' : List ℕ) → All IsValid xs → All IsValid xs' → All IsValid2 ys → All IsValid2 ys'
    → BeginsWithPair value value2 tag bytes xs ys rest → BeginsWithPair value' value2' tag bytes xs' ys' rest' → SamePair xs xs' ys ys' rest rest'
one_pair value value' value2 value2' IsValid IsValid2 one other tag bytes xs xs' ys ys' rest rest' xs_are xs_are' ys_are ys_are' pair pair' =
    let more = items_bytes value2 (tag + 1) ys ++ rest in
    let first = one tag bytes xs xs' more (items_bytes value2' (tag + 1) ys' ++ rest') xs_are xs_are' (first_of_pair value value2 tag bytes xs ys rest pair) (first_of_pair value' value2' tag bytes xs' ys' rest' pair') in
    let second = other (tag + 1) more ys ys' rest rest' ys_are ys_are' (second_of_pair value value2 tag bytes more xs ys rest pair refl) (second_of_pair value' value2' tag bytes more xs' ys' rest' pair' first.1) in
    record { first = first.0; second = second.0; behind = second.1 }

pub one_rel : (one other : Encoding) (a b : RelParts) (bytes : List ℕ) → IsStreamOf one a bytes → IsStreamOf other b bytes → ((id : TroveId) → IsTroveId id → length (id_bytes id) ≤ 17290)
    → ((i j : TroveId) (x y : List ℕ) → IsTroveId i → IsTroveId j → id_bytes i ++ x ≡ id_bytes j ++ y → (i ≡ j) × (x ≡ y))
    → AreOfOneList (file_value one) (file_value other) IsFileAt → AreOfOneList id_bytes id_bytes IsTroveId → AreOfOneList dep_text dep_text IsDependency → AreOfOneList path_value path_value IsPath → a ≡ b
one_rel one other a b bytes a_is b_is short one_id one_files one_refs one_deps one_paths =
    let ours = a_is.rel_is.parts in
    let theirs = b_is.rel_is.parts in
    let old_item = same_item 0x21 0x21 (id_bytes a.old) (id_bytes b.old) (item_bytes 0x22 (id_bytes a.fresh) ++ files_part one a) (item_bytes 0x22 (id_bytes b.fresh) ++ files_part other b)
    (fits (length (id_bytes a.old)) (short a.old ours.old)) (fits (length (id_bytes b.old)) (short b.old theirs.old))
    (sym (first_id bytes a.old a.fresh (files_part one a) a_is.text) ∙ first_id bytes b.old b.fresh (files_part other b) b_is.text) in
    let fresh_item = same_item 0x22 0x22 (id_bytes a.fresh) (id_bytes b.fresh) (files_part one a) (files_part other b)
    (fits (length (id_bytes a.fresh)) (short a.fresh ours.fresh)) (fits (length (id_bytes b.fresh)) (short b.fresh theirs.fresh)) old_item.rests in
    let old = (one_id a.old b.old [] [] ours.old theirs.old (append-nil (id_bytes a.old) ∙ old_item.values ∙ sym (append-nil (id_bytes b.old)))).0 in
    let fresh = (one_id a.fresh b.fresh [] [] ours.fresh theirs.fresh (append-nil (id_bytes a.fresh) ∙ fresh_item.values ∙ sym (append-nil (id_bytes b.fresh)))).0 in
    let files = one_pair path_value path_value (file_value one) (file_value other) IsPath IsFileAt one_paths one_files 0x23 (files_part one a) a.paths_gone b.paths_gone a.files_set b.files_set (refs_part a) (refs_part b)
    ours.paths_gone.valid theirs.paths_gone.valid ours.files_set.valid theirs.files_set.valid (begins_files one (files_part one a) a refl) (begins_files other (files_part one a) b fresh_item.rests) in
    let refs = one_pair id_bytes id_bytes id_bytes id_bytes IsTroveId IsTroveId one_refs one_refs 0x25 (refs_part a) a.refs_gone b.refs_gone a.refs_added b.refs_added (requires_part a) (requires_part b)
    ours.refs_gone.valid theirs.refs_gone.valid ours.refs_added.valid theirs.refs_added.valid (begins_refs (refs_part a) a refl) (begins_refs (refs_part a) b files.behind) in
    let required = one_pair dep_text dep_text dep_text dep_text IsDependency IsDependency one_deps one_deps 0x27 (requires_part a) a.requires_gone b.requires_gone a.requires_added b.requires_added (provides_part a) (provides_part b)
    ours.requires_gone.valid theirs.requires_gone.valid ours.requires_added.valid theirs.requires_added.valid (begins_requires (requires_part a) a refl) (begins_requires (requires_part a) b refs.behind) in
    let provided = one_pair dep_text dep_text dep_text dep_text IsDependency IsDependency one_deps one_deps 0x29 (provides_part a) a.provides_gone b.provides_gone a.provides_added b.provides_added [] []
    ours.provides_gone.valid theirs.provides_gone.valid ours.provides_added.valid theirs.provides_added.valid (begins_provides (provides_part a) a refl) (begins_provides (provides_part a) b required.behind) in
    let paths_gone = files.first in
    let files_set = files.second in
    let refs_gone = refs.first in
    let refs_added = refs.second in
    let requires_gone = required.first in
    let requires_added = required.second in
    let provides_gone = provided.first in
    let provides_added = provided.second in
    λ i. record {
      old = old i;
      fresh = fresh i;
      paths_gone = paths_gone i;
      files_set = files_set i;
      refs_gone = refs_gone i;
      refs_added = refs_added i;
      requires_gone = requires_gone i;
      requires_added = requires_added i;
      provides_gone = provides_gone i;
      provides_added = provides_added i;
    }

-- the two streams differ in the items of the files alone
pub encodings_equal : ((tag : ℕ) (files : List FileAt) → (files_bytes Compact tag files ≡ files_bytes Explicit tag files) ↔ All HasOtherOwner files) → (rel : RelParts)
    → (rel_stream_bytes Compact rel ≡ rel_stream_bytes Explicit rel) ↔ All HasOtherOwner rel.files_set
encodings_equal both rel =
    let ids = ids_bytes rel.old rel.fresh in
    let gone = paths_bytes 0x23 rel.paths_gone in
    let compact = files_bytes Compact 0x24 rel.files_set in
    let explicit = files_bytes Explicit 0x24 rel.files_set in (
      λ e. (both 0x24 rel.files_set).0 (append_cancel_left gone compact explicit (same_middle ids (gone ++ compact) (gone ++ explicit) (refs_part rel) e)),
      λ others. ap (λ l. ids ++ ((gone ++ l) ++ refs_part rel)) ((both 0x24 rel.files_set).1 others),
    )
