-- A stream is that of one trove, and the streams in both encodings.
use Rattle.std.proofs.Common.{◌≡◌, ◌↔◌, ℕ, ◌≤◌, List, [], ◌++◌, length, All, refl, sym, ap, ◌∙◌, append-nil}
use Rattle.cny_dep.specs.Dep.{IsDependency, dep_text}
use Rattle.trove_parts.specs.cny-dep.Canonical.{flavor_text}
use Rattle.cny_stream.specs.Item.{item_bytes}
use Rattle.cny_stream.proofs.ItemLaws.{same_item}
use Rattle.cny_version.specs.Version.{version_text}
use Rattle.trove_parts.specs.cny-stream.declared.encoding.Encoding.{Encoding}
use Rattle.trove_parts.specs.cny-stream.declared.encoding.Encoding.TheVariants.{Compact, Explicit}
use Rattle.trove_parts.specs.declared.id.TroveId.{TroveId}
use Rattle.trove_parts.specs.Id.{IsTroveId, id_bytes}
use Rattle.trove_parts.specs.Parts.{three_strs}
use Rattle.trove_parts.specs.Deps.{deps_bytes}
use Rattle.trove_parts.specs.declared.files.FileAt.{FileAt}
use Rattle.trove_parts.specs.Files.{IsFileAt, HasOtherOwner, file_value, files_bytes}
use Rattle.trove_parts.specs.Items.{AreOfOneList}
use Rattle.trove_parts.proofs.ItemsLaws.{same_middle}
use Rattle.trove_stream.specs.declared.parts.TroveParts.{TroveParts}
use Rattle.trove_stream.specs.Stream.{head_bytes, lists_bytes, stream_bytes}
use Rattle.trove_stream.specs.Trove.{IsTrove}
use Rattle.trove_stream.proofs.Heads.{three_and, texts_short}
use Rattle.trove_stream.proofs.Lists.{behind_files, behind_refs, files_begin, refs_begin, requires_begin, provides_begin}
use Rattle.cny_version.proofs.cny-base.Counts.{small as fits_item}

-- the same three texts, and the same behind them
pub one_head : (a b : TroveId) (r s : List ℕ) → length (id_bytes a) ≤ 17290 → length (id_bytes b) ≤ 17290 → head_bytes a ++ r ≡ head_bytes b ++ s → (id_bytes a ≡ id_bytes b) × (r ≡ s)
one_head a b r s a_short b_short e =
    let ours = texts_short a a_short in
    let theirs = texts_short b b_short in
    let v = version_text a.version in
    let f = flavor_text a.flavor in
    let w = version_text b.version in
    let g = flavor_text b.flavor in
    let one = same_item 1 1 a.name b.name (item_bytes 2 v ++ (item_bytes 3 f ++ r)) (item_bytes 2 w ++ (item_bytes 3 g ++ s)) (fits_item (length a.name) ours.name) (fits_item (length b.name) theirs.name)
    (sym (three_and a.name v f r) ∙ e ∙ three_and b.name w g s) in
    let two = same_item 2 2 v w (item_bytes 3 f ++ r) (item_bytes 3 g ++ s) (fits_item (length v) ours.version) (fits_item (length w) theirs.version) one.rests in
    let three = same_item 3 3 f g r s (fits_item (length f) ours.flavor) (fits_item (length g) theirs.flavor) two.rests in
    (ap (λ n. three_strs n v f) one.values ∙ ap (λ t. three_strs b.name t f) two.values ∙ ap (λ t. three_strs b.name w t) three.values, three.rests)

pub one_trove : (one other : Encoding) (a b : TroveParts) → IsTrove a → IsTrove b → ((id : TroveId) → IsTroveId id → length (id_bytes id) ≤ 17290)
    → ((i j : TroveId) (x y : List ℕ) → IsTroveId i → IsTroveId j → id_bytes i ++ x ≡ id_bytes j ++ y → (i ≡ j) × (x ≡ y))
    → AreOfOneList (file_value one) (file_value other) IsFileAt → AreOfOneList id_bytes id_bytes IsTroveId → AreOfOneList dep_text dep_text IsDependency
    → stream_bytes one a ≡ stream_bytes other b → a ≡ b
one_trove one other a b a_is b_is short one_id one_files one_refs one_deps e =
    let ours = a_is.lists in
    let theirs = b_is.lists in
    let head = one_head a.id b.id (lists_bytes one a) (lists_bytes other b) (short a.id ours.id) (short b.id theirs.id) e in
    let ids = (one_id a.id b.id [] [] ours.id theirs.id (append-nil (id_bytes a.id) ∙ head.0 ∙ sym (append-nil (id_bytes b.id)))).0 in
    let files = one_files 4 (lists_bytes one a) a.files b.files (behind_files a) (behind_files b) ours.files.valid theirs.files.valid (files_begin one (lists_bytes one a) a refl) (files_begin other (lists_bytes one a) b head.1) in
    let refs = one_refs 5 (behind_files a) a.refs b.refs (behind_refs a) (behind_refs b) ours.refs.valid theirs.refs.valid (refs_begin (behind_files a) a refl) (refs_begin (behind_files a) b files.1) in
    let required = one_deps 6 (behind_refs a) a.requires_ b.requires_ (deps_bytes 7 a.provides) (deps_bytes 7 b.provides) ours.requires.valid theirs.requires.valid (requires_begin (behind_refs a) a refl) (requires_begin (behind_refs a) b refs.1) in
    let provided = one_deps 7 (deps_bytes 7 a.provides) a.provides b.provides [] [] ours.provides.valid theirs.provides.valid (provides_begin (deps_bytes 7 a.provides) a refl) (provides_begin (deps_bytes 7 a.provides) b required.1) in
    let files_are = files.0 in
    let refs_are = refs.0 in
    let required_are = required.0 in
    let provided_are = provided.0 in
    λ i. record { id = ids i; files = files_are i; refs = refs_are i; requires_ = required_are i; provides = provided_are i }

-- the two streams differ in the items of the files alone
pub encodings_equal : ((tag : ℕ) (files : List FileAt) → (files_bytes Compact tag files ≡ files_bytes Explicit tag files) ↔ All HasOtherOwner files) → (t : TroveParts)
    → (stream_bytes Compact t ≡ stream_bytes Explicit t) ↔ All HasOtherOwner t.files
encodings_equal both t = (
  λ e. (both 4 t.files).0 (same_middle (head_bytes t.id) (files_bytes Compact 4 t.files) (files_bytes Explicit 4 t.files) (behind_files t) e),
  λ others. ap (λ l. head_bytes t.id ++ (l ++ behind_files t)) ((both 4 t.files).1 others),
)
