-- The items of an id's texts, and the id that has them.
use Rattle.std.proofs.Common.{◌≡◌, ℕ, ◌+◌, ◌≤◌, List, ◌∷◌, ◌++◌, length, drop, sym, ap, ◌∙◌, arith, append_assoc, length-append}
use Rattle.std.specs.Int.{w32, to_be_bytes}
use Rattle.std.proofs.Math.Seq.{drop-append_seam}
use Rattle.std.proofs.lemmas.List.{drop-drop}
use Rattle.trove_parts.specs.cny-base.StrField.{str}
use Rattle.trove_parts.specs.cny-dep.Canonical.{flavor_text}
use Rattle.cny_stream.specs.Item.{item_bytes}
use Rattle.cny_stream.proofs.ItemLaws.{same_item}
use Rattle.cny_version.specs.Version.{version_text}
use Rattle.trove_parts.specs.declared.id.TroveId.{TroveId}
use Rattle.trove_parts.specs.Id.{IsTroveId, id_bytes}
use Rattle.trove_parts.specs.Parts.{AreTextsOf}
use Rattle.trove_stream.specs.declared.head.HeadItems.{HeadItems}
use Rattle.trove_stream.specs.Head.{name_in, version_in, flavor_in, AreHeadItems}
use Rattle.trove_stream.specs.Stream.{three_items, head_bytes}
use Rattle.trove_parts.proofs.IdFields.{str_length}
use Rattle.cny_version.proofs.cny-base.Counts.{small as fits_item}

pub three_and : (a b c rest : List ℕ) → three_items a b c ++ rest ≡ item_bytes 1 a ++ (item_bytes 2 b ++ (item_bytes 3 c ++ rest))
three_and a b c rest = append_assoc (item_bytes 1 a) (item_bytes 2 b ++ item_bytes 3 c) rest ∙ ap (λ l. item_bytes 1 a ++ l) (append_assoc (item_bytes 2 b) (item_bytes 3 c) rest)

-- what stands behind the item that begins there
pub behind_item : (bytes : List ℕ) (at to tag : ℕ) (value rest : List ℕ) → drop at bytes ≡ item_bytes tag value ++ rest → to ≡ at + 5 + length value → drop to bytes ≡ rest
behind_item bytes at to tag value rest is end =
    let long : length (item_bytes tag value) ≡ 5 + length value = length-append (tag ∷ to_be_bytes w32 (length value)) value in
    let place : to ≡ at + length (item_bytes tag value) = omega arith in
    ap (λ (n : ℕ). drop n bytes) place ∙ sym (drop-drop (length (item_bytes tag value)) at bytes) ∙ ap (drop (length (item_bytes tag value))) is ∙ drop-append_seam (item_bytes tag value) rest

-- ---- how long the texts of an id are

-- each has at most as many bytes as the id
pub record AreShort (id : TroveId) : Type 0 where
  pub name : length id.name ≤ 17290
  pub version : length (version_text id.version) ≤ 17290
  pub flavor : length (flavor_text id.flavor) ≤ 17290

pub texts_short : (id : TroveId) → length (id_bytes id) ≤ 17290 → AreShort id
texts_short id short =
    let first = length-append (str id.name) (str (version_text id.version) ++ str (flavor_text id.flavor)) in
    let second = length-append (str (version_text id.version)) (str (flavor_text id.flavor)) in
    let name = str_length id.name in
    let version = str_length (version_text id.version) in
    let flavor = str_length (flavor_text id.flavor) in
    record { name = omega arith; version = omega arith; flavor = omega arith }

-- ---- the items of an id

pub there : (bytes : List ℕ) (items : HeadItems) (id : TroveId) (rest : List ℕ) → AreHeadItems bytes items → IsTroveId id → length (id_bytes id) ≤ 17290 → bytes ≡ head_bytes id ++ rest
    → AreTextsOf id (name_in bytes items) (version_in bytes items) (flavor_in bytes items) × (drop items.flavor.to bytes ≡ rest)
there bytes items id rest are valid short same =
    let texts = texts_short id short in
    let v = version_text id.version in
    let f = flavor_text id.flavor in
    let behind = drop items.flavor.to bytes in
    let one = same_item 1 1 (name_in bytes items) id.name (item_bytes 2 (version_in bytes items) ++ (item_bytes 3 (flavor_in bytes items) ++ behind)) (item_bytes 2 v ++ (item_bytes 3 f ++ rest)) are.name_fits
    (fits_item (length id.name) texts.name) (sym (three_and (name_in bytes items) (version_in bytes items) (flavor_in bytes items) behind) ∙ sym are.spelled ∙ same ∙ three_and id.name v f rest) in
    let two = same_item 2 2 (version_in bytes items) v (item_bytes 3 (flavor_in bytes items) ++ behind) (item_bytes 3 f ++ rest) are.version_fits (fits_item (length v) texts.version) one.rests in
    let three = same_item 3 3 (flavor_in bytes items) f behind rest are.flavor_fits (fits_item (length f) texts.flavor) two.rests in
    (record { valid = valid; name_is = one.values; version_is = two.values; flavor_is = three.values }, three.rests)
