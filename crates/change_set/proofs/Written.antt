-- The items that were written so far, and their lengths.
use Rattle.std.proofs.Common.{◌≡◌, ℕ, ◌+◌, ◌<◌, ◌≤◌, List, [], ◌∷◌, ◌++◌, length, take, get_or, All, Result, Ok, Err, OnOk, sym, ◌∙◌, ap, subst, arith, length-append}
use Rattle.std.specs.Prelude.{flat_map}
use Rattle.std.proofs.lemmas.List.{flat_map_more, take_more}
use Rattle.std.proofs.lemmas.List.Elements.{All-more}
use Rattle.std.proofs.lemmas.List.Folds.{length-flat_map-take}
use Rattle.trove_stream.specs.cny-base.declared.limits.TheConstants.{CHANGE_SET_LIMIT}
use Rattle.cny_stream.specs.Item.{FitsItem, FitsOpen, open_head}
use Rattle.change_set.specs.declared.change.Part.{Part}
use Rattle.change_set.specs.declared.change.Carried.{Carried}
use Rattle.change_set.specs.ChangeSet.{IsPart, FitsPart, part_tag, part_value, part_bytes, content_value, content_bytes}
use Rattle.trove_stream.proofs.trove-parts.Encodings.{item_length}

-- the first parts are valid, and their items stand behind what was there before
pub record ArePartsWritten (before : List ℕ) (parts : List Part) (count : ℕ) (out : List ℕ) : Type 0 where
  pub valid : All IsPart (take count parts)
  pub text : out ≡ before ++ flat_map part_bytes (take count parts)

-- where all items have room, each of them has
pub part_fits : (parts : List Part) (k : ℕ) (d : Part) → length (flat_map part_bytes parts) ≤ CHANGE_SET_LIMIT → k < length parts → FitsPart (get_or parts k d)
part_fits parts k d few lt =
    omega (arith, length-flat_map-take part_bytes parts k d lt, item_length (part_tag (get_or parts k d)) (part_value (get_or parts k d)))

pub parts_fit : (parts : List Part) → length (flat_map part_bytes parts) ≤ CHANGE_SET_LIMIT → All FitsPart parts
parts_fit parts few = λ k d lt. part_fits parts k d few lt

pub content_fits : (contents : List Carried) (k : ℕ) (d : Carried) → length (flat_map content_bytes contents) ≤ CHANGE_SET_LIMIT → k < length contents → FitsItem (content_value (get_or contents k d))
content_fits contents k d few lt =
    omega (arith, length-flat_map-take content_bytes contents k d lt, item_length 0x12 (content_value (get_or contents k d)))

-- the content at a place has room
pub content_room : (contents : List Carried) (k : ℕ) (content : Carried) → length (flat_map content_bytes contents) ≤ CHANGE_SET_LIMIT → k < length contents → content ≡ get_or contents k content → FitsItem (content_value content)
content_room contents k content few lt is = subst (λ (c : Carried). FitsItem (content_value c)) (sym is) (content_fits contents k content few lt)

-- the part at a place has room
pub part_room : (parts : List Part) (k : ℕ) (part : Part) → length (flat_map part_bytes parts) ≤ CHANGE_SET_LIMIT → k < length parts → part ≡ get_or parts k part → FitsPart part
part_room parts k part few lt is = subst FitsPart (sym is) (part_fits parts k part few lt)

-- the length of the items of the elements before a place, and of the one there
items_length : {A : Type 0} (bytes : A → List ℕ) (xs : List A) (k : ℕ) (x : A) → k < length xs → x ≡ get_or xs k x → length (flat_map bytes (take (k + 1) xs)) ≡ length (flat_map bytes (take k xs)) + length (bytes x)
items_length {A = A} bytes xs k x lt is =
    let items : flat_map bytes (take (k + 1) xs) ≡ flat_map bytes (take k xs) ++ bytes x =
    ap (flat_map bytes) (take_more xs k x lt ∙ ap (λ (y : A). take k xs ++ y ∷ []) (sym is)) ∙ sym (flat_map_more bytes [] (take k xs) x) in
    ap length items ∙ length-append (flat_map bytes (take k xs)) (bytes x)

pub contents_length : (contents : List Carried) (k : ℕ) (content : Carried) (size more : ℕ) → k < length contents → content ≡ get_or contents k content → size ≡ length (flat_map content_bytes (take k contents)) → more ≡ size + (5 + length content.name) + length content.bytes → more ≡ length (flat_map content_bytes (take (k + 1) contents))
contents_length contents k content size more lt is so_far next =
    omega (arith, items_length content_bytes contents k content lt is, item_length 0x12 (content_value content), length-append content.name content.bytes)

-- one part more
pub one_part : (before : List ℕ) (parts : List Part) (k : ℕ) (part : Part) (out more : List ℕ) → k < length parts → part ≡ get_or parts k part → ArePartsWritten before parts k out → IsPart part → more ≡ out ++ part_bytes part → ArePartsWritten before parts (k + 1) more
one_part before parts k part out more lt is so_far valid next = record {
  valid = All-more IsPart parts k part lt so_far.valid (subst IsPart is valid);
  text = next ∙ ap (λ (l : List ℕ). l ++ part_bytes part) so_far.text ∙ flat_map_more part_bytes before (take k parts) part
      ∙ ap (λ (l : List Part). before ++ flat_map part_bytes l) (ap (λ (x : Part). take k parts ++ x ∷ []) is ∙ sym (take_more parts k part lt));
}

-- ---- an item written in place

-- the value that stands behind the head has room
pub room_for : (before value whole : List ℕ) (tag at : ℕ) → at ≡ length before → whole ≡ (before ++ open_head tag) ++ value → FitsItem value → FitsOpen at whole
room_for before value whole tag at place is fits =
    let long : length whole ≡ length before + 5 + length value = omega (arith, ap length is, length-append (before ++ open_head tag) value, length-append before (open_head tag)) in
    (omega (arith, long, place), omega (arith, long, place, fits))

-- what holds where the value was put holds where the item was closed
pub closed_by : {T E : Type 0} (P Q : Type 0) (put closed : Result T E) → closed ≡ put → OnOk put P → (P → OnOk closed Q) → OnOk closed Q
closed_by P Q (Ok x) closed same p then = then p
closed_by P Q (Err e) closed same p then = subst (λ r. OnOk r Q) (sym same) tt
