-- What was read once good parts and contents were.
use Rattle.std.proofs.Common.{◌≡◌, ℕ, ◌+◌, ◌<◌, ◌≤◌, Bool, true, false, nat_lt, IsTrue, inl, inr, List, [], ◌∷◌, ◌++◌, length, map, take, All, Option, Some, None, refl, sym, ◌∙◌, ap, subst, arith, append_assoc, append-nil, length-append}
use Rattle.std.specs.Prelude.{flat_map}
use Rattle.std.specs.List.Sorted.{IsStrictlySortedBy}
use Rattle.std.proofs.Math.Seq.{take-append_seam}
use Rattle.std.proofs.lemmas.Bool.{lt-ltb}
use Rattle.std.proofs.lemmas.List.{length-map, get_or-map}
use Rattle.std.proofs.lemmas.List.Elements.{All-head, All-tail, All-contains}
use Rattle.std.proofs.lemmas.List.Folds.{Any-from_list_any}
use Rattle.trove_stream.specs.cny-base.declared.limits.TheConstants.{CONTENT_LIMIT, PARTS_LIMIT}
use Rattle.cny_stream.specs.Item.{is_expected}
use Rattle.change_set.specs.declared.change.Part.{Part}
use Rattle.change_set.specs.declared.change.Part.TheVariants.{Whole, Relative}
use Rattle.change_set.specs.declared.change.Carried.{Carried}
use Rattle.change_set.specs.ChangeSet.{IsPart, FitsPart, part_tag, part_bytes, content_value, content_bytes, content_cmp, has_record, IsContentOf}
use Rattle.change_set.specs.FirstFault.{StreamItem, Progress, item_text, start, tags_after, IsRecorded, ComesAfter, IsNext, progress_after, AreGood, progress_to}
use Rattle.change_set.specs.Reading.{item_of, last_name}
use Rattle.change_set.proofs.Small.{size_in_part}

-- ---- lists of good items, one behind the other

pub progress_then : (p : Progress) (xs ys : List StreamItem) → progress_to p (xs ++ ys) ≡ progress_to (progress_to p xs) ys
progress_then p [] ys = refl
progress_then p (x ∷ xs) ys = progress_then (progress_after p x) xs ys

pub good_then : (p : Progress) (xs ys : List StreamItem) → AreGood p xs → AreGood (progress_to p xs) ys → AreGood p (xs ++ ys)
good_then p [] ys first second = second
good_then p (x ∷ xs) ys first second = (first.0, good_then (progress_after p x) xs ys first.1 second)

-- ---- parts

-- what was read with these items of parts, and a last content of this name
abbrev pub with_items : List StreamItem → Option (List ℕ) → Progress
with_items items last = record { parts = items; last = last; ended = false }

-- what was read with these parts
abbrev pub with_parts : List Part → Progress
with_parts parts = record { parts = map item_of parts; last = None; ended = false }

pub part_texts : (parts : List Part) → flat_map item_text (map item_of parts) ≡ flat_map part_bytes parts
part_texts [] = refl
part_texts (part ∷ parts) = ap (λ (l : List ℕ). part_bytes part ++ l) (part_texts parts)

-- one part more
part_after : (items : List StreamItem) (part : Part) → progress_after (with_items items None) (item_of part) ≡ with_items (items ++ item_of part ∷ []) None
part_after items (Whole trove) = refl
part_after items (Relative rel) = refl

read_behind : (items : List StreamItem) (parts : List Part) → progress_to (with_items items None) (map item_of parts) ≡ with_items (items ++ map item_of parts) None
read_behind items [] = ap (λ (l : List StreamItem). with_items l None) (sym (append-nil items))
read_behind items (part ∷ parts) =
    ap (λ (p : Progress). progress_to p (map item_of parts)) (part_after items part)
    ∙ read_behind (items ++ item_of part ∷ []) parts
    ∙ ap (λ (l : List StreamItem). with_items l None) (append_assoc items (item_of part ∷ []) (map item_of parts))

pub parts_read : (parts : List Part) → progress_to start (map item_of parts) ≡ with_parts parts
parts_read parts = read_behind [] parts

part_expected : (few : Bool) (part : Part) → few ≡ true → IsTrue (is_expected (tags_after false few None) (part_tag part))
part_expected true (Whole trove) is = refl
part_expected true (Relative rel) is = refl
part_expected false part is = absurd (cc is)

part_next : (items : List StreamItem) (part : Part) → IsPart part → FitsPart part → length items < PARTS_LIMIT → IsNext (with_items items None) (item_of part)
part_next items part valid fits few = record {
  expected = part_expected (nat_lt (length items) PARTS_LIMIT) part (lt-ltb (length items) PARTS_LIMIT few);
  fits = fits;
  good = inl (part, record { valid = valid; tagged = refl; spelled = refl });
}

good_behind : (items : List StreamItem) (parts : List Part) → All IsPart parts → All FitsPart parts → length items + length parts ≤ PARTS_LIMIT → AreGood (with_items items None) (map item_of parts)
good_behind items [] valid fits few = tt
good_behind items (part ∷ parts) valid fits few =
    let more = good_behind (items ++ item_of part ∷ []) parts (All-tail IsPart part parts valid) (All-tail FitsPart part parts fits) (omega (arith, length-append items (item_of part ∷ []))) in (
      part_next items part (All-head IsPart part parts valid) (All-head FitsPart part parts fits) (omega arith),
      subst (λ (p : Progress). AreGood p (map item_of parts)) (sym (part_after items part)) more,
    )

pub parts_good : (parts : List Part) → All IsPart parts → All FitsPart parts → length parts ≤ PARTS_LIMIT → AreGood start (map item_of parts)
parts_good parts valid fits few = good_behind [] parts valid fits (omega arith)

-- ---- contents

abbrev pub content_item : Carried → StreamItem
content_item content = record { tag = 0x12; value = content_value content }

-- what was read with these parts and contents
abbrev pub with_contents : List Part → List Carried → Progress
with_contents parts contents = record { parts = map item_of parts; last = last_name contents; ended = false }

-- a content is at most 16,777,216 bytes, since a file record has its size
pub content_small : (parts : List Part) (content : Carried) → All IsPart parts → IsContentOf parts content → length content.bytes ≤ CONTENT_LIMIT
content_small parts content valid is =
    let found = Any-from_list_any (has_record content.name (length content.bytes)) parts is.recorded in
    size_in_part content.name (length content.bytes) found.1 (All-contains IsPart parts found.1 valid (found.0, found.2, found.3)) found.4

pub content_texts : (contents : List Carried) → flat_map item_text (map content_item contents) ≡ flat_map content_bytes contents
content_texts [] = refl
content_texts (content ∷ contents) = ap (λ (l : List ℕ). content_bytes content ++ l) (content_texts contents)

name_front : (content : Carried) → length content.name ≡ 20 → take 20 (content_value content) ≡ content.name
name_front content twenty = ap (λ (n : ℕ). take n (content_value content)) (sym twenty) ∙ take-append_seam content.name content.bytes

-- the name of the last one, or what stood there before
abbrev last_from : Option (List ℕ) → List Carried → Option (List ℕ)
last_from last [] = last
last_from last (content ∷ contents) = last_from (Some content.name) contents

last_is : (last : Option (List ℕ)) (content : Carried) (contents : List Carried) → last_from last (content ∷ contents) ≡ last_name (content ∷ contents)
last_is last content [] = refl
last_is last content (next ∷ contents) = last_is (Some content.name) next contents

last_of : (contents : List Carried) → last_from None contents ≡ last_name contents
last_of [] = refl
last_of (content ∷ contents) = last_is None content contents

contents_behind : (items : List StreamItem) (last : Option (List ℕ)) (parts : List Part) (contents : List Carried) → All (IsContentOf parts) contents → progress_to (with_items items last) (map content_item contents) ≡ with_items items (last_from last contents)
contents_behind items last parts [] are = refl
contents_behind items last parts (content ∷ contents) are =
    ap (λ (name : List ℕ). progress_to (with_items items (Some name)) (map content_item contents)) (name_front content (All-head (IsContentOf parts) content contents are).twenty)
    ∙ contents_behind items (Some content.name) parts contents (All-tail (IsContentOf parts) content contents are)

pub contents_read : (parts : List Part) (contents : List Carried) → All (IsContentOf parts) contents → progress_to (with_parts parts) (map content_item contents) ≡ with_contents parts contents
contents_read parts contents are =
    contents_behind (map item_of parts) None parts contents are ∙ ap (with_items (map item_of parts)) (last_of contents)

content_expected : (few : Bool) (last : Option (List ℕ)) → IsTrue (is_expected (tags_after false few last) 0x12)
content_expected few (Some name) = refl
content_expected true None = refl
content_expected false None = refl

-- the item of a part that records the content
content_recorded : (parts : List Part) (content : Carried) → All IsPart parts → IsContentOf parts content → IsRecorded (map item_of parts) content.name (length content.bytes)
content_recorded parts content valid is =
    let found = Any-from_list_any (has_record content.name (length content.bytes)) parts is.recorded in
    record {
      item = item_of found.1;
      part = found.1;
      among = (found.0, omega (arith, length-map parts item_of, found.2), get_or-map item_of parts found.0 found.1 (item_of found.1) found.2 ∙ ap item_of found.3);
      is = record { valid = All-contains IsPart parts found.1 valid (found.0, found.2, found.3); tagged = refl; spelled = refl };
      has = found.4;
    }

content_next : (parts : List Part) (last : Option (List ℕ)) (content : Carried) → All IsPart parts → IsContentOf parts content → ComesAfter last content.name → IsNext (with_items (map item_of parts) last) (content_item content)
content_next parts last content valid is rises = record {
  expected = content_expected (nat_lt (length (map item_of parts)) PARTS_LIMIT) last;
  fits = omega (arith, length-append content.name content.bytes, is.twenty, content_small parts content valid is);
  good = inr (inl (record {
    content = content;
    tagged = refl;
    spelled = refl;
    hash = is.hash;
    twenty = is.twenty;
    recorded = content_recorded parts content valid is;
    rises = rises;
  }));
}

-- the first one, if there is one, comes after that name
abbrev IsFirstAfter : Option (List ℕ) → List Carried → Type 0
IsFirstAfter last [] = Unit {0}
IsFirstAfter last (content ∷ contents) = ComesAfter last content.name

first_after : (content : Carried) (contents : List Carried) → IsStrictlySortedBy content_cmp (content ∷ contents) → IsFirstAfter (Some content.name) contents
unfolding IsStrictlySortedBy
first_after content [] rising = tt
first_after content (next ∷ contents) rising = rising.0.0

rest_rising : (content : Carried) (contents : List Carried) → IsStrictlySortedBy content_cmp (content ∷ contents) → IsStrictlySortedBy content_cmp contents
unfolding IsStrictlySortedBy
rest_rising content contents rising = rising.1

contents_good_from : (parts : List Part) (last : Option (List ℕ)) (contents : List Carried) → All IsPart parts → All (IsContentOf parts) contents → IsStrictlySortedBy content_cmp contents → IsFirstAfter last contents → AreGood (with_items (map item_of parts) last) (map content_item contents)
contents_good_from parts last [] valid are rising first = tt
contents_good_from parts last (content ∷ contents) valid are rising first =
    let is = All-head (IsContentOf parts) content contents are in
    let more = contents_good_from parts (Some content.name) contents valid (All-tail (IsContentOf parts) content contents are) (rest_rising content contents rising) (first_after content contents rising) in (
      content_next parts last content valid is first,
      subst (λ (name : List ℕ). AreGood (with_items (map item_of parts) (Some name)) (map content_item contents)) (sym (name_front content is.twenty)) more,
    )

after_none : (contents : List Carried) → IsFirstAfter None contents
after_none [] = tt
after_none (content ∷ contents) = tt

pub contents_good : (parts : List Part) (contents : List Carried) → All IsPart parts → All (IsContentOf parts) contents → IsStrictlySortedBy content_cmp contents → AreGood (with_parts parts) (map content_item contents)
contents_good parts contents valid are rising = contents_good_from parts None contents valid are rising (after_none contents)
