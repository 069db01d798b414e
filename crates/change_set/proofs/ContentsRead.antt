-- What was read of a change set once contents were, and where the reader stops behind them.
use Rattle.std.proofs.Common.{◌≡◌, ◌≢◌, ◌⊎◌, inl, inr, ℕ, zero, suc, ◌+◌, ◌-◌, ◌<◌, ◌≤◌, Bool, true, false, nat_lt, IsTrue, All, List, [], ◌∷◌, ◌++◌, length, map, get_or, take, drop, Option, Some, None, Result, Err, IfErr, refl, sym, ap, ◌∙◌, subst, arith, append_assoc, append-nil, length-take, length-drop}
use Rattle.std.specs.Prelude.{slice_range, flat_map}
use Rattle.std.specs.Cmp.Lexicographic.{nat_list_cmp_total}
use Rattle.std.specs.List.{list_any, AllByRecursion}
use Rattle.std.specs.List.Sorted.{IsStrictlySortedBy}
use Rattle.std.specs.declared.cmp.Ordering.TheVariants.{Less}
use Rattle.std.proofs.Math.Seq.{drop-length}
use Rattle.std.proofs.lemmas.Bool.{false≢true}
use Rattle.std.proofs.lemmas.Grind.{flat_map-append}
use Rattle.std.proofs.lemmas.List.Elements.{All-push}
use Rattle.trove_stream.specs.cny-base.declared.limits.TheConstants.{CONTENT_ITEM_LIMIT, PARTS_LIMIT}
use Rattle.trove_stream.specs.cny-base.declared.refusal.Fault.{Fault}
use Rattle.trove_stream.specs.cny-base.declared.refusal.Fault.TheVariants as fault
use Rattle.trove_stream.specs.cny-base.declared.refusal.Refusal.{Refusal}
use Rattle.trove_stream.specs.cny-base.declared.refusal.Refusal.TheVariants.{Malformed}
use Rattle.cny_stream.specs.Item.{IsItemAt, item_bytes, is_expected}
use Rattle.cny_stream.proofs.ItemLaws.{same_item}
use Rattle.cny_stream.specs.declared.item.Item.{Item}
use Rattle.change_set.specs.declared.change.Part.{Part}
use Rattle.change_set.specs.declared.change.Part.TheVariants.{Whole, Relative}
use Rattle.change_set.specs.declared.change.Carried.{Carried}
use Rattle.change_set.specs.declared.recorded.Index.{Index}
use Rattle.change_set.specs.ChangeSet.{part_tag, part_bytes, has_record, content_bytes, content_cmp, IsContentOf, magic, IsSetStream}
use Rattle.change_set.specs.Contents.{content_tags, IfRefused, IsNoContent, IsNoNext, IsEndAt, IsNoEnd}
use Rattle.change_set.specs.Index.{IsIndexOf}
use Rattle.change_set.specs.FirstFault.{StreamItem, Progress, item_text, start, IsItemOf, ComesAfter, IsNextContent, IsEndItem, AreGood, progress_to, expected_tags, tags_after, NoneNext, StopsBehind, IsFirstFault, IsFaultOf, fault_of}
use Rattle.change_set.specs.Reading.{item_of, ArePartsTo, IsNextAt, last_name, IsNextOf, AreContentsTo}
use Rattle.change_set.proofs.Faults.{fault_of_whole}
use Rattle.change_set.proofs.GoodItems.{none_behind_end, end_item, end_expected, end_next}
use Rattle.change_set.proofs.Progress.{progress_then, good_then, part_texts, parts_read, parts_good, content_item, with_contents, content_texts, contents_read, contents_good}
use Rattle.change_set.proofs.SameSet.{IsOnlyPart, RelsDiffer, only_parts}
use Rattle.change_set.proofs.Small.{next_small}
use Rattle.trove_stream.proofs.Distinct.{TrovesDiffer}
use Rattle.trove_stream.proofs.cny-base.Bools.{or_left as left_true, or_right as right_true}

-- ---- one more content

all_above : (x y : Carried) (contents : List Carried) → content_cmp x y ≡ Less → AllByRecursion (λ z. content_cmp y z ≡ Less) contents → AllByRecursion (λ z. content_cmp x z ≡ Less) contents
all_above x y [] less all = tt
all_above x y (z ∷ contents) less all = (nat_list_cmp_total.trans x.name y.name z.name less all.0, all_above x y contents less all.1)

pub rising_push : (contents : List Carried) (content : Carried) → IsStrictlySortedBy content_cmp contents → ComesAfter (last_name contents) content.name → IsStrictlySortedBy content_cmp (contents ++ content ∷ [])
unfolding IsStrictlySortedBy
rising_push [] content rising after = (tt, tt)
rising_push (x ∷ []) content rising after = ((after, tt), (tt, tt))
rising_push (x ∷ y ∷ contents) content rising after =
    let rest = rising_push (y ∷ contents) content rising.1 after in
    ((rising.0.0, all_above x y (contents ++ content ∷ []) rising.0.0 rest.0), rest)

pub last_pushed : (contents : List Carried) (content : Carried) → last_name (contents ++ content ∷ []) ≡ Some content.name
last_pushed [] content = refl
last_pushed (x ∷ []) content = refl
last_pushed (x ∷ y ∷ contents) content = last_pushed (y ∷ contents) content

text_push : (contents : List Carried) (content : Carried) (here behind : List ℕ) → here ≡ content_bytes content ++ behind
    → flat_map content_bytes contents ++ here ≡ flat_map content_bytes (contents ++ content ∷ []) ++ behind
text_push [] content here behind is = is ∙ ap (λ (l : List ℕ). l ++ behind) (sym (append-nil (content_bytes content)))
text_push (x ∷ contents) content here behind is =
    append_assoc (content_bytes x) (flat_map content_bytes contents) here
    ∙ ap (λ (l : List ℕ). content_bytes x ++ l) (text_push contents content here behind is)
    ∙ sym (append_assoc (content_bytes x) (flat_map content_bytes (contents ++ content ∷ [])) behind)

-- contents were read up to `at`, strictly rising
pub record HasRead (bytes : List ℕ) (parts : List Part) (contents : List Carried) (at : ℕ) : Type 0 where
  pub read : AreContentsTo bytes parts contents at
  pub rising : IsStrictlySortedBy content_cmp contents

pub none_read : (bytes : List ℕ) (parts : List Part) (at : ℕ) → ArePartsTo bytes parts at → HasRead bytes parts [] at
unfolding IsStrictlySortedBy
none_read bytes parts at behind = record { read = record { within = behind.within; spelled = behind.spelled; valid = λ k d low. absurd (omega arith) }; rising = tt }

pub read_push : (bytes : List ℕ) (parts : List Part) (contents : List Carried) (content : Carried) (at from to : ℕ) → HasRead bytes parts contents at → IsItemAt bytes at 0x12 from to
    → IsNextOf parts (last_name contents) (slice_range bytes from to) content → HasRead bytes parts (contents ++ content ∷ []) to
read_push bytes parts contents content at from to so_far item next =
    let here : drop at bytes ≡ content_bytes content ++ drop to bytes = item.spelled ∙ ap (λ (v : List ℕ). item_bytes 0x12 v ++ drop to bytes) next.spelled in
    record {
      read = record {
        within = item.within;
        spelled = so_far.read.spelled ∙ ap (λ (l : List ℕ). magic ++ (flat_map part_bytes parts ++ l)) (text_push contents content (drop at bytes) (drop to bytes) here);
        valid = All-push (IsContentOf parts) contents content so_far.read.valid next.is;
      };
      rising = rising_push contents content so_far.rising next.rises;
    }

-- ---- the items that were read

abbrev pub items_to : List Part → List Carried → List StreamItem
items_to parts contents = map item_of parts ++ map content_item contents

pub items_text : (parts : List Part) (contents : List Carried) (rest : List ℕ) → flat_map item_text (items_to parts contents) ++ rest ≡ flat_map part_bytes parts ++ (flat_map content_bytes contents ++ rest)
items_text parts contents rest =
    ap (λ (l : List ℕ). l ++ rest) (flat_map-append item_text (map item_of parts) (map content_item contents))
    ∙ append_assoc (flat_map item_text (map item_of parts)) (flat_map item_text (map content_item contents)) rest
    ∙ ap (λ (l : List ℕ). l ++ (flat_map item_text (map content_item contents) ++ rest)) (part_texts parts)
    ∙ ap (λ (l : List ℕ). flat_map part_bytes parts ++ (l ++ rest)) (content_texts contents)

pub items_progress : (parts : List Part) (contents : List Carried) → All (IsContentOf parts) contents → progress_to start (items_to parts contents) ≡ with_contents parts contents
items_progress parts contents valid =
    progress_then start (map item_of parts) (map content_item contents)
    ∙ ap (λ (p : Progress). progress_to p (map content_item contents)) (parts_read parts)
    ∙ contents_read parts contents valid

pub items_good : (bytes : List ℕ) (parts : List Part) (contents : List Carried) (first at : ℕ) → ArePartsTo bytes parts first → HasRead bytes parts contents at → AreGood start (items_to parts contents)
items_good bytes parts contents first at behind so_far =
    good_then start (map item_of parts) (map content_item contents) (parts_good parts behind.valid behind.fits behind.few)
    (subst (λ (p : Progress). AreGood p (map content_item contents)) (sym (parts_read parts)) (contents_good parts contents behind.valid so_far.read.valid so_far.rising))

-- the bytes stop behind the contents
pub stops_here : (bytes : List ℕ) (parts : List Part) (contents : List Carried) (first at : ℕ) (refusal : Refusal) → ArePartsTo bytes parts first → HasRead bytes parts contents at
    → NoneNext (with_contents parts contents) (drop at bytes) → refusal ≡ fault_of (expected_tags (with_contents parts contents)) (length bytes) (drop at bytes) → StopsBehind bytes refusal
stops_here bytes parts contents first at refusal behind so_far none refused =
    let progress = items_progress parts contents so_far.read.valid in
    record {
      items = items_to parts contents;
      rest = drop at bytes;
      spelled = so_far.read.spelled ∙ ap (λ (l : List ℕ). magic ++ l) (sym (items_text parts contents (drop at bytes)));
      good = items_good bytes parts contents first at behind so_far;
      stops = subst (λ (p : Progress). NoneNext p (drop at bytes)) (sym progress) none;
      goes_on = λ ended. absurd (false≢true (sym (ap (λ (p : Progress). p.ended) progress) ∙ ended));
      refused = refused ∙ ap (λ (p : Progress). fault_of (expected_tags p) (length bytes) (drop at bytes)) (sym progress);
    }

-- ---- good contents are those of the parts

recorded_at : (parts : List Part) (k : ℕ) (item : StreamItem) (part : Part) (name : List ℕ) (size : ℕ) → All IsOnlyPart parts → k < length (map item_of parts) → get_or (map item_of parts) k item ≡ item
    → IsItemOf part item → IsTrue (has_record name size part) → IsTrue (list_any (has_record name size) parts)
recorded_at [] k item part name size only low here is has = absurd (omega arith)
recorded_at (p ∷ parts) zero item part name size only low here is has =
    let same : part ≡ p = only 0 p (omega arith) part (subst (IsItemOf part) (sym here) is) in
    left_true (has_record name size p) (list_any (has_record name size) parts) (ap (has_record name size) (sym same) ∙ has)
recorded_at (p ∷ parts) (suc k) item part name size only low here is has =
    right_true (has_record name size p) (list_any (has_record name size) parts)
    (recorded_at parts k item part name size (λ j d below. only (suc j) d (omega arith)) (omega arith) here is has)

next_of_parts : (parts : List Part) (contents : List Carried) (item : StreamItem) → All IsOnlyPart parts → IsNextContent (with_contents parts contents) item
    → (content : Carried) × IsNextOf parts (last_name contents) item.value content
next_of_parts parts contents item only next =
    let content : Carried = next.content in
    let among = next.recorded.among in
    let recorded = recorded_at parts among.0 next.recorded.item next.recorded.part content.name (length content.bytes) only among.1 among.2 next.recorded.is next.recorded.has in
    (content, record { spelled = next.spelled; is = record { hash = next.hash; twenty = next.twenty; recorded = recorded }; rises = next.rises })

-- ---- what isn't a next item

no_part_tag : (part : Part) (tag : ℕ) → tag ≡ part_tag part → (tag ≡ 0x12) ⊎ (tag ≡ 0x1F) → ⊥
no_part_tag (Whole trove) tag is (inl t) = absurd (omega arith)
no_part_tag (Whole trove) tag is (inr t) = absurd (omega arith)
no_part_tag (Relative rel) tag is (inl t) = absurd (omega arith)
no_part_tag (Relative rel) tag is (inr t) = absurd (omega arith)

-- a good next item under the tag of a content
good_content : (parts : List Part) (contents : List Carried) (item : StreamItem) → All IsOnlyPart parts → item.tag ≡ 0x12
    → (((part : Part) × IsItemOf part item) ⊎ IsNextContent (with_contents parts contents) item ⊎ IsEndItem item) → (content : Carried) × IsNextOf parts (last_name contents) item.value content
good_content parts contents item only tagged (inl part) = absurd (no_part_tag part.0 item.tag part.1.tagged (inl tagged))
good_content parts contents item only tagged (inr (inl next)) = next_of_parts parts contents item only next
good_content parts contents item only tagged (inr (inr end)) = absurd (omega (arith, end.0))

-- a good next item under the tag of the end
good_end : (parts : List Part) (contents : List Carried) (item : StreamItem) → item.tag ≡ 0x1F
    → (((part : Part) × IsItemOf part item) ⊎ IsNextContent (with_contents parts contents) item ⊎ IsEndItem item) → item.value ≡ []
good_end parts contents item tagged (inl part) = absurd (no_part_tag part.0 item.tag part.1.tagged (inr tagged))
good_end parts contents item tagged (inr (inl next)) = absurd (omega (arith, next.tagged))
good_end parts contents item tagged (inr (inr end)) = end.1

expected_content : (few : Bool) (last : Option (List ℕ)) → is_expected (tags_after false few last) 0x12 ≡ true
expected_content true None = refl
expected_content false None = refl
expected_content few (Some name) = refl

tags_last : (few : Bool) (last : Option (List ℕ)) (name : List ℕ) → last ≡ Some name → tags_after false few last ≡ content_tags
tags_last few None name is = absurd (cc)
tags_last few (Some last) name is = refl

counted : (bytes : List ℕ) (at : ℕ) → at ≤ length bytes → at + length (drop at bytes) ≡ length bytes
counted bytes at within = omega (arith, length-drop at bytes)

range_length : (bytes : List ℕ) (from to : ℕ) → from ≤ to → to ≤ length bytes → from + length (slice_range bytes from to) ≡ to
range_length bytes from to order within = omega (arith, length-take (to - from) (drop from bytes), length-drop from bytes)

-- ---- the four ways to stop

-- the item of a content that is no next one
pub stops_at_content : TrovesDiffer → RelsDiffer → (bytes : List ℕ) (parts : List Part) (contents : List Carried) (first at from to : ℕ) → ArePartsTo bytes parts first → HasRead bytes parts contents at
    → IsItemAt bytes at 0x12 from to → to ≤ from + CONTENT_ITEM_LIMIT → ((content : Carried) → IsNextOf parts (last_name contents) (slice_range bytes from to) content → ⊥) → StopsBehind bytes (Malformed at)
stops_at_content troves rels bytes parts contents first at from to behind so_far is small none =
    let long = range_length bytes from to is.order is.within in
    stops_here bytes parts contents first at (Malformed at) behind so_far
    (λ item rest e next.
    let same = same_item 0x12 item.tag (slice_range bytes from to) item.value (drop to bytes) rest is.fits next.fits (sym is.spelled ∙ e) in
    let good = good_content parts contents item (only_parts troves rels parts behind.valid) (sym same.tags) next.good in
    none good.0 (subst (λ (v : List ℕ). IsNextOf parts (last_name contents) v good.0) (sym same.values) good.1))
    (sym (fault_of_whole bytes (expected_tags (with_contents parts contents)) at 0x12 from to so_far.read.within is
    (expected_content (nat_lt (length (map item_of parts)) PARTS_LIMIT) (last_name contents)) (λ _. omega arith)))

-- no whole item of a content or the end, behind a content
pub stops_at_none : (bytes : List ℕ) (parts : List Part) (contents : List Carried) (content : Carried) (first at : ℕ) (refusal : Refusal) → ArePartsTo bytes parts first → HasRead bytes parts (contents ++ content ∷ []) at
    → IsNoNext bytes at refusal → StopsBehind bytes refusal
stops_at_none bytes parts contents content first at refusal behind so_far stop =
    let all : List Carried = contents ++ content ∷ [] in
    let tags : expected_tags (with_contents parts all) ≡ content_tags = tags_last (nat_lt (length (map item_of parts)) PARTS_LIMIT) (last_name all) content.name (last_pushed contents content) in
    stops_here bytes parts all first at refusal behind so_far
    (λ item rest e next.
    stop.none item.tag item.value rest (subst (λ (t : List ℕ). IsTrue (is_expected t item.tag)) tags next.expected) next.fits
    (next_small (with_contents parts all) item next)
    e)
    (stop.refused ∙ ap (λ (t : List ℕ). fault_of t (length bytes) (drop at bytes)) (sym tags))

-- an end that isn't empty
pub stops_at_end : (bytes : List ℕ) (parts : List Part) (contents : List Carried) (first at from to : ℕ) → ArePartsTo bytes parts first → HasRead bytes parts contents at
    → IsItemAt bytes at 0x1F from to → from ≢ to → StopsBehind bytes (Malformed at)
stops_at_end bytes parts contents first at from to behind so_far is some =
    let long = range_length bytes from to is.order is.within in
    stops_here bytes parts contents first at (Malformed at) behind so_far
    (λ item rest e next.
    let same = same_item 0x1F item.tag (slice_range bytes from to) item.value (drop to bytes) rest is.fits next.fits (sym is.spelled ∙ e) in
    let empty = good_end parts contents item (sym same.tags) next.good in
    some (omega (arith, ap length (same.values ∙ empty))))
    (sym (fault_of_whole bytes (expected_tags (with_contents parts contents)) at 0x1F from to so_far.read.within is
    (end_expected false (nat_lt (length (map item_of parts)) PARTS_LIMIT) (last_name contents) refl) (λ t. absurd (omega arith))))

-- ---- behind the end

abbrev with_end : List Part → List Carried → Progress
with_end parts contents = record { parts = map item_of parts; last = last_name contents; ended = true }

-- behind the end the first further byte is at fault
fault_behind : (total at : ℕ) (rest : List ℕ) → rest ≢ [] → at + length rest ≡ total → fault_of [] total rest ≡ Malformed at
fault_behind total at [] some counted = absurd (some refl)
fault_behind total at (x ∷ rest) some counted = let place : total - length (x ∷ rest) ≡ at = omega arith in ap Malformed place

-- the end of a set, as it stands in the bytes
end_spelled : (bytes : List ℕ) (at from to : ℕ) → IsItemAt bytes at 0x1F from to → from ≡ to → drop at bytes ≡ item_bytes 0x1F [] ++ drop to bytes
end_spelled bytes at from to is empty =
    let none : to - from ≡ 0 = omega arith in
    is.spelled ∙ ap (λ (n : ℕ). item_bytes 0x1F (take n (drop from bytes)) ++ drop to bytes) none

-- bytes behind the end
pub stops_behind_end : (bytes : List ℕ) (parts : List Part) (contents : List Carried) (first at from to : ℕ) → ArePartsTo bytes parts first → HasRead bytes parts contents at
    → IsItemAt bytes at 0x1F from to → from ≡ to → to ≢ length bytes → StopsBehind bytes (Malformed to)
stops_behind_end bytes parts contents first at from to behind so_far is empty more =
    let before : List StreamItem = items_to parts contents in
    let progress : progress_to start (before ++ end_item ∷ []) ≡ with_end parts contents =
    progress_then start before (end_item ∷ []) ∙ ap (λ (p : Progress). progress_to p (end_item ∷ [])) (items_progress parts contents so_far.read.valid) in
    let some : drop to bytes ≢ [] = λ e. more (omega (arith, ap length e, length-drop to bytes, is.within)) in
    record {
      items = before ++ end_item ∷ [];
      rest = drop to bytes;
      spelled = so_far.read.spelled ∙ ap (λ (l : List ℕ). magic ++ (flat_map part_bytes parts ++ (flat_map content_bytes contents ++ l))) (end_spelled bytes at from to is empty)
          ∙ ap (λ (l : List ℕ). magic ++ l)
          (sym (items_text parts contents (item_bytes 0x1F [] ++ drop to bytes))
          ∙ sym (append_assoc (flat_map item_text before) (item_bytes 0x1F []) (drop to bytes))
          ∙ ap (λ (l : List ℕ). l ++ drop to bytes) (sym (flat_map-append item_text before (end_item ∷ []))));
      good = good_then start before (end_item ∷ []) (items_good bytes parts contents first at behind so_far)
          (subst (λ (p : Progress). AreGood p (end_item ∷ [])) (sym (items_progress parts contents so_far.read.valid)) (end_next (with_contents parts contents) refl, tt));
      stops = subst (λ (p : Progress). NoneNext p (drop to bytes)) (sym progress) (none_behind_end (with_end parts contents) (drop to bytes) refl);
      goes_on = λ _. some;
      refused = sym (fault_behind (length bytes) to (drop to bytes) some (counted bytes to is.within))
          ∙ ap (λ (p : Progress). fault_of (expected_tags p) (length bytes) (drop to bytes)) (sym progress);
    }

-- the whole set was read
pub set_read : (bytes : List ℕ) (parts : List Part) (contents : List Carried) (first at from to : ℕ) → ArePartsTo bytes parts first → HasRead bytes parts contents at
    → IsItemAt bytes at 0x1F from to → from ≡ to → to ≡ length bytes → IsSetStream (record { parts = parts; contents = contents }) bytes
set_read bytes parts contents first at from to behind so_far is empty last =
    let done : drop to bytes ≡ [] = ap (λ (n : ℕ). drop n bytes) last ∙ drop-length bytes in
    let here : drop at bytes ≡ item_bytes 0x1F [] = end_spelled bytes at from to is empty ∙ ap (λ (l : List ℕ). item_bytes 0x1F [] ++ l) done ∙ append-nil (item_bytes 0x1F []) in
    record {
      set_is = record {
        few = behind.few;
        parts = behind.valid;
        fits = behind.fits;
        has_contents = record { contents = so_far.read.valid; rising = so_far.rising };
      };
      text = so_far.read.spelled ∙ ap (λ (l : List ℕ). magic ++ (flat_map part_bytes parts ++ (flat_map content_bytes contents ++ l))) here;
    }

-- ---- the loop

-- contents were read up to `at`, where this item is
pub record IsReading (bytes : List ℕ) (parts : List Part) (contents : List Carried) (at : ℕ) (item : Item) : Type 0 where
  pub so_far : HasRead bytes parts contents at
  pub next : IsNextAt bytes at item

item_under : (bytes : List ℕ) (at tag : ℕ) (item : Item) → item.tag ≡ tag → IsItemAt bytes at item.tag item.from item.to → IsItemAt bytes at tag item.from item.to
item_under bytes at tag item tagged is = subst (λ (t : ℕ). IsItemAt bytes at t item.from item.to) tagged is

pub read_more : (bytes : List ℕ) (parts : List Part) (given contents : List Carried) (at : ℕ) (item : Item) (content : Carried) → given ≡ contents → IsReading bytes parts contents at item → item.tag ≡ 0x12
    → IsNextOf parts (last_name given) (slice_range bytes item.from item.to) content → HasRead bytes parts (contents ++ content ∷ []) item.to
read_more bytes parts given contents at item content same reading tagged next =
    read_push bytes parts contents content at item.from item.to reading.so_far (item_under bytes at 0x12 item tagged reading.next.is)
    (subst (λ (l : List Carried). IsNextOf parts (last_name l) (slice_range bytes item.from item.to) content) same next)

pub content_stops : TrovesDiffer → RelsDiffer → (bytes : List ℕ) (parts : List Part) (index : Index) (given contents : List Carried) (first at : ℕ) (item : Item) (refusal : Refusal) → given ≡ contents
    → ArePartsTo bytes parts first → IsReading bytes parts contents at item → item.tag ≡ 0x12 → IsIndexOf parts index
    → IsNoContent index (last_name given) (slice_range bytes item.from item.to) at refusal → IsFirstFault bytes refusal
content_stops troves rels bytes parts index given contents first at item refusal same behind reading tagged indexed stop =
    inr (subst (StopsBehind bytes) (sym stop.refused)
    (stops_at_content troves rels bytes parts contents first at item.from item.to behind reading.so_far (item_under bytes at 0x12 item tagged reading.next.is) (reading.next.small tagged)
    (λ content next. stop.none parts indexed content (subst (λ (l : List Carried). IsNextOf parts (last_name l) (slice_range bytes item.from item.to) content) (sym same) next))))

pub none_stops : (bytes : List ℕ) (parts : List Part) (contents : List Carried) (content : Carried) (first at : ℕ) (refusal : Refusal) → ArePartsTo bytes parts first
    → HasRead bytes parts (contents ++ content ∷ []) at → IsNoNext bytes at refusal → IsFirstFault bytes refusal
none_stops bytes parts contents content first at refusal behind so_far stop = inr (stops_at_none bytes parts contents content first at refusal behind so_far stop)

end_tag : (tag : ℕ) → (tag ≡ 0x12) ⊎ (tag ≡ 0x1F) → (tag ≡ 0x12 → ⊥) → tag ≡ 0x1F
end_tag tag (inl is) other = absurd (other is)
end_tag tag (inr is) other = is

pub end_stops : (bytes : List ℕ) (parts : List Part) (contents : List Carried) (first at : ℕ) (item : Item) (refusal : Refusal) → ArePartsTo bytes parts first
    → IsReading bytes parts contents at item → (item.tag ≡ 0x12 → ⊥) → IsNoEnd bytes at item refusal → IsFirstFault bytes refusal
end_stops bytes parts contents first at item refusal behind reading other (inl stop) =
    let is = item_under bytes at 0x1F item (end_tag item.tag reading.next.tagged other) reading.next.is in
    inr (subst (StopsBehind bytes) (sym stop.0) (stops_at_end bytes parts contents first at item.from item.to behind reading.so_far is stop.1))
end_stops bytes parts contents first at item refusal behind reading other (inr stop) =
    let is = item_under bytes at 0x1F item (end_tag item.tag reading.next.tagged other) reading.next.is in
    inr (subst (StopsBehind bytes) (sym stop.0) (stops_behind_end bytes parts contents first at item.from item.to behind reading.so_far is stop.1 stop.2))

pub all_read : (bytes : List ℕ) (parts : List Part) (contents : List Carried) (first at : ℕ) (item : Item) → ArePartsTo bytes parts first
    → IsReading bytes parts contents at item → (item.tag ≡ 0x12 → ⊥) → IsEndAt bytes item → IsSetStream (record { parts = parts; contents = contents }) bytes
all_read bytes parts contents first at item behind reading other end =
    set_read bytes parts contents first at item.from item.to behind reading.so_far
    (item_under bytes at 0x1F item (end_tag item.tag reading.next.tagged other) reading.next.is) end.empty end.last

-- a fault that is handed on is the first one
pub handed_on : {T : Type 0} (bytes : List ℕ) (P : Refusal → Type 0) (r : Result T Fault) (met : Fault) → ((e : Fault) × (r ≡ Err e) × (e ≡ met))
    → IfRefused P met → ((refusal : Refusal) → P refusal → IsFirstFault bytes refusal) → IfErr r (IsFaultOf bytes)
handed_on {T} bytes P r met given holds first =
    subst (λ (o : Result T Fault). IfErr o (IsFaultOf bytes)) (sym given.1) (subst (IsFaultOf bytes) (sym given.2) (told met holds))
  where
    told : (f : Fault) → IfRefused P f → IsFaultOf bytes f
    told (fault.Refused refusal) is = first refusal is
    told fault.Memory is = tt
