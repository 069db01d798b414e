-- A change set that grows by a part or a content, and its stream without the end.
use Rattle.std.proofs.Common.{◌≡◌, ℕ, ◌<◌, List, [], ◌∷◌, ◌++◌, length, drop, sym, ap, ◌∙◌, subst, arith, append_assoc, append-nil, length-append}
use Rattle.std.specs.Prelude.{flat_map}
use Rattle.std.specs.List.Sorted.{IsStrictlySortedBy}
use Rattle.std.proofs.Math.Seq.{drop-append_seam}
use Rattle.std.proofs.lemmas.Grind.{flat_map-append}
use Rattle.std.proofs.lemmas.List.Elements.{All-push}
use Rattle.change_set.specs.cny-base.declared.limits.TheConstants.{PARTS_LIMIT}
use Rattle.cny_stream.specs.Item.{FitsItem, item_bytes}
use Rattle.change_set.specs.declared.change.Part.{Part}
use Rattle.change_set.specs.declared.change.Carried.{Carried}
use Rattle.change_set.specs.declared.change.ChangeSet.{ChangeSet}
use Rattle.change_set.specs.ChangeSet.{IsPart, FitsPart, part_tag, part_bytes, content_bytes, IsContentOf, IsChangeSet, IsSetStream, end_bytes, change_bytes, magic}
use Rattle.change_set.specs.FirstFault.{IsItemOf}
use Rattle.change_set.specs.Reading.{ArePartsTo, IsNextOf, last_name}
use Rattle.change_set.proofs.ContentsRead.{HasRead, rising_push}
use Rattle.change_pull.specs.Front.{front_bytes}
use Rattle.change_pull.specs.Open.{no_set}

-- ---- what follows the items

-- the stream of a set's items, and what stands behind them
pub regrouped : (set : ChangeSet) (rest : List ℕ) → front_bytes set ++ rest ≡ magic ++ (flat_map part_bytes set.parts ++ (flat_map content_bytes set.contents ++ rest))
regrouped set rest =
    append_assoc magic (flat_map part_bytes set.parts ++ flat_map content_bytes set.contents) rest
    ∙ ap (λ (l : List ℕ). magic ++ l) (append_assoc (flat_map part_bytes set.parts) (flat_map content_bytes set.contents) rest)

pub with_end_item : (set : ChangeSet) → front_bytes set ++ end_bytes ≡ change_bytes set
with_end_item set = regrouped set end_bytes

-- how far the parts reach
abbrev pub parts_end : ChangeSet → ℕ
parts_end set = length (magic ++ flat_map part_bytes set.parts)

pub parts_to : (set : ChangeSet) (rest : List ℕ) → IsChangeSet set → ArePartsTo (front_bytes set ++ rest) set.parts (parts_end set)
parts_to set rest is =
    let front : List ℕ = magic ++ flat_map part_bytes set.parts in
    let behind : List ℕ = flat_map content_bytes set.contents ++ rest in
    let all : front_bytes set ++ rest ≡ front ++ behind = regrouped set rest ∙ sym (append_assoc magic (flat_map part_bytes set.parts) behind) in
    record {
      within = omega (arith, ap length all, length-append front behind);
      spelled = regrouped set rest ∙ ap (λ (l : List ℕ). magic ++ (flat_map part_bytes set.parts ++ l)) (sym (ap (drop (length front)) all ∙ drop-append_seam front behind));
      few = is.few;
      valid = is.parts;
      fits = is.fits;
    }

pub read_to : (set : ChangeSet) (rest : List ℕ) → IsChangeSet set → HasRead (front_bytes set ++ rest) set.parts set.contents (length (front_bytes set))
read_to set rest is = record {
  read = record {
    within = omega (arith, length-append (front_bytes set) rest);
    spelled = regrouped set rest ∙ ap (λ (l : List ℕ). magic ++ (flat_map part_bytes set.parts ++ (flat_map content_bytes set.contents ++ l))) (sym (drop-append_seam (front_bytes set) rest));
    valid = is.has_contents.contents;
  };
  rising = is.has_contents.rising;
}

-- ---- one more

pub no_set_is : IsChangeSet no_set
unfolding IsStrictlySortedBy
no_set_is = record {
  few = omega arith;
  parts = λ k d low. absurd (omega arith);
  fits = λ k d low. absurd (omega arith);
  has_contents = record { contents = λ k d low. absurd (omega arith); rising = tt };
}

-- the set with one more part
abbrev pub with_part : List Part → Part → ChangeSet
with_part parts part = record { parts = parts ++ part ∷ []; contents = [] }

abbrev pub with_content : ChangeSet → Carried → ChangeSet
with_content set content = record { parts = set.parts; contents = set.contents ++ content ∷ [] }

pub part_more : (set : ChangeSet) (part : Part) (tag : ℕ) (value : List ℕ) → IsChangeSet set → set.contents ≡ [] → length set.parts < PARTS_LIMIT → FitsItem value → IsItemOf part (record { tag = tag; value = value })
    → IsChangeSet (with_part set.parts part)
unfolding IsStrictlySortedBy
part_more set part tag value is alone few fits item = record {
  few = omega (arith, length-append set.parts (part ∷ []));
  parts = All-push IsPart set.parts part is.parts item.valid;
  fits = All-push FitsPart set.parts part is.fits (subst FitsItem item.spelled fits);
  has_contents = record { contents = λ k d low. absurd (omega arith); rising = tt };
}

pub part_front : (set : ChangeSet) (part : Part) (tag : ℕ) (value : List ℕ) → set.contents ≡ [] → IsItemOf part (record { tag = tag; value = value })
    → front_bytes set ++ item_bytes tag value ≡ front_bytes (with_part set.parts part)
part_front set part tag value alone item =
    let same : item_bytes tag value ≡ part_bytes part = ap (λ (t : ℕ). item_bytes t value) item.tagged ∙ ap (item_bytes (part_tag part)) item.spelled in
    let bare : flat_map content_bytes set.contents ≡ [] = ap (flat_map content_bytes) alone in
    let parts : List ℕ = flat_map part_bytes set.parts in
    ap (λ (l : List ℕ). (magic ++ (parts ++ l)) ++ item_bytes tag value) bare
    ∙ ap (λ (l : List ℕ). (magic ++ l) ++ item_bytes tag value) (append-nil parts)
    ∙ append_assoc magic parts (item_bytes tag value)
    ∙ ap (λ (l : List ℕ). magic ++ (parts ++ l)) (same ∙ sym (append-nil (part_bytes part)))
    ∙ ap (λ (l : List ℕ). magic ++ l) (sym (flat_map-append part_bytes set.parts (part ∷ [])))
    ∙ ap (λ (l : List ℕ). magic ++ l) (sym (append-nil (flat_map part_bytes (set.parts ++ part ∷ []))))

pub content_more : (set : ChangeSet) (content : Carried) (value : List ℕ) → IsChangeSet set → IsNextOf set.parts (last_name set.contents) value content → IsChangeSet (with_content set content)
content_more set content value is next = record {
  few = is.few;
  parts = is.parts;
  fits = is.fits;
  has_contents = record {
    contents = All-push (IsContentOf set.parts) set.contents content is.has_contents.contents next.is;
    rising = rising_push set.contents content is.has_contents.rising next.rises;
  };
}

pub content_front : (set : ChangeSet) (content : Carried) (value : List ℕ) → IsNextOf set.parts (last_name set.contents) value content
    → front_bytes set ++ item_bytes 0x12 value ≡ front_bytes (with_content set content)
content_front set content value next =
    let parts : List ℕ = flat_map part_bytes set.parts in
    let contents : List ℕ = flat_map content_bytes set.contents in
    regrouped set (item_bytes 0x12 value)
    ∙ ap (λ (v : List ℕ). magic ++ (parts ++ (contents ++ item_bytes 0x12 v))) next.spelled
    ∙ ap (λ (l : List ℕ). magic ++ (parts ++ (contents ++ l))) (sym (append-nil (content_bytes content)))
    ∙ ap (λ (l : List ℕ). magic ++ (parts ++ l)) (sym (flat_map-append content_bytes set.contents (content ∷ [])))

-- a whole set
pub whole_set : (set : ChangeSet) (bytes : List ℕ) → IsChangeSet set → bytes ≡ change_bytes set → IsSetStream set bytes
whole_set set bytes is text = record { set_is = is; text = text }
