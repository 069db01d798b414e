-- The one reading of bytes as good items and a rest.
use Rattle.std.proofs.Common.{◌≡◌, ℕ, Bool, true, false, inl, inr, nat_lt, List, [], ◌∷◌, ◌++◌, length, map, Option, Some, None, refl, sym, ◌∙◌, ap, subst, arith, append_assoc, append-nil}
use Rattle.std.specs.Prelude.{flat_map, IsTrue}
use Rattle.std.proofs.lemmas.Bool.{false≢true}
use Rattle.std.proofs.lemmas.Grind.{flat_map-append}
use Rattle.std.proofs.lemmas.List.{append_cancel_left}
use Rattle.trove_stream.specs.cny-base.declared.limits.TheConstants.{PARTS_LIMIT}
use Rattle.trove_stream.specs.cny-base.Below.{begins_with}
use Rattle.trove_stream.proofs.cny-base.Below.{begins}
use Rattle.trove_stream.specs.cny-base.declared.refusal.Refusal.{Refusal}
use Rattle.cny_stream.specs.Item.{is_expected}
use Rattle.cny_stream.proofs.ItemLaws.{same_item}
use Rattle.change_set.specs.declared.change.ChangeSet.{ChangeSet}
use Rattle.change_set.specs.ChangeSet.{magic, end_bytes, part_bytes, content_bytes, change_bytes, IsChangeSet, IsSetStream}
use Rattle.change_set.specs.FirstFault.{StreamItem, Progress, item_text, start, tags_after, expected_tags, IsNext, progress_after, AreGood, progress_to, NoneNext, fault_of, StopsBehind, IsFirstFault}
use Rattle.change_set.specs.Reading.{item_of}
use Rattle.change_set.proofs.Progress.{progress_then, good_then, with_parts, part_texts, parts_read, parts_good, content_item, with_contents, content_texts, contents_read, contents_good}

-- ---- one list of items

abbrev pub stream_item : ℕ → List ℕ → StreamItem
stream_item tag value = record { tag = tag; value = value }

-- good items behind which no good one follows are the only ones that spell the bytes, and so is what stands behind them
pub same_items : (p : Progress) (xs ys : List StreamItem) (r q : List ℕ) → AreGood p xs → AreGood p ys → NoneNext (progress_to p xs) r → NoneNext (progress_to p ys) q → flat_map item_text xs ++ r ≡ flat_map item_text ys ++ q → (xs ≡ ys) × (r ≡ q)
same_items p [] [] r q xs_good ys_good r_none q_none e = (refl, e)
same_items p [] (y ∷ ys) r q xs_good ys_good r_none q_none e =
    absurd (r_none y (flat_map item_text ys ++ q) (e ∙ append_assoc (item_text y) (flat_map item_text ys) q) ys_good.0)
same_items p (x ∷ xs) [] r q xs_good ys_good r_none q_none e =
    absurd (q_none x (flat_map item_text xs ++ r) (sym e ∙ append_assoc (item_text x) (flat_map item_text xs) r) xs_good.0)
same_items p (x ∷ xs) (y ∷ ys) r q xs_good ys_good r_none q_none e =
    let heads = same_item x.tag y.tag x.value y.value (flat_map item_text xs ++ r) (flat_map item_text ys ++ q) xs_good.0.fits ys_good.0.fits (sym (append_assoc (item_text x) (flat_map item_text xs) r) ∙ e ∙ append_assoc (item_text y) (flat_map item_text ys) q) in
    let same : x ≡ y = ap (λ (tag : ℕ). stream_item tag x.value) heads.tags ∙ ap (stream_item y.tag) heads.values in
    let good : AreGood (progress_after p x) ys = subst (λ (z : StreamItem). AreGood (progress_after p z) ys) (sym same) ys_good.1 in
    let none : NoneNext (progress_to (progress_after p x) ys) q = subst (λ (z : StreamItem). NoneNext (progress_to (progress_after p z) ys) q) (sym same) q_none in
    let tails = same_items (progress_after p x) xs ys r q xs_good.1 good r_none none heads.rests in
    (ap (λ (l : List StreamItem). x ∷ l) tails.0 ∙ ap (λ (z : StreamItem). z ∷ ys) same, tails.1)

-- behind the end no item is a good next one
pub none_behind_end : (p : Progress) (bytes : List ℕ) → p.ended ≡ true → NoneNext p bytes
none_behind_end p bytes ended item rest spelled next =
    false≢true (subst (λ (b : Bool). IsTrue (is_expected (tags_after b (nat_lt (length p.parts) PARTS_LIMIT) p.last) item.tag)) ended next.expected)

-- ---- the items of a change set

abbrev pub end_item : StreamItem
end_item = stream_item 0x1F []

abbrev behind_parts : ChangeSet → List StreamItem
behind_parts set = map content_item set.contents ++ end_item ∷ []

abbrev items_of : ChangeSet → List StreamItem
items_of set = map item_of set.parts ++ behind_parts set

items_text : (set : ChangeSet) → magic ++ (flat_map item_text (items_of set) ++ []) ≡ change_bytes set
items_text set =
    let behind : flat_map item_text (behind_parts set) ≡ flat_map content_bytes set.contents ++ end_bytes =
    flat_map-append item_text (map content_item set.contents) (end_item ∷ []) ∙ ap (λ (l : List ℕ). l ++ end_bytes) (content_texts set.contents) in
    let text : flat_map item_text (items_of set) ++ [] ≡ flat_map part_bytes set.parts ++ (flat_map content_bytes set.contents ++ end_bytes) =
    append-nil (flat_map item_text (items_of set))
    ∙ flat_map-append item_text (map item_of set.parts) (behind_parts set)
    ∙ ap (λ (l : List ℕ). l ++ flat_map item_text (behind_parts set)) (part_texts set.parts)
    ∙ ap (λ (l : List ℕ). flat_map part_bytes set.parts ++ l) behind in
    ap (λ (l : List ℕ). magic ++ l) text

pub end_expected : (ended few : Bool) (last : Option (List ℕ)) → ended ≡ false → IsTrue (is_expected (tags_after ended few last) 0x1F)
end_expected true few last open_ = absurd (false≢true (sym open_))
end_expected false few (Some name) open_ = refl
end_expected false true None open_ = refl
end_expected false false None open_ = refl

-- the end may follow, until it is there
pub end_next : (p : Progress) → p.ended ≡ false → IsNext p end_item
end_next p open_ = record {
  expected = end_expected p.ended (nat_lt (length p.parts) PARTS_LIMIT) p.last open_;
  fits = omega arith;
  good = inr (inr (refl, refl));
}

items_good : (set : ChangeSet) → IsChangeSet set → AreGood start (items_of set)
items_good set is =
    let contents = is.has_contents.contents in
    let last = subst (λ (p : Progress). AreGood p (end_item ∷ [])) (sym (contents_read set.parts set.contents contents)) (end_next (with_contents set.parts set.contents) refl, tt) in
    let behind = good_then (with_parts set.parts) (map content_item set.contents) (end_item ∷ []) (contents_good set.parts set.contents is.parts contents is.has_contents.rising) last in
    good_then start (map item_of set.parts) (behind_parts set) (parts_good set.parts is.parts is.fits is.few) (subst (λ (p : Progress). AreGood p (behind_parts set)) (sym (parts_read set.parts)) behind)

items_ended : (set : ChangeSet) → IsChangeSet set → (progress_to start (items_of set)).ended ≡ true
items_ended set is =
    let read : progress_to start (items_of set) ≡ progress_after (with_contents set.parts set.contents) end_item =
    progress_then start (map item_of set.parts) (behind_parts set)
    ∙ ap (λ (p : Progress). progress_to p (behind_parts set)) (parts_read set.parts)
    ∙ progress_then (with_parts set.parts) (map content_item set.contents) (end_item ∷ [])
    ∙ ap (λ (p : Progress). progress_to p (end_item ∷ [])) (contents_read set.parts set.contents is.has_contents.contents) in
    ap (λ (p : Progress). p.ended) read

-- ---- the first fault

has_magic : (bytes rest : List ℕ) → bytes ≡ magic ++ rest → begins_with magic bytes ≡ true
has_magic bytes rest spelled = ap (begins_with magic) spelled ∙ begins magic rest

stops_once : (bytes : List ℕ) (refusal refusal' : Refusal) → StopsBehind bytes refusal → StopsBehind bytes refusal' → refusal ≡ refusal'
stops_once bytes refusal refusal' a b =
    let same = same_items start a.items b.items a.rest b.rest a.good b.good a.stops b.stops (append_cancel_left magic (flat_map item_text a.items ++ a.rest) (flat_map item_text b.items ++ b.rest) (sym a.spelled ∙ b.spelled)) in
    a.refused
    ∙ ap (λ (items : List StreamItem). fault_of (expected_tags (progress_to start items)) (length bytes) a.rest) same.0
    ∙ ap (fault_of (expected_tags (progress_to start b.items)) (length bytes)) same.1
    ∙ sym b.refused

pub one_refusal : (bytes : List ℕ) (refusal refusal' : Refusal) → IsFirstFault bytes refusal → IsFirstFault bytes refusal' → refusal ≡ refusal'
one_refusal bytes refusal refusal' (inl a) (inl b) = a.refused ∙ sym b.refused
one_refusal bytes refusal refusal' (inl a) (inr b) = absurd (false≢true (sym a.lacks ∙ has_magic bytes (flat_map item_text b.items ++ b.rest) b.spelled))
one_refusal bytes refusal refusal' (inr a) (inl b) = absurd (false≢true (sym b.lacks ∙ has_magic bytes (flat_map item_text a.items ++ a.rest) a.spelled))
one_refusal bytes refusal refusal' (inr a) (inr b) = stops_once bytes refusal refusal' a b

-- what is spelled as a change set, read as good items
same_as_set : (set : ChangeSet) (items : List StreamItem) (rest : List ℕ) → IsChangeSet set → AreGood start items → NoneNext (progress_to start items) rest → magic ++ (flat_map item_text items ++ rest) ≡ change_bytes set → (items ≡ items_of set) × (rest ≡ [])
same_as_set set items rest is good none spelled =
    same_items start items (items_of set) rest [] good (items_good set is) none (none_behind_end (progress_to start (items_of set)) [] (items_ended set is))
    (append_cancel_left magic (flat_map item_text items ++ rest) (flat_map item_text (items_of set) ++ []) (spelled ∙ sym (items_text set)))

pub no_fault : (bytes : List ℕ) (refusal : Refusal) (set : ChangeSet) → IsFirstFault bytes refusal → IsSetStream set bytes → ⊥
no_fault bytes refusal set (inl a) spelled = false≢true (sym a.lacks ∙ has_magic bytes (flat_map part_bytes set.parts ++ (flat_map content_bytes set.contents ++ end_bytes)) spelled.text)
no_fault bytes refusal set (inr a) spelled =
    let same = same_as_set set a.items a.rest spelled.set_is a.good a.stops (sym a.spelled ∙ spelled.text) in
    a.goes_on (ap (λ (items : List StreamItem). (progress_to start items).ended) same.0 ∙ items_ended set spelled.set_is) same.1

pub no_more : (set set' : ChangeSet) (rest : List ℕ) → IsChangeSet set → IsChangeSet set' → change_bytes set ++ rest ≡ change_bytes set' → rest ≡ []
no_more set set' rest is is' e =
    let text = items_text set in
    let longer : magic ++ (flat_map item_text (items_of set) ++ rest) ≡ change_bytes set ++ rest =
    sym (append_assoc magic (flat_map item_text (items_of set)) rest) ∙ ap (λ (l : List ℕ). l ++ rest) (ap (λ (l : List ℕ). magic ++ l) (sym (append-nil (flat_map item_text (items_of set)))) ∙ text) in
    (same_as_set set' (items_of set) rest is' (items_good set is) (none_behind_end (progress_to start (items_of set)) rest (items_ended set is)) (longer ∙ e)).1
