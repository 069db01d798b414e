-- What is decided of the stream of a change set: each fault is the first one, whatever comes behind it.
use Rattle.std.proofs.Common.{◌≡◌, ◌≢◌, inl, inr, ℕ, ◌+◌, ◌-◌, ◌<◌, ◌^◌, Bool, true, false, ◌&&◌, cond, nat_lt, IsTrue, List, [], ◌++◌, length, take, drop, refl, sym, ap, ◌∙◌, subst, arith, append_assoc, length-append}
use Rattle.std.specs.Prelude.{slice_range}
use Rattle.std.specs.Int.{w32, to_be_bytes}
use Rattle.std.proofs.Math.Seq.{drop-append_seam}
use Rattle.std.proofs.lemmas.Bool.{not_from_true, cond-true, cond-false, cases_Bool, le-ltb, lt-ltb}
use Rattle.std.proofs.lemmas.List.{length-map}
use Rattle.std.proofs.lemmas.Nat.{from_be_bytes-to_be_bytes_4}
use Rattle.change_set.specs.cny-base.declared.limits.TheConstants.{CONTENT_ITEM_LIMIT, PARTS_LIMIT}
use Rattle.change_set.specs.cny-base.Below.{begins_with}
use Rattle.change_set.specs.cny-base.declared.refusal.Refusal.{Refusal}
use Rattle.change_set.specs.cny-base.declared.refusal.Refusal.TheVariants.{Malformed, TooLarge}
use Rattle.change_set.specs.cny-base.declared.refusal.What.TheVariants.{Content}
use Rattle.change_set.proofs.cny-base.Below.{begun}
use Rattle.change_set.proofs.cny-base.Counts.{is_at_most}
use Rattle.change_set.proofs.cny-base.ItemLaws.{same_front}
use Rattle.cny_stream.specs.Item.{FitsItem, IsItemAt, item_bytes, is_expected, begins_unexpected, value_len}
use Rattle.cny_stream.proofs.ItemLaws.{same_four, same_item, same_tail}
use Rattle.cny_stream.specs.Cut.{head_of}
use Rattle.cny_stream.specs.Decided.{Decided}
use Rattle.cny_stream.proofs.Faults.{no_item, still}
use Rattle.change_set.specs.declared.change.ChangeSet.{ChangeSet}
use Rattle.change_set.specs.ChangeSet.{magic, change_bytes, end_bytes, IsChangeSet}
use Rattle.change_set.specs.FirstFault.{StreamItem, Progress, expected_tags, IsNext, NoneNext, IsFirstFault, tags_after, fault_of, is_oversized, stated_length, place_of}
use Rattle.change_set.specs.Reading.{IsSmall, item_of, last_name}
use Rattle.change_set.proofs.ContentsRead.{stops_here, stops_behind_end}
use Rattle.change_set.proofs.Faults.{fault_of_item}
use Rattle.change_set.proofs.Progress.{with_contents}
use Rattle.change_set.proofs.Small.{next_small}
use Rattle.change_pull.specs.Front.{front_bytes, tags_behind_set}
use Rattle.change_pull.proofs.Growing.{parts_end, parts_to, read_to, with_end_item}

-- what was read of the set
abbrev pub progress_of : ChangeSet → Progress
progress_of set = with_contents set.parts set.contents

pub same_tags : (set : ChangeSet) → expected_tags (progress_of set) ≡ tags_behind_set set
same_tags set = ap (λ (n : ℕ). tags_after false (nat_lt n PARTS_LIMIT) (last_name set.contents)) (length-map set.parts item_of)

-- the items stop behind those of a set
pub stops : (set : ChangeSet) (rest : List ℕ) (refusal : Refusal) → IsChangeSet set → NoneNext (progress_of set) rest → refusal ≡ fault_of (tags_behind_set set) (length (front_bytes set ++ rest)) rest
    → IsFirstFault (front_bytes set ++ rest) refusal
stops set rest refusal is none refused =
    let bytes : List ℕ = front_bytes set ++ rest in
    let behind : drop (length (front_bytes set)) bytes ≡ rest = drop-append_seam (front_bytes set) rest in
    inr (stops_here bytes set.parts set.contents (parts_end set) (length (front_bytes set)) refusal (parts_to set rest is) (read_to set rest is)
    (subst (NoneNext (progress_of set)) (sym behind) none)
    (refused ∙ ap (λ (tags : List ℕ). fault_of tags (length bytes) rest) (sym (same_tags set)) ∙ ap (fault_of (expected_tags (progress_of set)) (length bytes)) (sym behind)))

next_expected : (set : ChangeSet) (item : StreamItem) → IsNext (progress_of set) item → IsTrue (is_expected (tags_behind_set set) item.tag)
next_expected set item next = subst (λ (tags : List ℕ). IsTrue (is_expected tags item.tag)) (same_tags set) next.expected

place_here : (front rest : List ℕ) → length (front ++ rest) - length rest ≡ length front
place_here front rest = omega (arith, length-append front rest)

-- ---- an unexpected tag

at_unexpected : (set : ChangeSet) (rest : List ℕ) → IsChangeSet set → begins_unexpected (tags_behind_set set) rest ≡ true → IsFirstFault (front_bytes set ++ rest) (Malformed (length (front_bytes set)))
at_unexpected set rest is other =
    let total : ℕ = length (front_bytes set ++ rest) in
    stops set rest (Malformed (length (front_bytes set))) is
    (λ item more spelled next. no_item (tags_behind_set set) rest other item.tag item.value more (next_expected set item next) spelled)
    (sym (cond-true (begins_unexpected (tags_behind_set set) rest) (Malformed (total - length rest)) (cond (is_oversized rest) (TooLarge Content (stated_length rest - 20)) (place_of total rest (value_len rest))) other
    ∙ ap Malformed (place_here (front_bytes set) rest)))

pub unexpected_decides : (set : ChangeSet) (front : List ℕ) → IsChangeSet set → begins_unexpected (tags_behind_set set) front ≡ true → Decided IsFirstFault (front_bytes set ++ front) (Malformed (length (front_bytes set)))
unexpected_decides set front is other more bytes =
    subst (λ (l : List ℕ). IsFirstFault l (Malformed (length (front_bytes set)))) (sym (append_assoc (front_bytes set) front more))
    (at_unexpected set (front ++ more) is (still (tags_behind_set set) front more other))

-- ---- a content that is too large

at_oversized : (set : ChangeSet) (len : ℕ) (rest : List ℕ) → IsChangeSet set → IsTrue (is_expected (tags_behind_set set) 0x12) → len < 2 ^ 32 → CONTENT_ITEM_LIMIT < len
    → IsFirstFault (front_bytes set ++ (head_of 0x12 len ++ rest)) (TooLarge Content (len - 20))
at_oversized set len rest is expected fits large =
    let open_ : List ℕ = head_of 0x12 len ++ rest in
    let total : ℕ = length (front_bytes set ++ open_) in
    let told : stated_length open_ ≡ len = from_be_bytes-to_be_bytes_4 len fits in
    let over : is_oversized open_ ≡ true =
    ap (λ (b : Bool). b && nat_lt CONTENT_ITEM_LIMIT (stated_length open_)) (is_at_most 5 (length open_) (omega arith)) ∙ ap (λ (n : ℕ). nat_lt CONTENT_ITEM_LIMIT n) told ∙ lt-ltb CONTENT_ITEM_LIMIT len large in
    stops set open_ (TooLarge Content (len - 20)) is
    (λ item more spelled next.
    let tags = same_tail 0x12 item.tag (to_be_bytes w32 len ++ rest) ((to_be_bytes w32 (length item.value) ++ item.value) ++ more) spelled in
    let both = same_four len (length item.value) rest (item.value ++ more) fits next.fits (tags.1 ∙ append_assoc (to_be_bytes w32 (length item.value)) item.value more) in
    let small = next_small (progress_of set) item next (sym tags.0) in
    omega (arith, both.0, small, large))
    (sym (cond-false (begins_unexpected (tags_behind_set set) open_) (Malformed (total - length open_)) (cond (is_oversized open_) (TooLarge Content (stated_length open_ - 20)) (place_of total open_ (value_len open_))) (not_from_true (is_expected (tags_behind_set set) 0x12) expected)
    ∙ cond-true (is_oversized open_) (TooLarge Content (stated_length open_ - 20)) (place_of total open_ (value_len open_)) over
    ∙ ap (λ (n : ℕ). TooLarge Content (n - 20)) told))

pub oversized_decides : (set : ChangeSet) (len : ℕ) → IsChangeSet set → IsTrue (is_expected (tags_behind_set set) 0x12) → len < 2 ^ 32 → CONTENT_ITEM_LIMIT < len
    → Decided IsFirstFault (front_bytes set ++ head_of 0x12 len) (TooLarge Content (len - 20))
oversized_decides set len is expected fits large more bytes =
    subst (λ (l : List ℕ). IsFirstFault l (TooLarge Content (len - 20))) (sym (append_assoc (front_bytes set) (head_of 0x12 len) more)) (at_oversized set len more is expected fits large)

-- ---- a whole item that isn't good

at_bad : (set : ChangeSet) (tag : ℕ) (value more : List ℕ) → IsChangeSet set → IsTrue (is_expected (tags_behind_set set) tag) → IsSmall tag value → FitsItem value
    → ((item : StreamItem) → IsNext (progress_of set) item → tag ≡ item.tag → value ≡ item.value → ⊥) → IsFirstFault (front_bytes set ++ (item_bytes tag value ++ more)) (Malformed (length (front_bytes set)))
at_bad set tag value more is expected small fits none =
    let rest : List ℕ = item_bytes tag value ++ more in
    stops set rest (Malformed (length (front_bytes set))) is
    (λ item after spelled next.
    let same = same_item tag item.tag value item.value more after fits next.fits spelled in
    none item next same.tags same.values)
    (sym (fault_of_item (tags_behind_set set) (length (front_bytes set ++ rest)) tag value more fits expected small ∙ ap Malformed (place_here (front_bytes set) rest)))

pub bad_decides : (set : ChangeSet) (tag : ℕ) (value : List ℕ) → IsChangeSet set → IsTrue (is_expected (tags_behind_set set) tag) → IsSmall tag value → FitsItem value
    → ((item : StreamItem) → IsNext (progress_of set) item → tag ≡ item.tag → value ≡ item.value → ⊥) → Decided IsFirstFault (front_bytes set ++ item_bytes tag value) (Malformed (length (front_bytes set)))
bad_decides set tag value is expected small fits none more bytes =
    subst (λ (l : List ℕ). IsFirstFault l (Malformed (length (front_bytes set)))) (sym (append_assoc (front_bytes set) (item_bytes tag value) more)) (at_bad set tag value more is expected small fits none)

-- ---- bytes behind the end

end_at : (set : ChangeSet) (rest : List ℕ) → let at : ℕ = length (front_bytes set) in IsItemAt (front_bytes set ++ (end_bytes ++ rest)) at 0x1F (at + 5) (at + 5)
end_at set rest =
    let front : List ℕ = front_bytes set in
    let at : ℕ = length front in
    let bytes : List ℕ = front ++ (end_bytes ++ rest) in
    let head : drop at bytes ≡ end_bytes ++ rest = drop-append_seam front (end_bytes ++ rest) in
    let five : length (front ++ end_bytes) ≡ at + 5 = length-append front end_bytes in
    let behind : drop (at + 5) bytes ≡ rest = ap (λ (n : ℕ). drop n bytes) (sym five) ∙ ap (drop (length (front ++ end_bytes))) (sym (append_assoc front end_bytes rest)) ∙ drop-append_seam (front ++ end_bytes) rest in
    let none : at + 5 - (at + 5) ≡ 0 = omega arith in
    let empty : slice_range bytes (at + 5) (at + 5) ≡ [] = ap (λ (n : ℕ). take n (drop (at + 5) bytes)) none in
    record {
      begins = refl;
      order = omega arith;
      within = omega (arith, length-append front (end_bytes ++ rest), length-append end_bytes rest);
      fits = omega (arith, ap length empty);
      spelled = head ∙ ap (λ (v : List ℕ). item_bytes 0x1F v ++ rest) (sym empty) ∙ ap (λ (l : List ℕ). item_bytes 0x1F (slice_range bytes (at + 5) (at + 5)) ++ l) (sym behind);
    }

pub end_decides : (set : ChangeSet) (taken : List ℕ) → IsChangeSet set → 0 < length taken → Decided IsFirstFault (change_bytes set ++ taken) (Malformed (length (change_bytes set)))
end_decides set taken is some more bytes =
    let front : List ℕ = front_bytes set in
    let at : ℕ = length front in
    let rest : List ℕ = end_bytes ++ (taken ++ more) in
    let same : front ++ rest ≡ (change_bytes set ++ taken) ++ more =
    sym (append_assoc front end_bytes (taken ++ more)) ∙ ap (λ (l : List ℕ). l ++ (taken ++ more)) (with_end_item set) ∙ sym (append_assoc (change_bytes set) taken more) in
    let long : at + 5 ≡ length (change_bytes set) = sym (length-append front end_bytes) ∙ ap length (with_end_item set) in
    let beyond : at + 5 ≢ length (front ++ rest) = λ e. omega (arith, e, some, length-append front rest, length-append end_bytes (taken ++ more), length-append taken more) in
    subst (λ (n : ℕ). IsFirstFault ((change_bytes set ++ taken) ++ more) (Malformed n)) long
    (subst (λ (l : List ℕ). IsFirstFault l (Malformed (at + 5))) same
    (inr (stops_behind_end (front ++ rest) set.parts set.contents (parts_end set) at (at + 5) (at + 5) (parts_to set rest is) (read_to set rest is) (end_at set (taken ++ more)) refl beyond)))

-- ---- the magic

pub no_magic_decides : (given : List ℕ) → length given ≡ 8 → given ≢ magic → Decided IsFirstFault given (Malformed 0)
no_magic_decides given eight other more bytes =
    let lacks : begins_with magic (given ++ more) ≡ false = elim (cases_Bool (begins_with magic (given ++ more))) [
      | inl is ↦ let rest = begun magic (given ++ more) is in absurd (other (front_same rest.0 rest.1))
      | inr is ↦ is
    ] in
    inl (record {
      lacks = lacks;
      refused = ap Malformed (sym (cond-false (nat_lt (length (given ++ more)) 8) (length (given ++ more)) 0 (le-ltb (length (given ++ more)) 8 (omega (arith, length-append given more)))));
    })
  where
    front_same : (rest : List ℕ) → given ++ more ≡ magic ++ rest → given ≡ magic
    front_same rest e = (same_front given magic more rest eight e).0
