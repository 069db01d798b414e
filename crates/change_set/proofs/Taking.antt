-- What was read of the parts, and where they stop.
use Rattle.std.proofs.Common.{◌≡◌, ◌⊎◌, inl, inr, ⊎_elim, ℕ, ◌<◌, ◌≤◌, Bool, true, false, ◌||◌, ◌==◌, IsTrue, List, [], ◌∷◌, ◌++◌, length, map, drop, flat_map, None, sym, ap, ◌∙◌, subst, arith, append_assoc, append-nil, length-append}
use Rattle.std.specs.Prelude.{slice_range}
use Rattle.std.proofs.lemmas.Bool.{le-ltb, true≢false, cases_lt, eqb-true, or_cases}
use Rattle.std.proofs.lemmas.List.{length-map}
use Rattle.std.proofs.lemmas.List.Concat.{flat_map-append}
use Rattle.std.proofs.lemmas.List.Elements.{All-push}
use Rattle.trove_stream.specs.cny-base.declared.limits.TheConstants.{PARTS_LIMIT}
use Rattle.trove_stream.specs.cny-base.declared.refusal.Refusal.{Refusal}
use Rattle.cny_stream.specs.Item.{FitsItem, IsItemAt, item_bytes, is_expected}
use Rattle.cny_stream.proofs.ItemLaws.{same_item}
use Rattle.change_set.specs.declared.change.Part.{Part}
use Rattle.change_set.specs.ChangeSet.{IsPart, part_value, part_bytes, FitsPart, magic}
use Rattle.change_set.specs.FirstFault.{StreamItem, Progress, IsItemOf, NoneNext, fault_of, tags_after, expected_tags, progress_to, start, StopsBehind, IsFirstFault}
use Rattle.change_set.specs.Reading.{ArePartsTo, IsSmall, item_of, tags_behind}
use Rattle.change_set.proofs.Progress.{with_parts, part_texts, parts_read, parts_good}
use Rattle.change_set.proofs.Small.{next_small}

-- ---- parts one behind the other

-- the item of a part and its tag
abbrev pub read_item : ℕ → List ℕ → StreamItem
read_item tag value = record { tag = tag; value = value }

pub one_more : (bytes : List ℕ) (parts : List Part) (at tag from to : ℕ) (part : Part) → ArePartsTo bytes parts at → IsItemAt bytes at tag from to → length parts < PARTS_LIMIT
    → IsItemOf part (read_item tag (slice_range bytes from to)) → ArePartsTo bytes (parts ++ part ∷ []) to
one_more bytes parts at tag from to part are item few is =
    let value : List ℕ = slice_range bytes from to in
    let same : part_bytes part ≡ item_bytes tag value = ap (λ (t : ℕ). item_bytes t (part_value part)) (sym is.tagged) ∙ ap (item_bytes tag) (sym is.spelled) in
    record {
      within = item.within;
      spelled = are.spelled ∙ ap (λ (l : List ℕ). magic ++ l)
          (ap (λ (l : List ℕ). flat_map part_bytes parts ++ l) (item.spelled ∙ ap (λ (l : List ℕ). l ++ drop to bytes) (sym same ∙ sym (append-nil (part_bytes part))))
          ∙ sym (append_assoc (flat_map part_bytes parts) (part_bytes part ++ []) (drop to bytes))
          ∙ ap (λ (l : List ℕ). l ++ drop to bytes) (sym (flat_map-append part_bytes parts (part ∷ []))));
      few = omega (arith, length-append parts (part ∷ []));
      valid = All-push IsPart parts part are.valid is.valid;
      fits = All-push FitsPart parts part are.fits (subst FitsItem is.spelled item.fits);
    }

-- ---- where they stop

part_low : (tag : ℕ) → (tag ≡ 0x10) ⊎ (tag ≡ 0x11) → tag ≤ 0x11
part_low tag (inl e) = omega arith
part_low tag (inr e) = omega arith

pub part_is_small : (tag : ℕ) (value : List ℕ) → (tag ≡ 0x10) ⊎ (tag ≡ 0x11) → IsSmall tag value
part_is_small tag value tagged e = let low = part_low tag tagged in absurd (omega arith)

same_tags : (parts : List Part) → expected_tags (with_parts parts) ≡ tags_behind (length parts)
same_tags parts = ap tags_behind (length-map parts item_of)

pub stops_behind : (bytes : List ℕ) (parts : List Part) (at : ℕ) (refusal : Refusal) → ArePartsTo bytes parts at → NoneNext (with_parts parts) (drop at bytes)
    → refusal ≡ fault_of (tags_behind (length parts)) (length bytes) (drop at bytes) → IsFirstFault bytes refusal
stops_behind bytes parts at refusal are none refused =
    let rest : List ℕ = drop at bytes in
    let total : ℕ = length bytes in
    let read : with_parts parts ≡ progress_to start (map item_of parts) = sym (parts_read parts) in
    let stops : StopsBehind bytes refusal = record {
      items = map item_of parts;
      rest = rest;
      spelled = are.spelled ∙ ap (λ (l : List ℕ). magic ++ (l ++ rest)) (sym (part_texts parts));
      good = parts_good parts are.valid are.fits are.few;
      stops = subst (λ (p : Progress). NoneNext p rest) read none;
      goes_on = λ ended. absurd (true≢false (sym ended ∙ ap (λ (p : Progress). p.ended) (sym read)));
      refused = refused ∙ ap (λ (tags : List ℕ). fault_of tags total rest) (sym (same_tags parts)) ∙ ap (λ (p : Progress). fault_of (expected_tags p) total rest) read;
    } in
    inr stops

-- no item that is small is there
pub none_small : (parts : List Part) (rest : List ℕ)
    → ((tag : ℕ) (value more : List ℕ) → IsTrue (is_expected (tags_behind (length parts)) tag) → FitsItem value → IsSmall tag value → rest ≡ item_bytes tag value ++ more → ⊥)
    → NoneNext (with_parts parts) rest
none_small parts rest none item more spelled next =
    none item.tag item.value more (subst (λ (tags : List ℕ). IsTrue (is_expected tags item.tag)) (same_tags parts) next.expected) next.fits (next_small (with_parts parts) item next) spelled

-- an item with the tag of a part that is no part's
pub none_part : (bytes : List ℕ) (parts : List Part) (at tag from to : ℕ) → IsItemAt bytes at tag from to → (tag ≡ 0x10) ⊎ (tag ≡ 0x11)
    → ((part : Part) → IsItemOf part (read_item tag (slice_range bytes from to)) → ⊥) → NoneNext (with_parts parts) (drop at bytes)
none_part bytes parts at tag from to is tagged none item more spelled next =
    let value : List ℕ = slice_range bytes from to in
    let same = same_item tag item.tag value item.value (drop to bytes) more is.fits next.fits (sym is.spelled ∙ spelled) in
    let tags : tag ≡ item.tag = same.tags in
    let low : tag ≤ 0x11 = part_low tag tagged in
    ⊎_elim (λ part. none part.0 (record { valid = part.1.valid; tagged = tags ∙ part.1.tagged; spelled = same.values ∙ part.1.spelled }))
    (λ other. ⊎_elim (λ content. let e = content.tagged in omega (arith, low, tags, e)) (λ end. let e = end.0 in omega (arith, low, tags, e)) other)
    next.good

-- ---- the tags

-- a part may follow fewer parts than the limit alone
pub few_before : (count tag : ℕ) → IsTrue (is_expected (tags_behind count) tag) → (tag ≡ 0x10) ⊎ (tag ≡ 0x11) → count < PARTS_LIMIT
few_before count tag expected tagged = at (cases_lt count PARTS_LIMIT) (part_low tag tagged)
  where
    at : (count < PARTS_LIMIT) ⊎ (PARTS_LIMIT ≤ count) → tag ≤ 0x11 → count < PARTS_LIMIT
    at (inl lt) low = lt
    at (inr le) low =
        let last : IsTrue (is_expected (0x12 ∷ 0x1F ∷ []) tag) = subst (λ (few : Bool). IsTrue (is_expected (tags_after false few None) tag)) (le-ltb count PARTS_LIMIT le) expected in
        ⊎_elim (λ e. let one = eqb-true 0x12 tag e in absurd (omega arith))
        (λ more. ⊎_elim (λ e. let one = eqb-true 0x1F tag e in absurd (omega arith)) (λ no. absurd (cc no)) (or_cases (0x1F == tag) false more))
        (or_cases (0x12 == tag) (0x1F == tag || false) last)
