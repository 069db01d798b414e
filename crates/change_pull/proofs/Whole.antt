-- An item that is whole: what comes of it, or what it decides.
use Rattle.std.proofs.Common.{◌≡◌, ◌≢◌, ◌⊎◌, inl, inr, ⊎_elim, ℕ, ◌+◌, ◌-◌, ◌≤◌, Bool, true, false, ◌||◌, ◌==◌, nat_lt, IsTrue, List, [], ◌∷◌, ◌++◌, length, take, drop, Option, Some, None, Result, Ok, Err, OnOk, IfErr, refl, sym, ap, ◌∙◌, subst, arith, append_assoc, append-nil, length-append}
use Rattle.std.specs.Prelude.{slice_range}
use Rattle.std.proofs.Math.Seq.{drop-append_seam, take-append_seam}
use Rattle.std.specs.Int.{w32, to_be_bytes}
use Rattle.std.proofs.lemmas.Bool.{or_cases, eqb-true, ltb-true}
use Rattle.std.proofs.lemmas.List.{map-append}
use Rattle.change_set.specs.cny-base.declared.limits.TheConstants.{CONTENT_ITEM_LIMIT, PARTS_LIMIT}
use Rattle.change_set.specs.cny-base.declared.refusal.Refusal.TheVariants.{Malformed}
use Rattle.change_set.proofs.trove-stream.Distinct.{TrovesDiffer}
use Rattle.cny_stream.specs.Item.{FitsItem, IsItemAt, item_bytes, is_expected}
use Rattle.cny_stream.specs.Cut.{InHead, Stands}
use Rattle.cny_stream.specs.Decided.{Decided}
use Rattle.journal_log.specs.tree-disk.Tree.{Name}
use Rattle.change_set.specs.declared.change.Part.{Part}
use Rattle.change_set.specs.declared.change.Carried.{Carried}
use Rattle.change_set.specs.declared.change.ChangeSet.{ChangeSet}
use Rattle.change_set.specs.ChangeSet.{magic, change_bytes, content_value, IsChangeSet}
use Rattle.change_set.specs.FirstFault.{IsItemOf, IsFirstFault, tags_after}
use Rattle.change_set.specs.Index.{IsIndexOf}
use Rattle.change_set.specs.Reading.{IsNextOf, last_name}
use Rattle.change_set.proofs.ContentsRead.{stops_at_content, stops_at_end}
use Rattle.change_set.proofs.SameSet.{RelsDiffer}
use Rattle.change_pull.specs.declared.halt.Halt.{Halt}
use Rattle.change_pull.specs.declared.halt.Halt.TheVariants as halts
use Rattle.change_pull.specs.declared.reading.Reading.{Reading}
use Rattle.change_pull.specs.declared.staged.Staged.{Staged}
use Rattle.change_pull.specs.Files.{files_of, number_path, staged_from, staged_of}
use Rattle.change_pull.specs.Front.{front_bytes, tags_behind_set}
use Rattle.change_pull.specs.Halts.{HaltsAt, IfRefusal}
use Rattle.change_pull.specs.Open.{HasKept, IsOpenWith, IsWhole}
use Rattle.change_pull.proofs.Growing.{with_part, with_content, parts_end, parts_to, read_to, part_more, part_front, content_more, content_front, with_end_item}
use Rattle.change_pull.proofs.Stops.{bad_decides}

-- ---- where the next item begins

-- behind a whole item the next one begins
pub next_open : (r : Reading) (dir : Name) (given : List ℕ) (set : ChangeSet) (wanted : List (List ℕ)) → HasKept r dir set → IsChangeSet set → Stands magic r.cutter given (InHead []) → r.start ≡ length given → r.given ≡ length given → r.ended ≡ false
    → given ≡ front_bytes set → files_of set.contents None ≡ wanted → IsOpenWith r dir given wanted
next_open r dir given set wanted kept is stands starts count goes_on spelled same = (
  record {
    set = set;
    written = None;
    kept = kept;
    is_at = inr (inl (
      InHead [],
      subst (λ (l : List ℕ). Stands magic r.cutter l (InHead [])) spelled stands,
      record { set_is = is; start = starts ∙ ap length spelled; count = omega (arith, count, ap length spelled); goes_on = goes_on },
      (refl, refl),
      spelled ∙ sym (append-nil (front_bytes set)),
    ));
  },
  same,
)

pub end_open : (r : Reading) (dir : Name) (given : List ℕ) (set : ChangeSet) (wanted : List (List ℕ)) → HasKept r dir set → IsChangeSet set → Stands magic r.cutter given (InHead []) → r.start ≡ length given → r.given ≡ length given → r.ended ≡ true
    → given ≡ change_bytes set → files_of set.contents None ≡ wanted → IsOpenWith r dir given wanted
end_open r dir given set wanted kept is stands starts count ended spelled same = (
  record {
    set = set;
    written = None;
    kept = kept;
    is_at = inr (inr (
      refl,
      subst (λ (l : List ℕ). Stands magic r.cutter l (InHead [])) spelled stands,
      record { set_is = is; start = starts ∙ ap length spelled; count = omega (arith, count, ap length spelled); ended = ended },
      spelled,
    ));
  },
  same,
)

-- ---- tags

part_allowed : (few : Bool) (last : Option (List ℕ)) (tag : ℕ) → IsTrue (is_expected (tags_after false few last) tag) → (tag ≡ 0x10) ⊎ (tag ≡ 0x11) → (few ≡ true) × (last ≡ None)
part_allowed true None tag expected tagged = (refl, refl)
part_allowed false None tag expected (inl e) = let h = subst (λ (t : ℕ). IsTrue (is_expected (0x12 ∷ 0x1F ∷ []) t)) e expected in absurd (cc)
part_allowed false None tag expected (inr e) = let h = subst (λ (t : ℕ). IsTrue (is_expected (0x12 ∷ 0x1F ∷ []) t)) e expected in absurd (cc)
part_allowed few (Some name) tag expected (inl e) = let h = subst (λ (t : ℕ). IsTrue (is_expected (0x12 ∷ 0x1F ∷ []) t)) e expected in absurd (cc)
part_allowed few (Some name) tag expected (inr e) = let h = subst (λ (t : ℕ). IsTrue (is_expected (0x12 ∷ 0x1F ∷ []) t)) e expected in absurd (cc)

none_alone : (contents : List Carried) → last_name contents ≡ None → contents ≡ []
none_alone [] is = refl
none_alone (x ∷ []) is = absurd (cc)
none_alone (x ∷ y ∷ contents) is = let rest = none_alone (y ∷ contents) is in absurd (cc)

two_left : (tag : ℕ) → IsTrue (is_expected (0x12 ∷ 0x1F ∷ []) tag) → tag ≢ 0x12 → tag ≡ 0x1F
two_left tag expected other =
    ⊎_elim (λ e. absurd (other (sym (eqb-true 0x12 tag e)))) (λ more. ⊎_elim (λ e. sym (eqb-true 0x1F tag e)) (λ no. absurd (cc)) (or_cases (0x1F == tag) false more)) (or_cases (0x12 == tag) ((0x1F == tag) || false) expected)

end_alone : (few : Bool) (last : Option (List ℕ)) (tag : ℕ) → IsTrue (is_expected (tags_after false few last) tag) → tag ≢ 0x10 → tag ≢ 0x11 → tag ≢ 0x12 → tag ≡ 0x1F
end_alone false None tag expected a b c = two_left tag expected c
end_alone few (Some name) tag expected a b c = two_left tag expected c
end_alone true None tag expected a b c =
    ⊎_elim (λ e. absurd (a (sym (eqb-true 0x10 tag e))))
    (λ more. ⊎_elim (λ e. absurd (b (sym (eqb-true 0x11 tag e)))) (λ rest. two_left tag rest c) (or_cases (0x11 == tag) (is_expected (0x12 ∷ 0x1F ∷ []) tag) more))
    (or_cases (0x10 == tag) (is_expected (0x11 ∷ 0x12 ∷ 0x1F ∷ []) tag) expected)

pub the_end : (set : ChangeSet) (tag : ℕ) → IsTrue (is_expected (tags_behind_set set) tag) → tag ≢ 0x10 → tag ≢ 0x11 → tag ≢ 0x12 → tag ≡ 0x1F
the_end set tag = end_alone (nat_lt (length set.parts) PARTS_LIMIT) (last_name set.contents) tag

-- ---- a part

not_content : (tag : ℕ) → (tag ≡ 0x10) ⊎ (tag ≡ 0x11) → tag ≢ 0x12
not_content tag (inl e) is = omega arith
not_content tag (inr e) is = omega arith

not_end : (tag : ℕ) → (tag ≡ 0x10) ⊎ (tag ≡ 0x11) → tag ≢ 0x1F
not_end tag (inl e) is = omega arith
not_end tag (inr e) is = omega arith

-- the item's value is what was kept of it
pub kept_value : (r : Reading) (dir : Name) (set : ChangeSet) (tag : ℕ) (value : List ℕ) (written : Option (List ℕ)) (part : Part) → IsWhole r dir set tag value written → (tag ≡ 0x10) ⊎ (tag ≡ 0x11)
    → IsItemOf part (record { tag = r.item.tag; value = r.item.kept.items }) → IsItemOf part (record { tag = tag; value = value })
kept_value r dir set tag value written part whole tagged item =
    let same = whole.item.gathered.part (not_content tag tagged) (not_end tag tagged) in
    record { valid = item.valid; tagged = sym whole.item.gathered.tagged ∙ item.tagged; spelled = sym same ∙ item.spelled }

module _ (r next : Reading) (dir : Name) (set : ChangeSet) (tag : ℕ) (value : List ℕ) (written : Option (List ℕ)) (whole : IsWhole r dir set tag value written) where
  pub counted : (n : ℕ) → n ≡ r.given → n ≡ length (front_bytes set ++ item_bytes tag value)
  counted n is = omega (arith, is, whole.behind.count, length-append (front_bytes set) (item_bytes tag value), length-append (tag ∷ to_be_bytes w32 (length value)) value)

  pub part_opens : (part : Part) → (tag ≡ 0x10) ⊎ (tag ≡ 0x11) → IsItemOf part (record { tag = r.item.tag; value = r.item.kept.items })
      → next.parts.items ≡ r.parts.items ++ part ∷ [] → IsIndexOf (set.parts ++ part ∷ []) next.index → next.staged ≡ r.staged → next.cutter ≡ r.cutter → next.start ≡ r.given → next.given ≡ r.given → next.ended ≡ r.ended
      → IsOpenWith next dir (front_bytes set ++ item_bytes tag value) (files_of set.contents written)
  part_opens part tagged item more index staged cutter starts count ended =
      let allowed = part_allowed (nat_lt (length set.parts) PARTS_LIMIT) (last_name set.contents) tag whole.item.expected tagged in
      let alone = none_alone set.contents allowed.1 in
      let of = kept_value r dir set tag value written part whole tagged item in
      let unwritten = whole.item.gathered.unwritten (not_content tag tagged) in
      next_open next dir (front_bytes set ++ item_bytes tag value) (with_part set.parts part) (files_of set.contents written)
      (record { parts = more ∙ ap (λ (l : List Part). l ++ part ∷ []) whole.kept.parts; staged = ap (λ v. v.items) staged ∙ whole.kept.staged ∙ ap (staged_of dir) alone; index = index })
      (part_more set part tag value whole.behind.set_is alone (ltb-true (length set.parts) PARTS_LIMIT allowed.0) whole.fits of)
      (subst (λ c. Stands magic c (front_bytes set ++ item_bytes tag value) (InHead [])) (sym cutter) whole.cutter)
      (counted next.start starts) (counted next.given count) (ended ∙ whole.behind.goes_on)
      (part_front set part tag value alone of)
      (sym (ap (λ (l : List Carried). files_of l written) alone ∙ ap (files_of []) unwritten))

  -- the item of no part
  pub part_decides : (halt : Halt) → (tag ≡ 0x10) ⊎ (tag ≡ 0x11) → HaltsAt r.start ((part : Part) → IsItemOf part (record { tag = r.item.tag; value = r.item.kept.items }) → ⊥) halt
      → IfRefusal (Decided IsFirstFault (front_bytes set ++ item_bytes tag value)) halt
  part_decides (halts.Malformed at) tagged stop =
      let same = whole.item.gathered.part (not_content tag tagged) (not_end tag tagged) in
      subst (λ (n : ℕ). Decided IsFirstFault (front_bytes set ++ item_bytes tag value) (Malformed n)) (sym (stop.0 ∙ whole.behind.start))
      (bad_decides set tag value whole.behind.set_is whole.item.expected (λ content. absurd (not_content tag tagged content)) whole.fits
      (λ item goes tags values. ⊎_elim
      (λ part. stop.1 part.0 (record { valid = part.1.valid; tagged = whole.item.gathered.tagged ∙ tags ∙ part.1.tagged; spelled = same ∙ values ∙ part.1.spelled }))
      (λ other. ⊎_elim (λ content. not_content tag tagged (tags ∙ content.tagged)) (λ end. not_end tag tagged (tags ∙ end.0)) other)
      goes.good))
  part_decides (halts.TooLarge size) tagged stop = absurd stop
  part_decides halts.Failed tagged stop = absurd stop
  part_decides halts.Memory tagged stop = tt

  -- ---- a content

  pub content_opens : (content : Carried) → tag ≡ 0x12 → IsNextOf set.parts (last_name set.contents) value content → next.staged.items ≡ r.staged.items ++ staged_from dir (length r.staged.items) (content ∷ [])
      → next.parts ≡ r.parts → next.index ≡ r.index → next.cutter ≡ r.cutter → next.start ≡ r.given → next.given ≡ r.given → next.ended ≡ r.ended
      → IsOpenWith next dir (front_bytes set ++ item_bytes tag value) (files_of set.contents written)
  content_opens content tagged of more parts index cutter starts count ended =
      let long : length value ≡ 20 + length content.bytes = ap length of.spelled ∙ length-append content.name content.bytes ∙ ap (λ (n : ℕ). n + length content.bytes) of.is.twenty in
      let bytes : drop 20 value ≡ content.bytes = ap (drop 20) of.spelled ∙ ap (λ (n : ℕ). drop n (content_value content)) (sym of.is.twenty) ∙ drop-append_seam content.name content.bytes in
      let all : written ≡ Some content.bytes = whole.all tagged (omega (arith, long)) ∙ ap Some bytes in
      next_open next dir (front_bytes set ++ item_bytes tag value) (with_content set content) (files_of set.contents written)
      (record {
        parts = ap (λ v. v.items) parts ∙ whole.kept.parts;
        staged = more ∙ staged_more dir set.contents content r.staged.items whole.kept.staged;
        index = subst (IsIndexOf set.parts) (sym index) whole.kept.index;
      })
      (content_more set content value whole.behind.set_is of)
      (subst (λ c. Stands magic c (front_bytes set ++ item_bytes tag value) (InHead [])) (sym cutter) whole.cutter)
      (counted next.start starts) (counted next.given count) (ended ∙ whole.behind.goes_on)
      (ap (λ (t : ℕ). front_bytes set ++ item_bytes t value) tagged ∙ content_front set content value of)
      (map-append (λ (c : Carried). c.bytes) set.contents (content ∷ []) ∙ sym (ap (files_of set.contents) all))
    where
      staged_push : (dir : Name) (number : ℕ) (contents : List Carried) (content : Carried) → staged_from dir number (contents ++ content ∷ []) ≡ staged_from dir number contents ++ staged_from dir (number + length (staged_from dir number contents)) (content ∷ [])
      staged_push dir number [] content = ap (λ (n : ℕ). staged_from dir n (content ∷ [])) (omega arith)
      staged_push dir number (x ∷ contents) content =
          let place : number + 1 + length (staged_from dir (number + 1) contents) ≡ number + length (staged_from dir number (x ∷ contents)) = omega arith in
          ap (λ (l : List Staged). record { name = x.name; size = length x.bytes; path = number_path dir number } ∷ l)
          (staged_push dir (number + 1) contents content ∙ ap (λ (n : ℕ). staged_from dir (number + 1) contents ++ staged_from dir n (content ∷ [])) place)

      staged_more : (dir : Name) (contents : List Carried) (content : Carried) (staged : List Staged) → staged ≡ staged_of dir contents → staged ++ staged_from dir (length staged) (content ∷ []) ≡ staged_of dir (contents ++ content ∷ [])
      staged_more dir contents content staged same =
          ap (λ (l : List Staged). l ++ staged_from dir (length l) (content ∷ [])) same ∙ sym (staged_push dir 0 contents content ∙ ap (λ (n : ℕ). staged_of dir contents ++ staged_from dir n (content ∷ [])) (omega arith))

-- the item of no content
item_at : (set : ChangeSet) (tag : ℕ) (value rest : List ℕ) → FitsItem value → let at : ℕ = length (front_bytes set) in
    (slice_range (front_bytes set ++ (item_bytes tag value ++ rest)) (at + 5) (at + 5 + length value) ≡ value) × IsItemAt (front_bytes set ++ (item_bytes tag value ++ rest)) at tag (at + 5) (at + 5 + length value)
item_at set tag value rest fits =
    let front : List ℕ = front_bytes set in
    let at : ℕ = length front in
    let item : List ℕ = item_bytes tag value in
    let bytes : List ℕ = front ++ (item ++ rest) in
    let head : List ℕ = tag ∷ to_be_bytes w32 (length value) in
    let there : drop at bytes ≡ item ++ rest = drop-append_seam front (item ++ rest) in
    let whole : bytes ≡ (front ++ head) ++ (value ++ rest) =
    ap (λ (l : List ℕ). front ++ l) (append_assoc head value rest) ∙ sym (append_assoc front head (value ++ rest)) in
    let five : length (front ++ head) ≡ at + 5 = length-append front head in
    let from : drop (at + 5) bytes ≡ value ++ rest = ap (λ (n : ℕ). drop n bytes) (sym five) ∙ ap (drop (length (front ++ head))) whole ∙ drop-append_seam (front ++ head) (value ++ rest) in
    let count : at + 5 + length value - (at + 5) ≡ length value = omega arith in
    let same : slice_range bytes (at + 5) (at + 5 + length value) ≡ value = ap (λ (n : ℕ). take n (drop (at + 5) bytes)) count ∙ ap (take (length value)) from ∙ take-append_seam value rest in
    let long : length (front ++ item) ≡ at + 5 + length value = omega (arith, length-append front item, length-append head value) in
    let behind : drop (at + 5 + length value) bytes ≡ rest = ap (λ (n : ℕ). drop n bytes) (sym long) ∙ ap (drop (length (front ++ item))) (sym (append_assoc front item rest)) ∙ drop-append_seam (front ++ item) rest in (
      same,
      record {
        begins = refl;
        order = omega arith;
        within = omega (arith, length-append front (item ++ rest), length-append item rest, length-append head value);
        fits = subst FitsItem (sym same) fits;
        spelled = there ∙ ap (λ (v : List ℕ). item_bytes tag v ++ rest) (sym same) ∙ ap (λ (l : List ℕ). item_bytes tag (slice_range bytes (at + 5) (at + 5 + length value)) ++ l) (sym behind);
      },
    )

content_bad : TrovesDiffer → RelsDiffer → (set : ChangeSet) (value : List ℕ) → IsChangeSet set → FitsItem value → length value ≤ CONTENT_ITEM_LIMIT
    → ((content : Carried) → IsNextOf set.parts (last_name set.contents) value content → ⊥) → Decided IsFirstFault (front_bytes set ++ item_bytes 0x12 value) (Malformed (length (front_bytes set)))
content_bad troves rels set value is fits small none more bytes =
    let at : ℕ = length (front_bytes set) in
    let rest : List ℕ = item_bytes 0x12 value ++ more in
    let item = item_at set 0x12 value more fits in
    subst (λ (l : List ℕ). IsFirstFault l (Malformed at)) (sym (append_assoc (front_bytes set) (item_bytes 0x12 value) more))
    (inr (stops_at_content troves rels (front_bytes set ++ rest) set.parts set.contents (parts_end set) at (at + 5) (at + 5 + length value) (parts_to set rest is) (read_to set rest is) item.1 (omega (arith, small))
    (λ content next. none content (subst (λ (v : List ℕ). IsNextOf set.parts (last_name set.contents) v content) item.0 next))))

end_bad : (set : ChangeSet) (value : List ℕ) → IsChangeSet set → FitsItem value → length value ≢ 0 → Decided IsFirstFault (front_bytes set ++ item_bytes 0x1F value) (Malformed (length (front_bytes set)))
end_bad set value is fits some more bytes =
    let at : ℕ = length (front_bytes set) in
    let rest : List ℕ = item_bytes 0x1F value ++ more in
    let item = item_at set 0x1F value more fits in
    subst (λ (l : List ℕ). IsFirstFault l (Malformed at)) (sym (append_assoc (front_bytes set) (item_bytes 0x1F value) more))
    (inr (stops_at_end (front_bytes set ++ rest) set.parts set.contents (parts_end set) at (at + 5) (at + 5 + length value) (parts_to set rest is) (read_to set rest is) item.1 (λ e. some (omega (arith, e)))))

module _ (r next : Reading) (dir : Name) (set : ChangeSet) (tag : ℕ) (value : List ℕ) (written : Option (List ℕ)) (whole : IsWhole r dir set tag value written) where
  pub content_decides : TrovesDiffer → RelsDiffer → (halt : Halt) → tag ≡ 0x12 → HaltsAt r.start ((content : Carried) → IsNextOf set.parts (last_name set.contents) value content → ⊥) halt
      → IfRefusal (Decided IsFirstFault (front_bytes set ++ item_bytes tag value)) halt
  content_decides troves rels (halts.Malformed at) tagged stop =
      subst (λ (n : ℕ). Decided IsFirstFault (front_bytes set ++ item_bytes tag value) (Malformed n)) (sym (stop.0 ∙ whole.behind.start))
      (subst (λ (t : ℕ). Decided IsFirstFault (front_bytes set ++ item_bytes t value) (Malformed (length (front_bytes set)))) (sym tagged)
      (content_bad troves rels set value whole.behind.set_is whole.fits (whole.item.small tagged) stop.1))
  content_decides troves rels (halts.TooLarge size) tagged stop = absurd stop
  content_decides troves rels halts.Failed tagged stop = absurd stop
  content_decides troves rels halts.Memory tagged stop = tt

  -- ---- the end

  pub end_decides : (halt : Halt) → tag ≡ 0x1F → HaltsAt r.start (r.item.len ≢ 0) halt → IfRefusal (Decided IsFirstFault (front_bytes set ++ item_bytes tag value)) halt
  end_decides (halts.Malformed at) tagged stop =
      let long = whole.item.gathered.long in
      subst (λ (n : ℕ). Decided IsFirstFault (front_bytes set ++ item_bytes tag value) (Malformed n)) (sym (stop.0 ∙ whole.behind.start))
      (subst (λ (t : ℕ). Decided IsFirstFault (front_bytes set ++ item_bytes t value) (Malformed (length (front_bytes set)))) (sym tagged)
      (end_bad set value whole.behind.set_is whole.fits (λ none. stop.1 (long ∙ none))))
  end_decides (halts.TooLarge size) tagged stop = absurd stop
  end_decides halts.Failed tagged stop = absurd stop
  end_decides halts.Memory tagged stop = tt

  pub end_opens : tag ≡ 0x1F → r.item.len ≡ 0 → next.parts ≡ r.parts → next.index ≡ r.index → next.staged ≡ r.staged → next.cutter ≡ r.cutter → next.start ≡ r.given → next.given ≡ r.given → next.ended ≡ true
      → IsOpenWith next dir (front_bytes set ++ item_bytes tag value) (files_of set.contents written)
  end_opens tagged zero_long parts index staged cutter starts count ended =
      let empty : value ≡ [] = no_value value (sym whole.item.gathered.long ∙ zero_long) in
      let unwritten = whole.item.gathered.unwritten (λ content. omega (arith, content, tagged)) in
      end_open next dir (front_bytes set ++ item_bytes tag value) set (files_of set.contents written)
      (record {
        parts = ap (λ v. v.items) parts ∙ whole.kept.parts;
        staged = ap (λ v. v.items) staged ∙ whole.kept.staged;
        index = subst (IsIndexOf set.parts) (sym index) whole.kept.index;
      })
      whole.behind.set_is
      (subst (λ c. Stands magic c (front_bytes set ++ item_bytes tag value) (InHead [])) (sym cutter) whole.cutter)
      (counted r next dir set tag value written whole next.start starts) (counted r next dir set tag value written whole next.given count) ended
      (ap (λ (t : ℕ). front_bytes set ++ item_bytes t value) tagged ∙ ap (λ (v : List ℕ). front_bytes set ++ item_bytes 0x1F v) empty ∙ with_end_item set)
      (sym (ap (files_of set.contents) unwritten))
    where
      no_value : (value : List ℕ) → length value ≡ 0 → value ≡ []
      no_value [] is = refl
      no_value (x ∷ value) is = absurd (omega (arith, is))

-- ---- answers

pub on_two : {T E A B C : Type 0} (r : Result T E) → OnOk r A → OnOk r B → (A → B → C) → OnOk r C
on_two (Ok x) a b f = f a b
on_two (Err e) a b f = tt

pub err_map : {T E : Type 0} {P Q : E → Type 0} (r : Result T E) → IfErr r P → ((e : E) → P e → Q e) → IfErr r Q
err_map (Ok x) h f = tt
err_map (Err e) h f = f e h

pub tag_of : (tag own : ℕ) → own ≡ tag → (own ≡ 0x10) ⊎ (own ≡ 0x11) → (tag ≡ 0x10) ⊎ (tag ≡ 0x11)
tag_of tag own same (inl e) = inl (sym same ∙ e)
tag_of tag own same (inr e) = inr (sym same ∙ e)
