-- What isn't decided of the stream of a change set: as long as an item isn't whole, two continuations have two faults.
use Rattle.std.proofs.Common.{◌≡◌, ◌⊎◌, inl, inr, ⊎_elim, ℕ, ◌+◌, ◌-◌, ◌<◌, ◌≤◌, ◌^◌, Bool, true, false, ◌&&◌, ◌==◌, cond, nat_lt, nat_le, IsTrue, List, [], ◌∷◌, ◌++◌, length, Option, Some, None, refl, sym, ap, ◌∙◌, subst, arith, append_assoc, append-nil, length-append}
use Rattle.std.specs.Prelude.{flat_map}
use Rattle.std.specs.Int.{w32, to_be_bytes}
use Rattle.std.proofs.lemmas.Bool.{and_parts, not_from_true, cond-true, cond-false, cases_Bool, ltb-true, le-ltb, lt-ltb, eqb-true, false≢true}
use Rattle.std.proofs.lemmas.Bool.Decides.{nat_tests}
use Rattle.std.proofs.lemmas.List.{append_cancel_left}
use Rattle.std.proofs.lemmas.Nat.{from_be_bytes-to_be_bytes_4}
use Rattle.change_set.specs.cny-base.declared.limits.TheConstants.{CONTENT_ITEM_LIMIT, PARTS_LIMIT}
use Rattle.change_set.specs.cny-base.Below.{begins_with}
use Rattle.change_set.specs.cny-base.declared.refusal.Refusal.{Refusal}
use Rattle.change_set.specs.cny-base.declared.refusal.Refusal.TheVariants.{Malformed, TooLarge}
use Rattle.change_set.specs.cny-base.declared.refusal.What.TheVariants.{Content}
use Rattle.change_set.proofs.cny-base.Below.{begins, begun}
use Rattle.change_set.proofs.cny-base.ItemLaws.{same_front}
use Rattle.cny_stream.specs.Item.{FitsItem, item_bytes, is_expected, begins_unexpected, value_len}
use Rattle.cny_stream.proofs.ItemLaws.{same_four, same_item, same_tail}
use Rattle.cny_stream.specs.Cut.{head_of}
use Rattle.cny_stream.specs.Decided.{Undecided}
use Rattle.cny_stream.proofs.Faults.{no_bytes, one_byte}
use Rattle.change_set.specs.declared.change.ChangeSet.{ChangeSet}
use Rattle.change_set.specs.ChangeSet.{magic, change_bytes, IsChangeSet}
use Rattle.change_set.specs.FirstFault.{StreamItem, Progress, item_text, start, expected_tags, AreGood, progress_to, IsFirstFault, StopsBehind, LacksMagic, fault_of, is_oversized, stated_length, place_of, begins_content}
use Rattle.change_set.specs.Reading.{last_name}
use Rattle.change_set.proofs.ContentsRead.{items_to, items_text, items_progress, items_good}
use Rattle.change_set.proofs.GoodItems.{one_refusal, no_fault, end_expected, stream_item}
use Rattle.change_pull.specs.Front.{front_bytes, tags_behind_set}
use Rattle.change_pull.proofs.Growing.{parts_end, parts_to, read_to, regrouped, whole_set}
use Rattle.change_pull.proofs.Stops.{stops, same_tags}

-- ---- bytes that are less than an item

-- no whole item begins the bytes
abbrev pub NoWhole : List ℕ → Type 0
NoWhole bytes = (tag : ℕ) (value rest : List ℕ) → FitsItem value → bytes ≡ item_bytes tag value ++ rest → ⊥

-- the front of an item that may come, and isn't whole
pub record IsShort (tags front : List ℕ) : Type 0 where
  pub begins : begins_unexpected tags front ≡ false
  pub small : is_oversized front ≡ false
  pub cut : value_len front ≡ None
  pub none : NoWhole front

pub short_head : (tags front : List ℕ) → begins_unexpected tags front ≡ false → length front < 5 → IsShort tags front
short_head tags front first few = record {
  begins = first;
  small = ap (λ (b : Bool). b && (begins_content front && nat_lt CONTENT_ITEM_LIMIT (stated_length front))) (not_five (length front) few);
  cut = cond-true (nat_lt (length front) 5) None (cond (nat_lt (length front) (5 + stated_length front)) None (Some (stated_length front))) (lt-ltb (length front) 5 few);
  none = λ tag value rest fits spelled. omega (arith, few, ap length spelled, length-append (item_bytes tag value) rest, length-append (tag ∷ to_be_bytes w32 (length value)) value);
}
  where
    not_five : (n : ℕ) → n < 5 → nat_le 5 n ≡ false
    not_five n few = grind (arith, nat_tests)

pub short_value : (tags : List ℕ) (tag len : ℕ) (value : List ℕ) → IsTrue (is_expected tags tag) → (tag ≡ 0x12 → len ≤ CONTENT_ITEM_LIMIT) → len < 2 ^ 32 → length value < len → IsShort tags (head_of tag len ++ value)
short_value tags tag len value expected small fits more =
    let front : List ℕ = head_of tag len ++ value in
    let told : stated_length front ≡ len = from_be_bytes-to_be_bytes_4 len fits in
    record {
      begins = not_from_true (is_expected tags tag) expected;
      small = elim (cases_Bool (is_oversized front)) [
        | inl h ↦
            let parts = and_parts (nat_le 5 (length front)) (begins_content front && nat_lt CONTENT_ITEM_LIMIT (stated_length front)) h in
            let both = and_parts (tag == 0x12) (nat_lt CONTENT_ITEM_LIMIT (stated_length front)) parts.1 in
            let over = ltb-true CONTENT_ITEM_LIMIT (stated_length front) both.1 in
            let within = small (eqb-true tag 0x12 both.0) in
            absurd (omega (arith, told, over, within))
        | inr h ↦ h
      ];
      cut = cond-false (nat_lt (length front) 5) None (cond (nat_lt (length front) (5 + stated_length front)) None (Some (stated_length front))) (le-ltb (length front) 5 (omega arith))
          ∙ cond-true (nat_lt (length front) (5 + stated_length front)) None (Some (stated_length front)) (lt-ltb (length front) (5 + stated_length front) (omega (arith, told, more)));
      none = λ other value' rest fits' spelled.
          let tails = same_tail tag other (to_be_bytes w32 len ++ value) ((to_be_bytes w32 (length value') ++ value') ++ rest) spelled in
          let both = same_four len (length value') value (value' ++ rest) fits fits' (tails.1 ∙ append_assoc (to_be_bytes w32 (length value')) value' rest) in
          omega (arith, both.0, ap length both.1, more, length-append value' rest);
    }

-- ---- the first fault of what was given, if nothing more came

pub at_open : (set : ChangeSet) (front : List ℕ) → IsChangeSet set → IsShort (tags_behind_set set) front → IsFirstFault (front_bytes set ++ front) (Malformed (length (front_bytes set ++ front)))
at_open set front is short =
    let total : ℕ = length (front_bytes set ++ front) in
    stops set front (Malformed total) is
    (λ item rest spelled next. short.none item.tag item.value rest next.fits spelled)
    (sym (cond-false (begins_unexpected (tags_behind_set set) front) (Malformed (total - length front)) (cond (is_oversized front) (TooLarge Content (stated_length front - 20)) (place_of total front (value_len front))) short.begins
    ∙ cond-false (is_oversized front) (TooLarge Content (stated_length front - 20)) (place_of total front (value_len front)) short.small
    ∙ ap (place_of total front) short.cut))

-- ---- one list of items and less than an item

same_fronts : (xs ys : List StreamItem) (p q : Progress) (left : List ℕ) → AreGood p xs → AreGood q ys → NoWhole left → flat_map item_text xs ≡ flat_map item_text ys ++ left → (xs ≡ ys) × (left ≡ [])
same_fronts [] [] p q left xs_good ys_good none e = (refl, sym e)
same_fronts [] (y ∷ ys) p q left xs_good ys_good none e = absurd (cc)
same_fronts (x ∷ xs) [] p q left xs_good ys_good none e = absurd (none x.tag x.value (flat_map item_text xs) xs_good.0.fits (sym e))
same_fronts (x ∷ xs) (y ∷ ys) p q left xs_good ys_good none e =
    let heads = same_item x.tag y.tag x.value y.value (flat_map item_text xs) (flat_map item_text ys ++ left) xs_good.0.fits ys_good.0.fits (e ∙ append_assoc (item_text y) (flat_map item_text ys) left) in
    let same : x ≡ y = ap (λ (tag : ℕ). stream_item tag x.value) heads.tags ∙ ap (stream_item y.tag) heads.values in
    let tails = same_fronts xs ys _ _ left xs_good.1 ys_good.1 none heads.rests in
    (ap (λ (l : List StreamItem). x ∷ l) tails.0 ∙ ap (λ (z : StreamItem). z ∷ ys) same, tails.1)

-- where a malformed item lies
placed : (tags : List ℕ) (total : ℕ) (rest : List ℕ) (at : ℕ) → fault_of tags total rest ≡ Malformed at → (at ≡ total) ⊎ (at ≡ total - length rest)
placed tags total rest at e = by (begins_unexpected tags rest) (is_oversized rest) (value_len rest) e
  where
    by : (x y : Bool) (o : Option ℕ) → cond x (Malformed (total - length rest)) (cond y (TooLarge Content (stated_length rest - 20)) (place_of total rest o)) ≡ Malformed at → (at ≡ total) ⊎ (at ≡ total - length rest)
    by true y o e = inr (cc)
    by false true o e = absurd (cc)
    by false false None e = inl (cc)
    by false false (Some n) e = inr (cc)

-- one byte more, which might be the first one of the end
abbrev end_byte : List ℕ
end_byte = 0x1F ∷ []

end_cut : (tags : List ℕ) (total : ℕ) → IsTrue (is_expected tags 0x1F) → fault_of tags total end_byte ≡ Malformed total
end_cut tags total expected =
    cond-false (begins_unexpected tags end_byte) (Malformed (total - length end_byte)) (cond (is_oversized end_byte) (TooLarge Content (stated_length end_byte - 20)) (place_of total end_byte (value_len end_byte))) (not_from_true (is_expected tags 0x1F) expected)

not_here : (set : ChangeSet) (front : List ℕ) → IsChangeSet set → IsShort (tags_behind_set set) front → StopsBehind ((front_bytes set ++ front) ++ end_byte) (Malformed (length (front_bytes set ++ front))) → ⊥
not_here set front is short stop =
    let given : List ℕ = front_bytes set ++ front in
    let total : ℕ = length (given ++ end_byte) in
    let longer : total ≡ length given + 1 = length-append given end_byte in
    let eight : 8 ≤ length given = omega (arith, length-append (front_bytes set) front) in
    let read : List StreamItem = items_to set.parts set.contents in
    let lies = placed (expected_tags (progress_to start stop.items)) total stop.rest (length given) (sym stop.refused) in
    let one : length stop.rest ≡ 1 = ⊎_elim (λ (here : length given ≡ total). absurd (omega (arith, here, longer))) (λ (here : length given ≡ total - length stop.rest). omega (arith, here, longer, eight)) lies in
    let apart : given ++ end_byte ≡ (magic ++ flat_map item_text stop.items) ++ stop.rest = stop.spelled ∙ sym (append_assoc magic (flat_map item_text stop.items) stop.rest) in
    let long : length given ≡ length (magic ++ flat_map item_text stop.items) = omega (arith, ap length apart, longer, one, length-append (magic ++ flat_map item_text stop.items) stop.rest) in
    let both = same_front given (magic ++ flat_map item_text stop.items) end_byte stop.rest long apart in
    let spelled : magic ++ flat_map item_text stop.items ≡ magic ++ (flat_map item_text read ++ front) =
    sym both.0 ∙ regrouped set front ∙ ap (λ (l : List ℕ). magic ++ l) (sym (items_text set.parts set.contents front)) in
    let good = items_good given set.parts set.contents (parts_end set) (length (front_bytes set)) (parts_to set front is) (read_to set front is) in
    let same = same_fronts stop.items read start start front stop.good good short.none (append_cancel_left magic (flat_map item_text stop.items) (flat_map item_text read ++ front) spelled) in
    let tags : expected_tags (progress_to start stop.items) ≡ tags_behind_set set =
    ap (λ (items : List StreamItem). expected_tags (progress_to start items)) same.0 ∙ ap expected_tags (items_progress set.parts set.contents is.has_contents.contents) ∙ same_tags set in
    let expected = end_expected false (nat_lt (length set.parts) PARTS_LIMIT) (last_name set.contents) refl in
    let there : Malformed (length given) ≡ Malformed total =
    stop.refused ∙ ap (λ (t : List ℕ). fault_of t total stop.rest) tags ∙ ap (fault_of (tags_behind_set set) total) (sym both.1) ∙ end_cut (tags_behind_set set) total expected in
    let place : length given ≡ total = malformed_same (length given) total there in
    omega (arith, place, longer)
  where
    malformed_same : (a b : ℕ) → (let x : Refusal = Malformed a in x ≡ Malformed b) → a ≡ b
    malformed_same a b e = cc

has_magic : (rest : List ℕ) (bytes : List ℕ) → bytes ≡ magic ++ rest → begins_with magic bytes ≡ true
has_magic rest bytes spelled = ap (begins_with magic) spelled ∙ begins magic rest

pub open_undecided : (set : ChangeSet) (front : List ℕ) → IsChangeSet set → IsShort (tags_behind_set set) front → Undecided IsFirstFault (front_bytes set ++ front)
open_undecided set front is short fault decided =
    let given : List ℕ = front_bytes set ++ front in
    let now : fault ≡ Malformed (length given) = one_refusal given fault (Malformed (length given)) (subst (λ (l : List ℕ). IsFirstFault l fault) (append-nil given) (decided [] no_bytes)) (at_open set front is short) in
    let later : IsFirstFault (given ++ end_byte) (Malformed (length given)) = subst (IsFirstFault (given ++ end_byte)) now (decided end_byte (one_byte 0x1F (omega arith))) in
    ⊎_elim (λ (lack : LacksMagic (given ++ end_byte) (Malformed (length given))). false≢true (sym lack.lacks
    ∙ has_magic _ (given ++ end_byte) (append_assoc (front_bytes set) front end_byte ∙ regrouped set (front ++ end_byte))))
    (λ (stop : StopsBehind (given ++ end_byte) (Malformed (length given))). not_here set front is short stop) later

-- ---- a whole set

pub whole_undecided : (set : ChangeSet) → IsChangeSet set → Undecided IsFirstFault (change_bytes set)
whole_undecided set is fault decided =
    no_fault (change_bytes set) fault set (subst (λ (l : List ℕ). IsFirstFault l fault) (append-nil (change_bytes set)) (decided [] no_bytes)) (whole_set set (change_bytes set) is refl)

-- ---- some of the magic

-- another last byte
last_differs : (xs ys : List ℕ) (a b : ℕ) → (a == b) ≡ false → length ys ≤ length xs → begins_with (xs ++ a ∷ []) (ys ++ b ∷ []) ≡ false
last_differs [] [] a b other long = ap (λ (t : Bool). t && true) other
last_differs [] (y ∷ ys) a b other long = absurd (omega arith)
last_differs (x ∷ []) [] a b other long = never (x == b)
  where
    never : (t : Bool) → (t && false) ≡ false
    never true = refl
    never false = refl
last_differs (x ∷ z ∷ xs) [] a b other long = never (x == b)
  where
    never : (t : Bool) → (t && false) ≡ false
    never true = refl
    never false = refl
last_differs (x ∷ xs) (y ∷ ys) a b other long = ap (λ (t : Bool). (x == y) && t) (last_differs xs ys a b other (omega arith)) ∙ never (x == y)
  where
    never : (t : Bool) → (t && false) ≡ false
    never true = refl
    never false = refl

shorter_lacks : (bytes : List ℕ) → length bytes < 8 → begins_with magic bytes ≡ false
shorter_lacks bytes few = elim (cases_Bool (begins_with magic bytes)) [
  | inl is ↦ let rest = begun magic bytes is in absurd (omega (arith, few, ap length rest.1))
  | inr is ↦ is
]

pub at_magic : (given : List ℕ) → length given < 8 → IsFirstFault given (Malformed (length given))
at_magic given few = inl (record {
  lacks = shorter_lacks given few;
  refused = ap Malformed (sym (cond-true (nat_lt (length given) 8) (length given) 0 (lt-ltb (length given) 8 few)));
})

pub magic_undecided : (given : List ℕ) → length given < 8 → Undecided IsFirstFault given
magic_undecided given few fault decided =
    let zero_byte : List ℕ = 0 ∷ [] in
    let more : List ℕ = given ++ zero_byte in
    let long : length more ≡ length given + 1 = length-append given zero_byte in
    let now = one_refusal given fault (Malformed (length given)) (subst (λ (l : List ℕ). IsFirstFault l fault) (append-nil given) (decided [] no_bytes)) (at_magic given few) in
    let lacks : begins_with magic more ≡ false = last_differs (67 ∷ 78 ∷ 89 ∷ 67 ∷ 83 ∷ 48 ∷ 49 ∷ []) given 10 0 refl (omega arith) in
    let then : IsFirstFault more (Malformed (cond (nat_lt (length more) 8) (length more) 0)) = inl (record { lacks = lacks; refused = refl }) in
    let later = one_refusal more fault (Malformed (cond (nat_lt (length more) 8) (length more) 0)) (decided zero_byte (one_byte 0 (omega arith))) then in
    let place : length given ≡ cond (nat_lt (length more) 8) (length more) 0 = malformed_same (length given) (cond (nat_lt (length more) 8) (length more) 0) (sym now ∙ later) in
    elim (cases_Bool (nat_lt (length more) 8)) [
      | inl h ↦ let here = cond-true (nat_lt (length more) 8) (length more) 0 h in omega (arith, place, here, long)
      | inr h ↦ let here = cond-false (nat_lt (length more) 8) (length more) 0 h in let full = not_less (length more) h in omega (arith, place, here, long, full)
    ]
  where
    malformed_same : (a b : ℕ) → (let x : Refusal = Malformed a in x ≡ Malformed b) → a ≡ b
    malformed_same a b e = cc

    not_less : (n : ℕ) → nat_lt n 8 ≡ false → 8 ≤ n
    not_less n h = grind (arith, nat_tests)
