-- The fault of what stands where a good item is expected.
use Rattle.std.proofs.Common.{◌≡◌, ℕ, ◌+◌, ◌-◌, ◌<◌, ◌≤◌, inl, inr, Bool, true, false, ◌&&◌, ◌==◌, cond, nat_lt, nat_le, IsTrue, List, [], ◌∷◌, ◌++◌, length, take, drop, Option, Some, None, refl, sym, ap, ◌∙◌, arith, length-append}
use Rattle.std.specs.Prelude.{not, slice_range}
use Rattle.std.specs.Int.{w32, from_be_bytes, to_be_bytes}
use Rattle.std.proofs.lemmas.Bool.{and_parts, not-false, not_from_true, cond-true, cond-false, cases_Bool, ltb-true, ltb-false, le-ltb, eqb-true}
use Rattle.std.proofs.lemmas.List.{length-take, length-drop, take-append-drop}
use Rattle.std.proofs.lemmas.Nat.{be_bytes_4, from_be_bytes-to_be_bytes_4}
use Rattle.trove_stream.specs.cny-base.declared.limits.TheConstants.{CONTENT_ITEM_LIMIT}
use Rattle.trove_stream.specs.cny-base.declared.refusal.Refusal.{Refusal}
use Rattle.trove_stream.specs.cny-base.declared.refusal.Refusal.TheVariants.{Malformed, TooLarge}
use Rattle.trove_stream.specs.cny-base.declared.refusal.What.TheVariants.{Content}
use Rattle.cny_stream.specs.Item.{FitsItem, IsItemAt, item_bytes, is_expected, begins_unexpected, fault_place, value_len}
use Rattle.change_set.specs.FirstFault.{stated_length, begins_content, is_oversized, place_of, fault_of}
use Rattle.change_set.specs.Reading.{IsSmall}
use Rattle.trove_stream.proofs.cny-base.StrFields.{IsBytes, drop_bytes, take_bytes}
use Rattle.cny_stream.proofs.Items.{head_below}

-- ---- a whole item

pub told_item : (tag : ℕ) (value more : List ℕ) → FitsItem value → stated_length (item_bytes tag value ++ more) ≡ length value
told_item tag value more fits = from_be_bytes-to_be_bytes_4 (length value) fits

long_item : (tag : ℕ) (value more : List ℕ) → 5 + length value ≤ length (item_bytes tag value ++ more)
long_item tag value more = omega (arith, length-append (item_bytes tag value) more, length-append (tag ∷ to_be_bytes w32 (length value)) value)

-- a whole item that is oversized is a content, longer than its limit
oversized_item : (tag : ℕ) (value more : List ℕ) → FitsItem value → is_oversized (item_bytes tag value ++ more) ≡ true → (tag ≡ 0x12) × (CONTENT_ITEM_LIMIT < length value)
oversized_item tag value more fits h =
    let rest : List ℕ = item_bytes tag value ++ more in
    let parts = and_parts (nat_le 5 (length rest)) (begins_content rest && nat_lt CONTENT_ITEM_LIMIT (stated_length rest)) h in
    let both = and_parts (tag == 0x12) (nat_lt CONTENT_ITEM_LIMIT (stated_length rest)) parts.1 in
    let over : CONTENT_ITEM_LIMIT < stated_length rest = ltb-true CONTENT_ITEM_LIMIT (stated_length rest) both.1 in
    let told = told_item tag value more fits in
    (eqb-true tag 0x12 both.0, omega (arith, told, over))

not_oversized : (tag : ℕ) (value more : List ℕ) → FitsItem value → IsSmall tag value → is_oversized (item_bytes tag value ++ more) ≡ false
not_oversized tag value more fits small =
    elim (cases_Bool (is_oversized (item_bytes tag value ++ more))) [
      | inl h ↦ let over = oversized_item tag value more fits h in let within = small over.0 in absurd (omega (arith, over.1, within))
      | inr h ↦ h
    ]

value_len_item : (tag : ℕ) (value more : List ℕ) → FitsItem value → value_len (item_bytes tag value ++ more) ≡ Some (length value)
value_len_item tag value more fits =
    let rest : List ℕ = item_bytes tag value ++ more in
    let told = told_item tag value more fits in
    let long = long_item tag value more in
    cond-false (nat_lt (length rest) 5) None (cond (nat_lt (length rest) (5 + stated_length rest)) None (Some (stated_length rest))) (le-ltb (length rest) 5 (omega (arith, long)))
    ∙ cond-false (nat_lt (length rest) (5 + stated_length rest)) None (Some (stated_length rest)) (le-ltb (length rest) (5 + stated_length rest) (omega (arith, long, told)))
    ∙ ap Some told

pub fault_of_item : (tags : List ℕ) (total tag : ℕ) (value more : List ℕ) → FitsItem value → is_expected tags tag ≡ true → IsSmall tag value
    → fault_of tags total (item_bytes tag value ++ more) ≡ Malformed (total - length (item_bytes tag value ++ more))
fault_of_item tags total tag value more fits expected small =
    let rest : List ℕ = item_bytes tag value ++ more in
    cond-false (not (is_expected tags tag)) (Malformed (total - length rest)) (cond (is_oversized rest) (TooLarge Content (stated_length rest - 20)) (place_of total rest (value_len rest))) (not_from_true (is_expected tags tag) expected)
    ∙ cond-false (is_oversized rest) (TooLarge Content (stated_length rest - 20)) (place_of total rest (value_len rest)) (not_oversized tag value more fits small)
    ∙ ap (place_of total rest) (value_len_item tag value more fits)

-- a whole item with an expected tag that isn't too large is at fault at its first byte
pub fault_of_whole : (bytes tags : List ℕ) (at tag from to : ℕ) → at ≤ length bytes → IsItemAt bytes at tag from to → is_expected tags tag ≡ true → IsSmall tag (slice_range bytes from to)
    → fault_of tags (length bytes) (drop at bytes) ≡ Malformed at
fault_of_whole bytes tags at tag from to within is expected small =
    let value : List ℕ = slice_range bytes from to in
    let long : length (drop at bytes) ≡ length (item_bytes tag value ++ drop to bytes) = ap length is.spelled in
    ap (fault_of tags (length bytes)) is.spelled ∙ fault_of_item tags (length bytes) tag value (drop to bytes) is.fits expected small
    ∙ ap Malformed (omega (arith, long, length-drop at bytes))

-- ---- no good item

place_fault : (bytes tags : List ℕ) (at : ℕ) → at ≤ length bytes → is_oversized (drop at bytes) ≡ false → (begins_unexpected tags (drop at bytes) ≡ false → value_len (drop at bytes) ≡ None)
    → fault_of tags (length bytes) (drop at bytes) ≡ Malformed (fault_place bytes at tags)
place_fault bytes tags at within small none =
    let rest : List ℕ = drop at bytes in
    let total : ℕ = length bytes in
    let first : Refusal = Malformed (total - length rest) in
    let large : Refusal = TooLarge Content (stated_length rest - 20) in
    let later : Refusal = place_of total rest (value_len rest) in
    let here : total - length rest ≡ at = omega (arith, length-drop at bytes) in
    elim (cases_Bool (begins_unexpected tags rest)) [
      | inl h ↦ cond-true (begins_unexpected tags rest) first (cond (is_oversized rest) large later) h ∙ ap Malformed here ∙ ap Malformed (sym (cond-true (begins_unexpected tags rest) at total h))
      | inr h ↦
          cond-false (begins_unexpected tags rest) first (cond (is_oversized rest) large later) h ∙ cond-false (is_oversized rest) large later small ∙ ap (place_of total rest) (none h)
          ∙ ap Malformed (sym (cond-false (begins_unexpected tags rest) at total h))
    ]

-- ---- bytes that hold a whole item

chosen : (x y : Bool) (n len : ℕ) → cond x None (cond y None (Some n)) ≡ Some len → (x ≡ false) × (y ≡ false)
chosen true y n len e = absurd cc
chosen false true n len e = absurd cc
chosen false false n len e = (refl, refl)

-- the bytes begin with a whole item
record BeginsWithItem (rest : List ℕ) : Type 0 where
  tag : ℕ
  value : List ℕ
  more : List ℕ
  fits : FitsItem value
  spelled : rest ≡ item_bytes tag value ++ more

whole_front : (rest : List ℕ) (len : ℕ) → IsBytes rest → value_len rest ≡ Some len → BeginsWithItem rest
whole_front [] len bytes e = absurd (cc e)
whole_front (t ∷ []) len bytes e = absurd (cc e)
whole_front (t ∷ a ∷ []) len bytes e = absurd (cc e)
whole_front (t ∷ a ∷ b ∷ []) len bytes e = absurd (cc e)
whole_front (t ∷ a ∷ b ∷ c ∷ []) len bytes e = absurd (cc e)
whole_front (t ∷ a ∷ b ∷ c ∷ d ∷ after) len bytes e =
    let rest : List ℕ = t ∷ a ∷ b ∷ c ∷ d ∷ after in
    let four : List ℕ = a ∷ b ∷ c ∷ d ∷ [] in
    let number : ℕ = from_be_bytes w32 four in
    let value : List ℕ = take number after in
    let small : IsBytes four = take_bytes 4 (drop 1 rest) (drop_bytes 1 rest bytes) in
    let tests = chosen (nat_lt (length rest) 5) (nat_lt (length rest) (5 + number)) number len e in
    let far : 5 + number ≤ length rest = ltb-false (length rest) (5 + number) tests.1 in
    let long : length value ≡ number = omega (arith, length-take number after, far) in
    let below = head_below four small in
    let told : to_be_bytes w32 (length value) ≡ four = be_bytes_4 four (length value) refl small long in
    record {
      tag = t;
      value = value;
      more = drop number after;
      fits = omega (arith, long, below);
      spelled = ap (λ (l : List ℕ). t ∷ (four ++ l)) (sym (take-append-drop number after)) ∙ ap (λ (l : List ℕ). t ∷ ((l ++ value) ++ drop number after)) (sym told);
    }

-- no item with one of these tags is there
abbrev pub NoneThere : List ℕ → List ℕ → Type 0
NoneThere tags rest = (tag : ℕ) (value more : List ℕ) → IsTrue (is_expected tags tag) → FitsItem value → rest ≡ item_bytes tag value ++ more → ⊥

none_whole : (tags rest : List ℕ) → IsBytes rest → NoneThere tags rest → begins_unexpected tags rest ≡ false → value_len rest ≡ None
none_whole tags rest bytes none begins = at (value_len rest) refl
  where
    at : (o : Option ℕ) → value_len rest ≡ o → value_len rest ≡ None
    at None e = e
    at (Some len) e =
        let front = whole_front rest len bytes e in
        let expected : is_expected tags front.tag ≡ true = not-false (is_expected tags front.tag) (sym (ap (begins_unexpected tags) front.spelled) ∙ begins) in
        absurd (none front.tag front.value front.more expected front.fits front.spelled)

-- where no item is, and no content that is too large, the place is told by the first byte
pub none_fault : (bytes tags : List ℕ) (at : ℕ) → at ≤ length bytes → IsBytes bytes → is_oversized (drop at bytes) ≡ false → NoneThere tags (drop at bytes)
    → fault_of tags (length bytes) (drop at bytes) ≡ Malformed (fault_place bytes at tags)
none_fault bytes tags at within are small none = place_fault bytes tags at within small (none_whole tags (drop at bytes) (drop_bytes at bytes are) none)
