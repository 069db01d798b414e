-- The items read so far are a front of all items of the tag.
use Rattle.std.proofs.Common.{◌≡◌, ℕ, ◌≤◌, Bool, true, false, List, [], ◌∷◌, ◌++◌, length, drop, All, Option, Some, None, refl, sym, ap, ◌∙◌, subst, arith, append_assoc, append-nil, Ordering, IsTrue}
use Rattle.std.specs.List.Sorted.{IsStrictlySortedBy}
use Rattle.std.proofs.lemmas.Bool.{false≢true}
use Rattle.std.proofs.lemmas.List.Concat.{flat_map-append}
use Rattle.std.proofs.lemmas.List.Elements.{All-nil, All-head, All-tail, All-push}
use Rattle.cny_stream.specs.Item.{item_bytes}
use Rattle.trove_parts.specs.Items.{items_bytes, begins_with_tag, IsRisingList, IsWithin, BeginsWithItems, IsValueAt}
use Rattle.trove_parts.proofs.Rising.{rising_front}
use Rattle.cny_version.proofs.cny-base.Below.{equal_test as itself}

-- the elements are those of the items from `at` up to `end`
pub record IsReadTo {A : Type 0} (value : A → List ℕ) (IsValid : A → Type 0) (compare : A → A → Ordering) (bytes : List ℕ) (at tag : ℕ) (xs : List A) (end : ℕ) : Type 0 where
  pub order : at ≤ end
  pub within : end ≤ length bytes
  pub list : IsRisingList IsValid compare xs
  pub spelled : drop at bytes ≡ items_bytes value tag xs ++ drop end bytes

-- what is left of all elements, and how it is spelled
pub record IsTail {A : Type 0} (value : A → List ℕ) (IsValid : A → Type 0) (tag : ℕ) (all front tail : List A) (bytes rest : List ℕ) : Type 0 where
  pub split : all ≡ front ++ tail
  pub valid : All IsValid tail
  pub spelled : bytes ≡ items_bytes value tag tail ++ rest

-- the elements are a front of those of any list whose items the bytes begin with
abbrev pub IsFrontOfAll : {A : Type 0} (value : A → List ℕ) (IsValid : A → Type 0) (tag : ℕ) (from bytes : List ℕ) (front : List A) → Type 0
IsFrontOfAll {A} value IsValid tag from bytes front =
    (all : List A) (rest : List ℕ) → All IsValid all → BeginsWithItems value tag from all rest → (tail : List A) × IsTail value IsValid tag all front tail bytes rest

-- ---- limits

pub within_none : (limit : Option ℕ) → IsWithin limit 0
within_none None = tt
within_none (Some most) = omega arith

-- fewer are within the limit too
pub within_fewer : (limit : Option ℕ) (few many : ℕ) → few ≤ many → IsWithin limit many → IsWithin limit few
within_fewer None few many le within = tt
within_fewer (Some most) few many le within = omega (arith, le, within)

-- ---- fronts

module _ {A : Type 0} (value : A → List ℕ) (IsValid : A → Type 0) (tag : ℕ) where
  pub none_read : (from : List ℕ) → IsFrontOfAll value IsValid tag from from []
  none_read from all rest valid begins = (all, record { split = refl; valid = valid; spelled = begins.spelled })

  pub none_to : (compare : A → A → Ordering) (bytes : List ℕ) (at : ℕ) → at ≤ length bytes → IsReadTo value IsValid compare bytes at tag [] at
  unfolding IsStrictlySortedBy
  none_to compare bytes at within = record { order = omega arith; within = within; list = record { valid = All-nil IsValid; rising = tt }; spelled = refl }

  -- where no further item begins, none is left
  pub no_tail : (all front tail : List A) (bytes rest : List ℕ) → IsTail value IsValid tag all front tail bytes rest → begins_with_tag tag bytes ≡ false → (front ≡ all) × (bytes ≡ rest)
  no_tail all front [] bytes rest t ended = (sym (t.split ∙ append-nil front), t.spelled)
  no_tail all front (x ∷ tail) bytes rest t ended = absurd (false≢true (sym ended ∙ ap (begins_with_tag tag) t.spelled ∙ itself tag))

  -- an element is left whose item comes next
  pub record IsNext (all front : List A) (bytes rest : List ℕ) (x : A) (more : List A) : Type 0 where
    pub split : all ≡ front ++ x ∷ more
    pub valid : IsValid x
    pub others : All IsValid more
    pub spelled : bytes ≡ item_bytes tag (value x) ++ (items_bytes value tag more ++ rest)

  pub next_of : (all front tail : List A) (bytes rest : List ℕ) → IsTail value IsValid tag all front tail bytes rest → begins_with_tag tag bytes ≡ true → begins_with_tag tag rest ≡ false
      → (x : A) × (more : List A) × IsNext all front bytes rest x more
  next_of all front [] bytes rest t begins ended = absurd (false≢true (sym ended ∙ sym (ap (begins_with_tag tag) t.spelled) ∙ begins))
  next_of all front (x ∷ tail) bytes rest t begins ended = (
    x,
    tail,
    record {
      split = t.split;
      valid = All-head IsValid x tail t.valid;
      others = All-tail IsValid x tail t.valid;
      spelled = t.spelled ∙ append_assoc (item_bytes tag (value x)) (items_bytes value tag tail) rest;
    },
  )

  pub pushed : (front more : List A) (x : A) → front ++ x ∷ more ≡ (front ++ x ∷ []) ++ more
  pushed front more x = sym (append_assoc front (x ∷ []) more)

  pub rising_next : (compare : A → A → Ordering) (all front : List A) (bytes rest : List ℕ) (x : A) (more : List A) → IsNext all front bytes rest x more → IsStrictlySortedBy compare all
      → IsStrictlySortedBy compare (front ++ x ∷ [])
  rising_next compare all front bytes rest x more next rising = rising_front compare (front ++ x ∷ []) more (subst (IsStrictlySortedBy compare) (next.split ∙ pushed front more x) rising)

  -- the element that was read is the next one of any list
  pub one_more : (from bytes behind : List ℕ) (front : List A) (x : A) → IsFrontOfAll value IsValid tag from bytes front → begins_with_tag tag bytes ≡ true
      → ((y : A) (rest : List ℕ) → IsValid y → bytes ≡ item_bytes tag (value y) ++ rest → (x ≡ y) × (behind ≡ rest)) → IsFrontOfAll value IsValid tag from behind (front ++ x ∷ [])
  one_more from bytes behind front x all_front begins only all rest valid start =
      let t = all_front all rest valid start in
      let next = next_of all front t.0 bytes rest t.1 begins start.ended in
      let same = only next.0 (items_bytes value tag next.1 ++ rest) next.2.valid next.2.spelled in (
        next.1,
        record {
          split = next.2.split ∙ pushed front next.1 next.0 ∙ ap (λ (y : A). (front ++ y ∷ []) ++ next.1) (sym same.0);
          valid = next.2.others;
          spelled = same.1;
        },
      )

  pub items_push : (front : List A) (x : A) (rest : List ℕ) → items_bytes value tag front ++ (item_bytes tag (value x) ++ rest) ≡ items_bytes value tag (front ++ x ∷ []) ++ rest
  items_push front x rest =
      sym (append_assoc (items_bytes value tag front) (item_bytes tag (value x)) rest)
      ∙ ap (λ l. l ++ rest) (ap (λ l. items_bytes value tag front ++ l) (sym (append-nil (item_bytes tag (value x)))) ∙ sym (flat_map-append (λ y. item_bytes tag (value y)) front (x ∷ [])))

  pub read_more : (compare : A → A → Ordering) (bytes : List ℕ) (at end to : ℕ) (xs : List A) (x : A) → IsReadTo value IsValid compare bytes at tag xs end
      → IsValueAt value bytes end tag x to → IsValid x → IsStrictlySortedBy compare (xs ++ x ∷ []) → IsReadTo value IsValid compare bytes at tag (xs ++ x ∷ []) to
  read_more compare bytes at end to xs x read item valid rising =
      let before = read.order in
      let step = item.order in
      record {
        order = omega arith;
        within = item.within;
        list = record { valid = All-push IsValid xs x read.list.valid valid; rising = rising };
        spelled = read.spelled ∙ ap (λ l. items_bytes value tag xs ++ l) item.spelled ∙ items_push xs x (drop to bytes);
      }

  -- a test that says whether one more element may come
  pub refused : (compare : A → A → Ordering) (b : Bool) (seen items : List A) (x y : A) → (IsTrue b → IsStrictlySortedBy compare (seen ++ x ∷ [])) × (IsStrictlySortedBy compare (seen ++ x ∷ []) → IsTrue b)
      → b ≡ false → seen ≡ items → x ≡ y → IsStrictlySortedBy compare (items ++ y ∷ []) → ⊥
  refused compare b seen items x y test is same one rises =
      false≢true (sym is ∙ test.1 (subst (λ (l : List A). IsStrictlySortedBy compare (l ++ x ∷ [])) (sym same) (subst (λ (z : A). IsStrictlySortedBy compare (items ++ z ∷ [])) (sym one) rises)))

  pub taken : (compare : A → A → Ordering) (b : Bool) (seen items : List A) (x : A) → (IsTrue b → IsStrictlySortedBy compare (seen ++ x ∷ [])) × (IsStrictlySortedBy compare (seen ++ x ∷ []) → IsTrue b)
      → b ≡ true → seen ≡ items → IsStrictlySortedBy compare (items ++ x ∷ [])
  taken compare b seen items x test is same = subst (λ (l : List A). IsStrictlySortedBy compare (l ++ x ∷ [])) same (test.0 is)
