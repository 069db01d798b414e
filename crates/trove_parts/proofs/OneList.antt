-- The items at the front of bytes are those of one list.
use Rattle.std.proofs.Common.{◌≡◌, ℕ, false, List, [], ◌∷◌, ◌++◌, All, refl, sym, ap, ◌∙◌, append_assoc}
use Rattle.std.proofs.lemmas.Bool.{false≢true}
use Rattle.std.proofs.lemmas.List.Elements.{All-head, All-tail}
use Rattle.cny_stream.specs.Item.{FitsItem, item_bytes}
use Rattle.cny_stream.proofs.ItemLaws.{same_item}
use Rattle.trove_parts.specs.Items.{items_bytes, begins_with_tag, AreOfOneList}
use Rattle.cny_version.proofs.cny-base.Below.{equal_test as itself}

module _ {A : Type 0} (value value' : A → List ℕ) (IsValid : A → Type 0) (fits : (x : A) → IsValid x → FitsItem (value x)) (fits' : (x : A) → IsValid x → FitsItem (value' x))
    (once : (x y : A) → IsValid x → IsValid y → value x ≡ value' y → x ≡ y) (tag : ℕ) where
  same_lists : (xs ys : List A) (r s : List ℕ) → All IsValid xs → All IsValid ys → begins_with_tag tag r ≡ false → begins_with_tag tag s ≡ false
      → items_bytes value tag xs ++ r ≡ items_bytes value' tag ys ++ s → (xs ≡ ys) × (r ≡ s)
  same_lists [] [] r s xs_are ys_are r_ends s_ends e = (refl, e)
  same_lists [] (y ∷ ys) r s xs_are ys_are r_ends s_ends e = absurd (false≢true (sym r_ends ∙ ap (begins_with_tag tag) e ∙ itself tag))
  same_lists (x ∷ xs) [] r s xs_are ys_are r_ends s_ends e = absurd (false≢true (sym s_ends ∙ ap (begins_with_tag tag) (sym e) ∙ itself tag))
  same_lists (x ∷ xs) (y ∷ ys) r s xs_are ys_are r_ends s_ends e =
      let x_is = All-head IsValid x xs xs_are in
      let y_is = All-head IsValid y ys ys_are in
      let items = same_item tag tag (value x) (value' y) (items_bytes value tag xs ++ r) (items_bytes value' tag ys ++ s) (fits x x_is) (fits' y y_is)
      (sym (append_assoc (item_bytes tag (value x)) (items_bytes value tag xs) r) ∙ e ∙ append_assoc (item_bytes tag (value' y)) (items_bytes value' tag ys) s) in
      let head = once x y x_is y_is items.values in
      let tail = same_lists xs ys r s (All-tail IsValid x xs xs_are) (All-tail IsValid y ys ys_are) r_ends s_ends items.rests in
      (λ i. head i ∷ tail.0 i, tail.1)

pub of_one_list : {A : Type 0} (value value' : A → List ℕ) (IsValid : A → Type 0) → ((x : A) → IsValid x → FitsItem (value x)) → ((x : A) → IsValid x → FitsItem (value' x))
    → ((x y : A) → IsValid x → IsValid y → value x ≡ value' y → x ≡ y) → AreOfOneList value value' IsValid
of_one_list value value' IsValid fits fits' once tag bytes xs ys rest rest' xs_are ys_are one other =
    same_lists value value' IsValid fits fits' once tag xs ys rest rest' xs_are ys_are one.ended other.ended (sym one.spelled ∙ other.spelled)
