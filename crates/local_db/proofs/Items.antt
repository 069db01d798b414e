-- Items of one tag are those of one list.
use Rattle.std.proofs.Common.{◌≡◌, ℕ, ◌+◌, ◌<◌, ◌^◌, false, List, [], ◌∷◌, ◌++◌, length, All, refl, sym, ◌∙◌, ap, subst, arith, append_assoc, length-append}
use Rattle.std.specs.Int.{w32, to_be_bytes}
use Rattle.std.proofs.lemmas.Bool.{false≢true}
use Rattle.std.proofs.lemmas.List.Elements.{All-nil, All-cons, All-head, All-tail}
use Rattle.cny_stream.specs.Item.{FitsItem, item_bytes}
use Rattle.cny_stream.proofs.ItemLaws.{same_item}
use Rattle.trove_stream.specs.trove-parts.Items.{items_bytes, begins_with_tag}
use Rattle.trove_stream.proofs.cny-base.Below.{equal_test as itself}

item_length : (tag : ℕ) (v rest : List ℕ) → length (item_bytes tag v ++ rest) ≡ 5 + length v + length rest
item_length tag v rest = omega (arith, length-append (item_bytes tag v) rest, length-append (tag ∷ to_be_bytes w32 (length v)) v)

pub shorter : (a b : List ℕ) → length (a ++ b) < 2 ^ 32 → length b < 2 ^ 32
shorter a b long = omega (arith, long, length-append a b)

module _ {A : Type 0} (value : A → List ℕ) (IsValid : A → Type 0) (tag : ℕ) (once : (x y : A) → IsValid x → IsValid y → value x ≡ value y → x ≡ y) where
  pub all_fit : (xs : List A) (r : List ℕ) → length (items_bytes value tag xs ++ r) < 2 ^ 32 → All (λ x. FitsItem (value x)) xs
  all_fit [] r long = All-nil (λ x. FitsItem (value x))
  all_fit (x ∷ xs) r long =
      let more : length (item_bytes tag (value x) ++ (items_bytes value tag xs ++ r)) < 2 ^ 32 = subst (λ (l : List ℕ). length l < 2 ^ 32) (append_assoc (item_bytes tag (value x)) (items_bytes value tag xs) r) long in
      All-cons (λ x. FitsItem (value x)) x xs (omega (arith, more, item_length tag (value x) (items_bytes value tag xs ++ r))) (all_fit xs r (shorter (item_bytes tag (value x)) (items_bytes value tag xs ++ r) more))

  pub one_items : (xs ys : List A) (r s : List ℕ) → All IsValid xs → All IsValid ys → All (λ x. FitsItem (value x)) xs → All (λ x. FitsItem (value x)) ys
      → begins_with_tag tag r ≡ false → begins_with_tag tag s ≡ false → items_bytes value tag xs ++ r ≡ items_bytes value tag ys ++ s → (xs ≡ ys) × (r ≡ s)
  one_items [] [] r s vx vy fx fy er es e = (refl, e)
  one_items [] (y ∷ ys) r s vx vy fx fy er es e = absurd (false≢true (sym er ∙ ap (begins_with_tag tag) e ∙ itself tag))
  one_items (x ∷ xs) [] r s vx vy fx fy er es e = absurd (false≢true (sym es ∙ ap (begins_with_tag tag) (sym e) ∙ itself tag))
  one_items (x ∷ xs) (y ∷ ys) r s vx vy fx fy er es e =
      let items = same_item tag tag (value x) (value y) (items_bytes value tag xs ++ r) (items_bytes value tag ys ++ s)
      (All-head (λ x. FitsItem (value x)) x xs fx) (All-head (λ x. FitsItem (value x)) y ys fy)
      (sym (append_assoc (item_bytes tag (value x)) (items_bytes value tag xs) r) ∙ e ∙ append_assoc (item_bytes tag (value y)) (items_bytes value tag ys) s) in
      let head = once x y (All-head IsValid x xs vx) (All-head IsValid y ys vy) items.values in
      let tail = one_items xs ys r s (All-tail IsValid x xs vx) (All-tail IsValid y ys vy) (All-tail (λ x. FitsItem (value x)) x xs fx) (All-tail (λ x. FitsItem (value x)) y ys fy) er es items.rests in
      (λ i. head i ∷ tail.0 i, tail.1)
