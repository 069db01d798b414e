-- Items with the same spelling are the same.
use Rattle.std.specs.Prelude.{◌≡◌, ℕ, ◌<◌, ◌^◌, List, [], ◌∷◌, ◌++◌, length, refl}
use Rattle.std.proofs.Common.{sym, ap, ◌∙◌, append_assoc, append-nil}
use Rattle.std.proofs.lemmas.Nat.{from_be_bytes-to_be_bytes_4}
use Rattle.std.specs.Int.{w32, to_be_bytes, from_be_bytes}
use Rattle.cny_stream.specs.Item.{FitsItem, item_bytes}
use Rattle.cny_stream.specs.ItemLaws.{SameItem}
use Rattle.cny_base.proofs.ItemLaws.{same_front}

-- two numbers in four bytes
pub same_four : (m n : ℕ) (r q : List ℕ) → m < 2 ^ 32 → n < 2 ^ 32 → to_be_bytes w32 m ++ r ≡ to_be_bytes w32 n ++ q → (m ≡ n) × (r ≡ q)
same_four m n r q m_fits n_fits e =
    let both = same_front (to_be_bytes w32 m) (to_be_bytes w32 n) r q refl e in
    (sym (from_be_bytes-to_be_bytes_4 m m_fits) ∙ ap (from_be_bytes w32) both.0 ∙ from_be_bytes-to_be_bytes_4 n n_fits, both.1)

pub same_tail : (x y : ℕ) (r q : List ℕ) → x ∷ r ≡ y ∷ q → (x ≡ y) × (r ≡ q)
same_tail x y r q e = (cc, cc)

pub same_item : (tag tag' : ℕ) (value value' rest rest' : List ℕ) → FitsItem value → FitsItem value'
    → item_bytes tag value ++ rest ≡ item_bytes tag' value' ++ rest' → SameItem tag tag' value value' rest rest'
same_item tag tag' v w r q v_fits w_fits e =
    let tags = same_tail tag tag' ((to_be_bytes w32 (length v) ++ v) ++ r) ((to_be_bytes w32 (length w) ++ w) ++ q) e in
    let lengths = same_four (length v) (length w) (v ++ r) (w ++ q) v_fits w_fits (sym (append_assoc (to_be_bytes w32 (length v)) v r) ∙ tags.1 ∙ append_assoc (to_be_bytes w32 (length w)) w q) in
    let both = same_front v w r q lengths.0 lengths.1 in
    record { tags = tags.0; values = both.0; rests = both.1 }

-- no item is a proper prefix of another
pub no_prefix : (tag tag' : ℕ) (value value' rest : List ℕ) → FitsItem value → FitsItem value' → item_bytes tag value ++ rest ≡ item_bytes tag' value' → rest ≡ []
no_prefix tag tag' v w r v_fits w_fits e = (same_item tag tag' v w r [] v_fits w_fits (e ∙ sym (append-nil (item_bytes tag' w)))).rests
