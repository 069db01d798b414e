-- Two lists of items, one behind the other, whose tags follow each other; and two ids before them.
use Rattle.std.specs.Prelude.{◌≡◌, ℕ, ◌+◌, ◌≤◌, false, List, ◌++◌, length, drop}
use Rattle.cny_stream.specs.Item.{item_bytes}
use Rattle.trove_parts.specs.declared.id.TroveId.{TroveId}
use Rattle.trove_parts.specs.Id.{id_bytes}
use Rattle.trove_parts.specs.Items.{items_bytes, begins_with_tag}

abbrev pub pair_bytes : {A B : Type 0} → (A → List ℕ) → (B → List ℕ) → ℕ → List A → List B → List ℕ
pair_bytes value value' tag xs ys = items_bytes value tag xs ++ items_bytes value' (tag + 1) ys

-- The bytes are those of the two lists and then the rest, which doesn't go on with either tag.
pub record BeginsWithPair {A B : Type 0} (value : A → List ℕ) (value' : B → List ℕ) (tag : ℕ) (bytes : List ℕ) (xs : List A) (ys : List B) (rest : List ℕ) : Type 0 where
  pub spelled : bytes ≡ pair_bytes value value' tag xs ys ++ rest
  pub first_ended : begins_with_tag tag rest ≡ false
  pub second_ended : begins_with_tag (tag + 1) rest ≡ false

-- The items of the two lists stand from `at` up to `to`.
pub record IsPairAt {A B : Type 0} (value : A → List ℕ) (value' : B → List ℕ) (tag : ℕ) (bytes : List ℕ) (at : ℕ) (xs : List A) (ys : List B) (to : ℕ) : Type 0 where
  pub order : at ≤ to
  pub within : to ≤ length bytes
  pub spelled : drop at bytes ≡ pair_bytes value value' tag xs ys ++ drop to bytes

abbrev pub ids_bytes : TroveId → TroveId → List ℕ
ids_bytes old fresh = item_bytes 0x21 (id_bytes old) ++ item_bytes 0x22 (id_bytes fresh)

-- The items of the two ids are the first, and end at `to`.
pub record AreIdsTo (bytes : List ℕ) (old fresh : TroveId) (to : ℕ) : Type 0 where
  pub within : to ≤ length bytes
  pub spelled : bytes ≡ ids_bytes old fresh ++ drop to bytes
