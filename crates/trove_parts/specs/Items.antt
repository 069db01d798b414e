-- Lists of items of one tag in a stream, over the values of their elements.
use Rattle.std.specs.Prelude.{◌≡◌, ℕ, ◌≤◌, Bool, false, ◌==◌, List, [], ◌∷◌, ◌++◌, length, drop, All, Option, Some, None}
use Rattle.std.specs.List.{flat_map}
use Rattle.std.specs.List.Sorted.{IsStrictlySortedBy}
use Rattle.std.specs.declared.cmp.Ordering.{Ordering}
use Rattle.cny_stream.specs.Item.{item_bytes}

-- an item for each element, in their order, each of this tag
abbrev pub items_bytes : {A : Type 0} → (A → List ℕ) → ℕ → List A → List ℕ
items_bytes value tag xs = flat_map (λ x. item_bytes tag (value x)) xs

-- whether the first byte is this tag
abbrev pub begins_with_tag : ℕ → List ℕ → Bool
begins_with_tag tag [] = false
begins_with_tag tag (b ∷ bytes) = b == tag

-- elements that are valid, each below those after it
pub record IsRisingList {A : Type 0} (IsValid : A → Type 0) (compare : A → A → Ordering) (xs : List A) : Type 0 where
  pub valid : All IsValid xs
  pub rising : IsStrictlySortedBy compare xs

-- The bytes are the items of these elements and then the rest, which doesn't go on with that tag.
pub record BeginsWithItems {A : Type 0} (value : A → List ℕ) (tag : ℕ) (bytes : List ℕ) (xs : List A) (rest : List ℕ) : Type 0 where
  pub spelled : bytes ≡ items_bytes value tag xs ++ rest
  pub ended : begins_with_tag tag rest ≡ false

-- Lists of valid elements whose items the same bytes begin with are one list, with the same rest.
abbrev pub AreOfOneList : {A : Type 0} (value value' : A → List ℕ) (IsValid : A → Type 0) → Type 0
AreOfOneList {A} value value' IsValid =
    (tag : ℕ) (bytes : List ℕ) (xs ys : List A) (rest rest' : List ℕ) → All IsValid xs → All IsValid ys
    → BeginsWithItems value tag bytes xs rest → BeginsWithItems value' tag bytes ys rest' → (xs ≡ ys) × (rest ≡ rest')

-- All items of this tag that begin at `at`, one behind the other, are those of these elements, and end at `to`.
pub record AreItemsAt {A : Type 0} (value : A → List ℕ) (bytes : List ℕ) (at tag : ℕ) (xs : List A) (to : ℕ) : Type 0 where
  pub order : at ≤ to
  pub within : to ≤ length bytes
  pub begins : BeginsWithItems value tag (drop at bytes) xs (drop to bytes)

-- a list with so many elements is within a limit, where there is one
abbrev pub IsWithin : Option ℕ → ℕ → Type 0
IsWithin None count = Unit {0}
IsWithin (Some limit) count = count ≤ limit

-- One item of this tag, that of this element, begins at `at` and ends at `to`.
pub record IsValueAt {A : Type 0} (value : A → List ℕ) (bytes : List ℕ) (at tag : ℕ) (x : A) (to : ℕ) : Type 0 where
  pub order : at ≤ to
  pub within : to ≤ length bytes
  pub spelled : drop at bytes ≡ item_bytes tag (value x) ++ drop to bytes
