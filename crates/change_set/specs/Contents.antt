-- Where the reader of contents stops.
use Rattle.std.specs.Prelude.{◌≡◌, ◌≢◌, ◌⊎◌, ℕ, IsTrue, List, [], ◌∷◌, ◌++◌, length, drop, Option}
use Rattle.trove_stream.specs.cny-base.declared.refusal.Refusal.{Refusal}
use Rattle.trove_stream.specs.cny-base.declared.refusal.Refusal.TheVariants.{Malformed}
use Rattle.trove_stream.specs.cny-base.declared.refusal.Fault.{Fault}
use Rattle.trove_stream.specs.cny-base.declared.refusal.Fault.TheVariants as fault
use Rattle.cny_stream.specs.Item.{FitsItem, is_expected, item_bytes}
use Rattle.cny_stream.specs.declared.item.Item.{Item}
use Rattle.change_set.specs.declared.change.Part.{Part}
use Rattle.change_set.specs.declared.change.Carried.{Carried}
use Rattle.change_set.specs.declared.recorded.Index.{Index}
use Rattle.change_set.specs.FirstFault.{fault_of}
use Rattle.change_set.specs.Index.{IsIndexOf}
use Rattle.change_set.specs.Reading.{IsSmall, IsNextOf}

-- this holds of the refusal, or memory ran out
abbrev pub IfRefused : (Refusal → Type 0) → Fault → Type 0
IfRefused P (fault.Refused refusal) = P refusal
IfRefused P fault.Memory = Unit {0}

-- the tags of a content and of the end
abbrev pub content_tags : List ℕ
content_tags = 0x12 ∷ 0x1F ∷ []

-- The item at `at` is malformed: no content has its value, of the parts of the index, behind that with this name.
pub record IsNoContent (index : Index) (last : Option (List ℕ)) (value : List ℕ) (at : ℕ) (refusal : Refusal) : Type 0 where
  pub refused : refusal ≡ Malformed at
  pub none : (parts : List Part) → IsIndexOf parts index → (content : Carried) → IsNextOf parts last value content → ⊥

-- At `at` begins neither the item of a content that isn't too large nor the end.
pub record IsNoNext (bytes : List ℕ) (at : ℕ) (refusal : Refusal) : Type 0 where
  pub refused : refusal ≡ fault_of content_tags (length bytes) (drop at bytes)
  pub none : (tag : ℕ) (value rest : List ℕ) → IsTrue (is_expected content_tags tag) → FitsItem value → IsSmall tag value
      → drop at bytes ≡ item_bytes tag value ++ rest → ⊥

-- an item that is empty and ends where the bytes do
pub record IsEndAt (bytes : List ℕ) (item : Item) : Type 0 where
  pub empty : item.from ≡ item.to
  pub last : item.to ≡ length bytes

-- The item at `at` isn't empty, or the bytes go on behind it.
abbrev pub IsNoEnd : List ℕ → ℕ → Item → Refusal → Type 0
IsNoEnd bytes at item refusal =
    ((refusal ≡ Malformed at) × (item.from ≢ item.to)) ⊎ ((refusal ≡ Malformed item.to) × (item.from ≡ item.to) × (item.to ≢ length bytes))
