-- Where the fault of a message lies.
use Rattle.std.specs.Prelude.{◌≡◌, ◌⊎◌, ℕ, false, nat_lt, if◌then◌else◌, IsTrue, List, ◌++◌, length, drop}
use Rattle.cny_stream.specs.Item.{FitsItem, item_bytes, is_expected, fault_place}
use Rattle.change_set.specs.cny-base.Below.{begins_with}
use Rattle.change_set.specs.cny-base.declared.refusal.Fault.{Fault}
use Rattle.change_set.specs.cny-base.declared.refusal.Fault.TheVariants as fault
use Rattle.change_set.specs.cny-base.declared.refusal.Refusal.TheVariants.{Malformed}

-- the bytes don't begin with the magic: where they are shorter the place is their length, else their first byte
pub record LacksMagic (magic bytes : List ℕ) (place : ℕ) : Type 0 where
  pub lacks : begins_with magic bytes ≡ false
  pub place_is : place ≡ (if nat_lt (length bytes) (length magic) then length bytes else 0)

-- At `at` begins no whole item with one of these tags: its first byte where that is another tag, else where the bytes end.
pub record LacksItem (tags : List ℕ) (at : ℕ) (bytes : List ℕ) (place : ℕ) : Type 0 where
  pub none : (tag : ℕ) (value rest : List ℕ) → IsTrue (is_expected tags tag) → FitsItem value → drop at bytes ≡ item_bytes tag value ++ rest → ⊥
  pub place_is : place ≡ fault_place bytes at tags

-- a whole item with one of these tags begins there that isn't good: its first byte
pub record IsBadItem (IsGood : ℕ → List ℕ → Type 0) (tags : List ℕ) (at : ℕ) (bytes : List ℕ) (place : ℕ) : Type 0 where
  pub tag : ℕ
  pub value : List ℕ
  pub rest : List ℕ
  pub expected : IsTrue (is_expected tags tag)
  pub fits : FitsItem value
  pub spelled : drop at bytes ≡ item_bytes tag value ++ rest
  pub bad : IsGood tag value → ⊥
  pub place_is : place ≡ at

-- the fault of what stands at `at`, where no good item with one of these tags begins
abbrev pub IsItemFault : (ℕ → List ℕ → Type 0) → List ℕ → ℕ → List ℕ → ℕ → Type 0
IsItemFault IsGood tags at bytes place = LacksItem tags at bytes place ⊎ IsBadItem IsGood tags at bytes place

-- a refusal with a place of which P holds, or want of memory
abbrev pub IsMalformed : (ℕ → Type 0) → Fault → Type 0
IsMalformed P (fault.Refused refusal) = (place : ℕ) × (refusal ≡ Malformed place) × P place
IsMalformed P fault.Memory = Unit {0}

-- a refusal with this place, or want of memory
abbrev pub IsPlaceOrMemory : ℕ → Fault → Type 0
IsPlaceOrMemory place why = IsMalformed (λ (other : ℕ). other ≡ place) why
