-- The replies of a repository, and the one reply that has a change set.
use Rattle.std.specs.Prelude.{◌≡◌, ◌≢◌, ◌⊎◌, ℕ, ◌+◌, true, List, [], ◌∷◌, ◌++◌, length, drop, All}
use Rattle.cny_stream.specs.Item.{FitsItem, item_bytes}
use Rattle.change_set.specs.cny-base.Below.{begins_with}
use Rattle.change_set.specs.declared.change.ChangeSet.{ChangeSet}
use Rattle.change_set.specs.declared.change.Part.{Part}
use Rattle.change_set.specs.declared.change.Part.TheVariants.{Whole, Relative}
use Rattle.change_set.specs.ChangeSet.{IsSetStream}
use Rattle.repo_mirror.specs.Faults.{IsItemFault, LacksMagic}

-- `CNYRP01` and a line feed
abbrev pub reply_magic : List ℕ
reply_magic = 67 ∷ 78 ∷ 89 ∷ 82 ∷ 80 ∷ 48 ∷ 49 ∷ 10 ∷ []

abbrev pub reply_end : List ℕ
reply_end = item_bytes 0x8F []

-- ---- the reply with a change set

abbrev pub IsWhole : Part → Type 0
IsWhole (Whole trove) = Unit {0}
IsWhole (Relative rel) = ⊥

-- the bytes are the stream of this change set, of whole troves alone
pub record IsAbsoluteStream (set : ChangeSet) (bytes : List ℕ) : Type 0 where
  pub stream : IsSetStream set bytes
  pub whole : All IsWhole set.parts

-- the bytes are the magic, the one item of a change set, and the end item
pub record IsSetReply (set : ChangeSet) (bytes : List ℕ) : Type 0 where
  pub value : List ℕ
  pub stream : IsAbsoluteStream set value
  pub fits : FitsItem value
  pub text : bytes ≡ reply_magic ++ (item_bytes 0x84 value ++ reply_end)

-- ---- its first fault

abbrev pub IsSetItem : ℕ → List ℕ → Type 0
IsSetItem tag value = (set : ChangeSet) × IsAbsoluteStream set value

abbrev pub IsEndItem : ℕ → List ℕ → Type 0
IsEndItem tag value = value ≡ []

-- behind the magic stands no item of a change set
pub record LacksSet (bytes : List ℕ) (place : ℕ) : Type 0 where
  pub begins : begins_with reply_magic bytes ≡ true
  pub fault : IsItemFault IsSetItem (0x84 ∷ []) 8 bytes place

-- behind the end item, which begins at `at`, there is more
pub record GoesOn (bytes : List ℕ) (at : ℕ) (place : ℕ) : Type 0 where
  pub rest : List ℕ
  pub spelled : drop at bytes ≡ reply_end ++ rest
  pub more : rest ≢ []
  pub place_is : place ≡ at + 5

-- at `at` no end item begins, or it isn't the last one
abbrev pub IsNoEnd : List ℕ → ℕ → ℕ → Type 0
IsNoEnd bytes at place = IsItemFault IsEndItem (0x8F ∷ []) at bytes place ⊎ GoesOn bytes at place

-- behind the one item of a change set, which ends at `to`, the reply doesn't end
pub record LacksEnd (bytes : List ℕ) (place : ℕ) : Type 0 where
  pub set : ChangeSet
  pub value : List ℕ
  pub to : ℕ
  pub stream : IsAbsoluteStream set value
  pub fits : FitsItem value
  pub spelled : bytes ≡ reply_magic ++ (item_bytes 0x84 value ++ drop to bytes)
  pub there : to ≡ 13 + length value
  pub fault : IsNoEnd bytes to place

-- The first fault of bytes that are no such reply: of the magic, of the item of the change set, or behind it. A fault in the
-- change set lies at the first byte of its item.
abbrev pub IsReplyFault : List ℕ → ℕ → Type 0
IsReplyFault bytes place = LacksMagic reply_magic bytes place ⊎ (LacksSet bytes place ⊎ LacksEnd bytes place)
