-- The items of a database file.
use Rattle.std.specs.Prelude.{◌≡◌, ℕ, ◌<◌, ◌≤◌, ◌^◌, List, [], ◌++◌, length, drop, All}
use Rattle.std.specs.Int.{w32, to_be_bytes}
use Rattle.cny_stream.specs.Item.{FitsItem, item_bytes}
use Rattle.trove_stream.specs.trove-parts.Items.{items_bytes}
use Rattle.trove_stream.specs.declared.parts.TroveParts.{TroveParts}
use Rattle.trove_stream.specs.Trove.{IsTrove}
use Rattle.local_db.specs.declared.format.Format.{Format}
use Rattle.local_db.specs.Formats.{TroveCanTell, trove_text, database_magic, database_bytes}

-- the length of the trove's stream fits in four bytes
abbrev pub FitsTrove : Format → TroveParts → Type 0
FitsTrove f t = FitsItem (trove_text f t)

-- the bytes are the stream of this trove, which the format can tell
pub record IsTroveText (f : Format) (trove : TroveParts) (bytes : List ℕ) : Type 0 where
  pub trove_is : IsTrove trove
  pub told : TroveCanTell f trove
  pub text : bytes ≡ trove_text f trove

-- the item of this trove begins at `at` and ends at `to`
pub record IsTroveAt (f : Format) (bytes : List ℕ) (at : ℕ) (trove : TroveParts) (to : ℕ) : Type 0 where
  pub goes_on : at < to
  pub within : to ≤ length bytes
  pub trove_is : IsTrove trove
  pub told : TroveCanTell f trove
  pub fits : FitsTrove f trove
  pub spelled : drop at bytes ≡ item_bytes 0x50 (trove_text f trove) ++ drop to bytes

-- no trove's item begins at `at`
abbrev pub IsNoTroveAt : Format → List ℕ → ℕ → Type 0
IsNoTroveAt f bytes at = (trove : TroveParts) (rest : List ℕ) → IsTrove trove → TroveCanTell f trove → FitsTrove f trove
    → drop at bytes ≡ item_bytes 0x50 (trove_text f trove) ++ rest → ⊥

-- the bytes are the magic, the items of these troves, and what stands from `at` on
pub record AreTrovesTo (f : Format) (bytes : List ℕ) (troves : List TroveParts) (at : ℕ) : Type 0 where
  pub within : at ≤ length bytes
  pub troves_are : All IsTrove troves
  pub told : All (TroveCanTell f) troves
  pub fits : All (FitsTrove f) troves
  pub spelled : bytes ≡ database_magic f ++ (items_bytes (trove_text f) 0x50 troves ++ drop at bytes)

-- the item of the two numbers, and the end item
abbrev pub end_bytes : ℕ → ℕ → List ℕ
end_bytes oldest newest = item_bytes 0x51 (to_be_bytes w32 oldest ++ to_be_bytes w32 newest) ++ item_bytes 0x5F []

-- the bytes are the two numbers, each in four bytes
pub record AreNumbers (bytes : List ℕ) (oldest newest : ℕ) : Type 0 where
  pub oldest_fits : oldest < 2 ^ 32
  pub newest_fits : newest < 2 ^ 32
  pub spelled : bytes ≡ to_be_bytes w32 oldest ++ to_be_bytes w32 newest

-- from `at` on the bytes are those of these numbers and the end
pub record IsEndAt (bytes : List ℕ) (at oldest newest : ℕ) : Type 0 where
  pub oldest_fits : oldest < 2 ^ 32
  pub newest_fits : newest < 2 ^ 32
  pub spelled : drop at bytes ≡ end_bytes oldest newest

-- The bytes are in the grammar of a database file, with these troves and numbers. No cross-check is made.
pub record IsDatabaseText (f : Format) (troves : List TroveParts) (oldest newest : ℕ) (bytes : List ℕ) : Type 0 where
  pub troves_are : All IsTrove troves
  pub told : All (TroveCanTell f) troves
  pub fits : All (FitsTrove f) troves
  pub oldest_fits : oldest < 2 ^ 32
  pub newest_fits : newest < 2 ^ 32
  pub text : bytes ≡ database_bytes f troves oldest newest
