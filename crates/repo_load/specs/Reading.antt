-- The items of a commit's stream.
use Rattle.std.specs.Prelude.{◌≡◌, ℕ, ◌<◌, ◌≤◌, List, ◌++◌, length, drop, All}
use Rattle.cny_stream.specs.Item.{item_bytes}
use Rattle.repo_index.specs.trove-parts.Items.{items_bytes}
use Rattle.repo_index.specs.trove-stream.declared.parts.TroveParts.{TroveParts}
use Rattle.repo_index.specs.trove-stream.Stream.{trove_bytes}
use Rattle.repo_index.specs.trove-stream.Trove.{IsTrove}
use Rattle.repo_load.specs.State.{Commit}
use Rattle.repo_load.specs.Files.{magic, commit_bytes, FitsTrove}

-- the item of this trove begins at `at` and ends at `to`
pub record IsTroveAt (bytes : List ℕ) (at : ℕ) (trove : TroveParts) (to : ℕ) : Type 0 where
  pub goes_on : at < to
  pub within : to ≤ length bytes
  pub trove_is : IsTrove trove
  pub fits : FitsTrove trove
  pub spelled : drop at bytes ≡ item_bytes 0x40 (trove_bytes trove) ++ drop to bytes

-- no trove's item begins at `at`
abbrev pub IsNoTroveAt : List ℕ → ℕ → Type 0
IsNoTroveAt bytes at = (trove : TroveParts) (rest : List ℕ) → IsTrove trove → FitsTrove trove
    → drop at bytes ≡ item_bytes 0x40 (trove_bytes trove) ++ rest → ⊥

-- the bytes are the magic, the items of these troves, and what stands from `at` on
pub record AreTrovesTo (bytes : List ℕ) (troves : Commit) (at : ℕ) : Type 0 where
  pub within : at ≤ length bytes
  pub troves_are : All IsTrove troves
  pub fits : All FitsTrove troves
  pub spelled : bytes ≡ magic ++ (items_bytes trove_bytes 0x40 troves ++ drop at bytes)

-- the bytes are the stream of these troves, be there any or none
pub record AreTrovesOf (bytes : List ℕ) (troves : Commit) : Type 0 where
  pub troves_are : All IsTrove troves
  pub fits : All FitsTrove troves
  pub text : bytes ≡ commit_bytes troves
