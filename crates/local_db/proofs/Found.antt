-- What an item that was found tells.
use Rattle.std.proofs.Common.{◌≡◌, ℕ, List, ◌++◌, drop, sym, ◌∙◌}
use Rattle.std.specs.Prelude.{slice_range}
use Rattle.cny_stream.specs.Item.{FitsItem, IsItemAt, item_bytes}
use Rattle.cny_stream.specs.ItemLaws.{SameItem}
use Rattle.cny_stream.proofs.ItemLaws.{same_item}
use Rattle.trove_stream.specs.declared.parts.TroveParts.{TroveParts}
use Rattle.local_db.specs.declared.format.Format.{Format}
use Rattle.local_db.specs.Formats.{trove_text}
use Rattle.local_db.specs.Reading.{IsNoTroveAt, IsTroveText}

module _ (bytes : List ℕ) (at tag from to : ℕ) (found : IsItemAt bytes at tag from to) where
  pub same_text : (tag' : ℕ) (text rest : List ℕ) → FitsItem text → drop at bytes ≡ item_bytes tag' text ++ rest → SameItem tag tag' (slice_range bytes from to) text (drop to bytes) rest
  same_text tag' text rest fits e = same_item tag tag' (slice_range bytes from to) text (drop to bytes) rest found.fits fits (sym found.spelled ∙ e)

  pub no_trove_here : (f : Format) → ((t : TroveParts) → IsTroveText f t (slice_range bytes from to) → ⊥) → IsNoTroveAt f bytes at
  no_trove_here f none t rest is told fits e =
      none t (record { trove_is = is; told = told; text = (same_text 0x50 (trove_text f t) rest fits e).values })
