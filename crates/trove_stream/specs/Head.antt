-- Where the items of an id stand.
use Rattle.std.specs.Prelude.{◌≡◌, ℕ, ◌≤◌, List, ◌++◌, length, drop, slice_range}
use Rattle.cny_stream.specs.Item.{FitsItem}
use Rattle.trove_stream.specs.declared.head.HeadItems.{HeadItems}
use Rattle.trove_stream.specs.Stream.{three_items}

abbrev pub name_in : List ℕ → HeadItems → List ℕ
name_in bytes items = slice_range bytes items.name.from items.name.to

abbrev pub version_in : List ℕ → HeadItems → List ℕ
version_in bytes items = slice_range bytes items.version.from items.version.to

abbrev pub flavor_in : List ℕ → HeadItems → List ℕ
flavor_in bytes items = slice_range bytes items.flavor.from items.flavor.to

-- the bytes begin with these three items
pub record AreHeadItems (bytes : List ℕ) (items : HeadItems) : Type 0 where
  pub name_order : items.name.from ≤ items.name.to
  pub name_within : items.name.to ≤ length bytes
  pub version_order : items.version.from ≤ items.version.to
  pub version_within : items.version.to ≤ length bytes
  pub flavor_order : items.flavor.from ≤ items.flavor.to
  pub flavor_within : items.flavor.to ≤ length bytes
  pub name_fits : FitsItem (name_in bytes items)
  pub version_fits : FitsItem (version_in bytes items)
  pub flavor_fits : FitsItem (flavor_in bytes items)
  pub spelled : bytes ≡ three_items (name_in bytes items) (version_in bytes items) (flavor_in bytes items) ++ drop items.flavor.to bytes
