-- Lists of ids.
use Rattle.std.specs.Prelude.{ℕ, List}
use Rattle.trove_parts.specs.declared.id.TroveId.{TroveId}
use Rattle.trove_parts.specs.Id.{IsTroveId, id_bytes}
use Rattle.trove_parts.specs.Order.{id_cmp}
use Rattle.trove_parts.specs.Items.{items_bytes, IsRisingList}

-- strictly rising by name, version text and flavor text
abbrev pub AreRefs : List TroveId → Type 0
AreRefs refs = IsRisingList IsTroveId id_cmp refs

abbrev pub refs_bytes : ℕ → List TroveId → List ℕ
refs_bytes tag refs = items_bytes id_bytes tag refs
