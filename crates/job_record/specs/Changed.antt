-- The names whose trove a job changed, and a delta for each.
use Rattle.std.specs.Prelude.{◌≡◌, ◌≢◌, List, Option, Some, Contains}
use Rattle.std.specs.List.Sorted.{IsStrictlySortedBy}
use Rattle.std.specs.Ordering.{nat_cmp}
use Rattle.std.specs.Cmp.Lexicographic.{slice_cmp}
use Rattle.local_db.specs.trove-stream.Installed.{trove_of}
use Rattle.local_db.specs.declared.record.Delta.{Delta}
use Rattle.local_db.specs.RecordText.{delta_of, name_of}
use Rattle.local_db.specs.Record.{TakesBackAt}
use Rattle.local_db.specs.trove-stream.declared.parts.TroveParts.{TroveParts}
use Rattle.local_db.specs.tree-disk.Tree.{Name}

-- the lists don't have the same trove of the name
pub record IsChangedAt (name : Name) (after before : List TroveParts) : Type 0 where
  pub differs : trove_of name before ≢ trove_of name after

-- just the names of which the two lists don't have the same trove, in their order
pub record AreChangedNames (before after : List TroveParts) (names : List Name) : Type 0 where
  pub rising : IsStrictlySortedBy (slice_cmp nat_cmp) names
  pub changed : (name : Name) → Contains names name → IsChangedAt name after before
  pub others : (name : Name) → (Contains names name → ⊥) → trove_of name before ≡ trove_of name after

-- the delta leads from the trove after a job to the one before it, which have this name
pub record IsDeltaOf (name : Name) (after before : Option TroveParts) (u : Delta) : Type 0 where
  pub named : name_of u ≡ name
  pub leads : TakesBackAt (Some (delta_of u)) after before
