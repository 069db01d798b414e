-- The paths that two lists record, in their order.
use Rattle.std.specs.Prelude.{ℕ, List, [], ◌∷◌, Option, Some, None}
use Rattle.std.specs.Option.{option_or}
use Rattle.trove_stream.specs.cny-base.declared.refusal.Fault.{Fault}
use Rattle.trove_stream.specs.cny-base.declared.refusal.Refusal.{Refusal}
use Rattle.trove_stream.specs.cny-base.declared.refusal.Refusal.TheVariants.{Owned}
use Rattle.tree_scan.specs.tree-disk.Tree.{Name}
use Rattle.conflict_plan.specs.declared.entries.Entry.{Entry}
use Rattle.conflict_plan.specs.declared.records.Recorded.{Recorded}
use Rattle.conflict_plan.specs.declared.records.Shared.{Shared}
use Rattle.conflict_plan.specs.Records.{record_of, second_of}
pub use Rattle.trove_stream.specs.cny-base.Refusals.{IsRefusalOrMemory as IsRefusedSo}

abbrev pub entry_of : Name × Recorded → Entry
entry_of e = record { path = e.0; old = e.1.old; fresh = record_of e.1.fresh }

abbrev pub owned_by : Name → Option (List ℕ) → Option Shared → Option Refusal
owned_by path None shared = None
owned_by path (Some second) None = None
owned_by path (Some second) (Some shared) = Some (Owned path shared.first second)

-- the refusal of a path that two troves can't share
abbrev pub owned_at : Name → Option Shared → Option Refusal
owned_at path shared = owned_by path (second_of shared) shared

-- the refusal of the first path that has one
abbrev pub first_refusal : (Name → Recorded → Option Refusal) → List (Name × Recorded) → Option Refusal
first_refusal refusal [] = None
first_refusal refusal (e ∷ es) = option_or (refusal e.0 e.1) (first_refusal refusal es)

-- the refusal of the first path that two troves can't share
abbrev pub first_shared : List (Name × Recorded) → Option Refusal
first_shared es = first_refusal (λ path recorded. owned_at path recorded.fresh) es

abbrev pub IsOwnedOrMemory : Name → Option Shared → Fault → Type 0
IsOwnedOrMemory path shared fault = IsRefusedSo (owned_at path shared) fault

abbrev pub IsFirstOwnedOrMemory : List (Name × Recorded) → Fault → Type 0
IsFirstOwnedOrMemory es fault = IsRefusedSo (first_shared es) fault
