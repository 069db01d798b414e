-- Troves that move onto the branch of local changes: their ids and their references.
use Rattle.std.specs.Prelude.{◌↔◌, ℕ, Bool, true, false, if◌then◌else◌, nat_lt, List, [], ◌∷◌, length, codes, Contains, Option, Some, None}
use Rattle.std.specs.List.{filter_map, list_any}
use Rattle.std.specs.List.Sorted.{IsStrictlySortedBy}
use Rattle.update_job.specs.cny-base.Name.{kind_of_name}
use Rattle.update_job.specs.cny-base.declared.limits.TheConstants.{VERSION_LIMIT}
use Rattle.update_job.specs.cny-base.declared.name.NameKind.{NameKind}
use Rattle.update_job.specs.cny-base.declared.name.NameKind.TheVariants.{Component, Package, Group}
use Rattle.update_job.specs.cny-base.declared.refusal.Refusal.{Refusal}
use Rattle.update_job.specs.cny-base.declared.refusal.Refusal.TheVariants as refusal
use Rattle.update_job.specs.cny-base.declared.refusal.What.TheVariants as what
use Rattle.cny_version.specs.Label.{LabelParts}
use Rattle.cny_version.specs.Made.{branch_onto}
use Rattle.cny_version.specs.Version.{WholeVersion, version_text}
use Rattle.update_job.specs.trove-parts.declared.id.TroveId.{TroveId}
use Rattle.update_job.specs.trove-parts.Order.{id_cmp, id_eq}
use Rattle.update_job.specs.trove-stream.declared.parts.TroveParts.{TroveParts}

-- `local@local:LOCAL`
abbrev pub local_label : LabelParts
local_label = record { host = codes "local"; namespace = codes "local"; tag = codes "LOCAL" }

-- the version as a branch onto that label
abbrev pub local_version : WholeVersion → WholeVersion
local_version v = branch_onto v local_label

-- the name and the flavor with that version
abbrev pub local_id : TroveId → TroveId
local_id id = record { name = id.name; version = local_version id.version; flavor = id.flavor }

-- ---- versions that are too long

abbrev pub local_size : TroveId → ℕ
local_size id = length (version_text (local_version id.version))

-- the refusal of the first trove whose version would have more than 512 bytes
abbrev pub too_long : List TroveParts → Option Refusal
too_long [] = None
too_long (t ∷ troves) = if nat_lt VERSION_LIMIT (local_size t.id) then Some (refusal.TooLarge what.Version (local_size t.id)) else too_long troves

-- ---- references

-- whether the id is that of one of the troves
abbrev pub is_moving : List TroveParts → TroveId → Bool
is_moving troves id = list_any (λ (t : TroveParts). id_eq t.id id) troves

-- a group keeps its references to other troves, a package doesn't
abbrev pub keeps_others : NameKind → Bool
keeps_others Group = true
keeps_others Package = false
keeps_others Component = false

-- A reference to one of the troves moves along; another one stays where the others are kept, and is else left out.
abbrev pub local_ref : Bool → List TroveParts → TroveId → Option TroveId
local_ref keeps troves id = if is_moving troves id then Some (local_id id) else (if keeps then Some id else None)

-- what becomes of the trove's references
abbrev pub local_refs : List TroveParts → TroveParts → List TroveId
local_refs troves t = filter_map (local_ref (keeps_others (kind_of_name t.id.name)) troves) t.refs

-- those, in the order of ids, each once
pub record AreLocalRefs (troves : List TroveParts) (t : TroveParts) (refs : List TroveId) : Type 0 where
  pub rising : IsStrictlySortedBy id_cmp refs
  pub each : (id : TroveId) → Contains refs id ↔ Contains (local_refs troves t) id
