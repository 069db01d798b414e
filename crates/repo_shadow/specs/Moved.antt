-- What a trove reaches, moved onto a label as shadows or as branches, and why it isn't moved.
use Rattle.std.specs.Prelude.{◌≡◌, ◌⊎◌, Bool, is_some, if◌then◌else◌, nat_lt, List, [], ◌∷◌, length, map, Option, Some, None}
use Rattle.std.specs.List.{find, list_any}
use Rattle.std.specs.Option.{option_map}
use Rattle.std.specs.Str.{bytes_eq}
use Rattle.repo_index.specs.cny-base.declared.limits.TheConstants.{VERSION_LIMIT}
use Rattle.repo_index.specs.cny-base.declared.refusal.Fault.{Fault}
use Rattle.repo_index.specs.cny-base.declared.refusal.Fault.TheVariants.{Refused, Memory}
use Rattle.repo_index.specs.cny-base.declared.refusal.Refusal.{Refusal}
use Rattle.repo_index.specs.cny-base.declared.refusal.Refusal.TheVariants as refusal
use Rattle.repo_index.specs.cny-base.declared.refusal.What.TheVariants as what
use Rattle.cny_version.specs.Label.{LabelParts, label_text}
use Rattle.cny_version.specs.Made.{shadow_onto, branch_onto}
use Rattle.cny_version.specs.Version.{WholeVersion, last_label, version_text}
use Rattle.repo_index.specs.trove-parts.declared.id.TroveId.{TroveId}
use Rattle.repo_index.specs.trove-parts.Id.{id_text_of}
use Rattle.repo_index.specs.trove-stream.declared.parts.TroveParts.{TroveParts}
use Rattle.repo_index.specs.Catalogue.{found}
use Rattle.trove_spec.specs.Expansion.{IsExpansion, IsOfOneName, first_of_same_name}
use Rattle.trove_spec.specs.Resolve.{or_else}
use Rattle.repo_shadow.specs.declared.way.Way.{Way}
use Rattle.repo_shadow.specs.declared.way.Way.TheVariants.{Shadow, Branch}

-- ---- troves that move

-- the version as a shadow on the label, or as a branch onto it
abbrev pub moved_version : Way → LabelParts → WholeVersion → WholeVersion
moved_version Shadow label v = shadow_onto v label
moved_version Branch label v = branch_onto v label

-- the name and the flavor with the moved version
abbrev pub moved_id : Way → LabelParts → TroveId → TroveId
moved_id way label id = record { name = id.name; version = moved_version way label id.version; flavor = id.flavor }

-- A reference to one of the troves that move becomes one to the moved trove; any other stays.
abbrev pub moved_ref : Way → LabelParts → List TroveParts → TroveId → TroveId
moved_ref way label moving id = if is_some (found id moving) then moved_id way label id else id

-- one of the troves that move, with its moved id and its references moved along; all else stays
abbrev pub moved_trove : Way → LabelParts → List TroveParts → TroveParts → TroveParts
moved_trove way label moving t = record {
  id = moved_id way label t.id;
  files = t.files;
  refs = map (moved_ref way label moving) t.refs;
  requires_ = t.requires_;
  provides = t.provides;
}

abbrev pub moved_troves : Way → LabelParts → List TroveParts → List TroveParts
moved_troves way label moving = map (moved_trove way label moving) moving

abbrev pub moved_ids : Way → LabelParts → List TroveParts → List TroveId
moved_ids way label moving = map (λ t. moved_id way label t.id) moving

-- ---- refusals

-- the last label of the trove's version is this one
abbrev pub is_on : LabelParts → TroveParts → Bool
is_on label t = bytes_eq (label_text (last_label t.id.version.branch)) (label_text label)

-- one of the troves is on the label already
abbrev pub same_label : LabelParts → List TroveParts → Option Refusal
same_label label moving = if list_any (is_on label) moving then Some (refusal.SameLabel (label_text label)) else None

-- the text has more than 512 bytes
abbrev pub is_long_version : WholeVersion → Bool
is_long_version v = nat_lt VERSION_LIMIT (length (version_text v))

abbrev pub is_too_long : TroveId → Bool
is_too_long id = is_long_version id.version

abbrev pub too_large_version : WholeVersion → Refusal
too_large_version v = refusal.TooLarge what.Version (length (version_text v))

abbrev pub too_large_refusal : TroveId → Refusal
too_large_refusal id = too_large_version id.version

-- the first of the ids whose version is too long
abbrev pub too_large : List TroveId → Option Refusal
too_large ids = option_map too_large_refusal (find is_too_long ids)

-- one of the troves has the id already
abbrev pub is_taken : List TroveParts → TroveId → Bool
is_taken troves id = is_some (found id troves)

abbrev pub exists_refusal : TroveId → Refusal
exists_refusal id = refusal.Exists (id_text_of id)

-- the first of the ids that is taken
abbrev pub taken : List TroveParts → List TroveId → Option Refusal
taken troves ids = option_map exists_refusal (find (is_taken troves) ids)

-- Each test is made of all troves that move, in the order of their ids, before the next test is made.
abbrev pub first_refusal : Way → LabelParts → List TroveParts → List TroveParts → Option Refusal
first_refusal way label troves moving =
    or_else (same_label label moving) (or_else (too_large (moved_ids way label moving)) (taken troves (moved_ids way label moving)))

-- ---- what comes of it

-- The troves that the root reaches, of which no two have one name, are moved, where no test refuses them.
pub record IsMovedExpansion (way : Way) (label : LabelParts) (troves : List TroveParts) (root : TroveId) (made : List TroveParts) : Type 0 where
  pub moving : List TroveParts
  pub expansion : IsExpansion troves (root ∷ []) moving
  pub once : first_of_same_name moving ≡ None
  pub unrefused : first_refusal way label troves moving ≡ None
  pub made_is : made ≡ moved_troves way label moving

-- No two of them have one name, and this is the first refusal.
pub record IsRefusedMove (way : Way) (label : LabelParts) (troves : List TroveParts) (root : TroveId) (refused : Refusal) : Type 0 where
  pub moving : List TroveParts
  pub expansion : IsExpansion troves (root ∷ []) moving
  pub once : first_of_same_name moving ≡ None
  pub refusal_is : first_refusal way label troves moving ≡ Some refused

-- Two of them have one name, and the refusal is that of the expansion; or a test refuses them.
abbrev pub IsMoveRefusal : Way → LabelParts → List TroveParts → TroveId → Refusal → Type 0
IsMoveRefusal way label troves root refused = IsOfOneName troves (root ∷ []) refused ⊎ IsRefusedMove way label troves root refused

-- such a refusal, or want of memory
abbrev pub IsUnmoved : Way → LabelParts → List TroveParts → TroveId → Fault → Type 0
IsUnmoved way label troves root (Refused refused) = IsMoveRefusal way label troves root refused
IsUnmoved way label troves root Memory = Unit {0}
