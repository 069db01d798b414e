-- What the steps find and make.
use Rattle.std.specs.Prelude.{◌≡◌, ℕ, suc, ◌<◌, Bool, IsTrue, eqb, List, ◌++◌, ◌∷◌, [], length, map, All, Contains, Option, Some, None, Result, Ok, Err, slice_get, if◌then◌else◌}
use Rattle.std.specs.List.{list_any}
use Rattle.update_job.specs.cny-base.declared.node.Node.{Node}
use Rattle.update_job.specs.cny-base.declared.refusal.Fault.{Fault}
use Rattle.update_job.specs.cny-base.declared.refusal.Fault.TheVariants.{Refused, Memory}
use Rattle.update_job.specs.cny-base.declared.refusal.Refusal.{Refusal}
use Rattle.sha1.specs.Sha1.{sha1}
use Rattle.update_job.specs.cny-base.declared.limits.TheConstants.{VERSION_LIMIT}
use Rattle.update_job.specs.cny-base.declared.node.Node.TheVariants as node
use Rattle.update_job.specs.cny-base.declared.refusal.Refusal.TheVariants as refusal
use Rattle.update_job.specs.cny-base.declared.refusal.What.TheVariants as what
use Rattle.update_job.specs.trove-parts.declared.id.TroveId.{TroveId}
use Rattle.update_job.specs.trove-stream.Trove.{IsTrove}
use Rattle.update_job.specs.change-set.ChangeSet.{IsContentOf, IsPart}
use Rattle.root_edits.specs.Moved.{local_id, local_size, AreLocalRefs}
use Rattle.update_job.specs.trove-parts.declared.files.FileAt.{FileAt}
use Rattle.update_job.specs.trove-stream.declared.parts.TroveParts.{TroveParts}
use Rattle.change_rel.specs.trove-stream.Leads.{Leads}
use Rattle.update_job.specs.trove-stream.declared.rel.RelParts.{RelParts}
use Rattle.update_job.specs.change-set.declared.change.Part.{Part}
use Rattle.update_job.specs.change-set.declared.change.Part.TheVariants.{Relative}
use Rattle.update_job.specs.change-set.declared.change.Carried.{Carried}
use Rattle.tree_scan.specs.tree-disk.Tree.{Tree, may_stand}
use Rattle.root_edits.specs.Local.{all_contents, all_sights, AreLocalParts, IsLocalTrove, IsNotInstalled}
use Rattle.root_edits.specs.Standing.{Sight, sights, local_contents, local_files, too_large, too_large_node}
pub use Rattle.cny_version.specs.cny-base.Refusals.{IsRefusalOrMemory}

abbrev pub IsUninstalled : List TroveParts → List ℕ → Fault → Type 0
IsUninstalled list name (Refused refused) = IsNotInstalled list name refused
IsUninstalled list name Memory = Unit {0}

-- ---- places of troves

-- the troves whose places, counted from this one on, are among these
abbrev pub chosen : List ℕ → ℕ → List TroveParts → List TroveParts
chosen places k [] = []
chosen places k (t ∷ list) = if list_any (eqb k) places then t ∷ chosen places (suc k) list else chosen places (suc k) list

-- ---- moving troves

-- the trove at the place has the id
pub record HasIdAt (troves : List TroveParts) (id : TroveId) (place : ℕ) : Type 0 where
  pub trove : TroveParts
  pub there : slice_get troves place ≡ Some trove
  pub id_is : trove.id ≡ id

-- the version of the new id has more than 512 bytes, and the refusal says how many; or memory ran out
abbrev pub IsTooLong : TroveId → Fault → Type 0
IsTooLong id (Refused refused) = (refused ≡ refusal.TooLarge what.Version (local_size id)) × (VERSION_LIMIT < local_size id)
IsTooLong id Memory = Unit {0}

-- the new trove, with these files
pub record IsMadeOf (troves : List TroveParts) (files : List FileAt) (t fresh : TroveParts) : Type 0 where
  pub is : IsTrove fresh
  pub id : fresh.id ≡ local_id t.id
  pub files_are : fresh.files ≡ files
  pub refs : AreLocalRefs troves t fresh.refs
  pub required : fresh.requires_ ≡ t.requires_
  pub provided : fresh.provides ≡ t.provides

-- ---- what is seen

-- the SHA-1 of a file's bytes; of a directory and a link any name
abbrev pub IsNameOf : List ℕ → Node → Type 0
IsNameOf name (node.Dir mode) = Unit {0}
IsNameOf name (node.File mode bytes) = (name ≡ sha1 bytes) × (length name ≡ 20)
IsNameOf name (node.Link target) = Unit {0}

-- something that can stand and isn't too large, or nothing
pub record Fits (node : Option Node) : Type 0 where
  pub stands : IsTrue (may_stand node)
  pub small : too_large_node node ≡ None

-- the node, or its refusal
abbrev pub within_limit : Option Node → Option Refusal → Result (Option Node) Refusal
within_limit there None = Ok there
within_limit there (Some refused) = Err refused

-- What was seen at these files' paths: it fits, it is what stands where the disk tells its tree, and the files and the contents are
-- those that it makes.
pub record HaveSeen (told : Bool) (tree : Tree) (files made : List FileAt) (before after : List Carried) : Type 0 where
  pub seen : List Sight
  pub files_are : map (λ (s : Sight). s.file) seen ≡ files
  pub fit : (s : Sight) → Contains seen s → Fits s.node
  pub made_is : made ≡ local_files seen
  pub carried_is : after ≡ before ++ local_contents seen
  pub told_is : IsTrue told → seen ≡ sights tree files

-- One part more leads from the trove to its new one, by what was seen at its paths.
pub record HasAddedPart (told : Bool) (tree : Tree) (troves : List TroveParts) (t : TroveParts) (old new : List Part) (before after : List Carried) : Type 0 where
  pub trove : IsTrove t
  pub fresh : TroveParts
  pub seen : HaveSeen told tree t.files fresh.files before after
  pub is : IsLocalTrove troves seen.seen t fresh
  pub rel : RelParts
  pub leads : Leads rel t fresh
  pub new_is : new ≡ old ++ Relative rel ∷ []

-- The parts of these troves, in their order, and the contents that they carry. Whatever the disk tells, each is a part, and each
-- content one of theirs.
pub record HaveAddedParts (told : Bool) (tree : Tree) (all troves : List TroveParts) (parts : List Part) (carried : List Carried) : Type 0 where
  pub told_parts : IsTrue told → AreLocalParts all tree troves parts
  pub told_contents : IsTrue told → carried ≡ all_contents tree troves
  pub told_small : IsTrue told → too_large (all_sights tree troves) ≡ None
  pub valid : All IsPart parts
  pub contents : All (IsContentOf parts) carried
