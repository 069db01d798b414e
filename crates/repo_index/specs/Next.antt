-- The version that comes next on a branch, and troves with it.
use Rattle.std.specs.Prelude.{◌≡◌, ℕ, Bool, true, false, ◌==◌, if◌then◌else◌, nat_lt, List, [], ◌∷◌, length, map, All, Option, Some, None, Result, Ok, Err}
use Rattle.std.specs.Option.{option_map}
use Rattle.trove_stream.specs.cny-base.Name.{kind_of_name}
use Rattle.trove_stream.specs.cny-base.declared.limits.TheConstants.{COUNT_LIMIT, VERSION_LIMIT}
use Rattle.trove_stream.specs.cny-base.declared.name.NameKind.{NameKind}
use Rattle.trove_stream.specs.cny-base.declared.name.NameKind.TheVariants.{Component, Package, Group}
use Rattle.trove_stream.specs.cny-base.declared.refusal.Refusal.{Refusal}
use Rattle.trove_stream.specs.cny-base.declared.refusal.Refusal.TheVariants.{TooLarge}
use Rattle.trove_stream.specs.cny-base.declared.refusal.What.TheVariants as what
use Rattle.cny_version.specs.declared.revision.Revision.{Revision}
use Rattle.cny_version.specs.Made.{with_revision}
use Rattle.cny_version.specs.Next.{latest_count, next_revision, number_to_raise}
use Rattle.cny_version.specs.Version.{WholeVersion, branch_text, depth, version_text}
use Rattle.trove_stream.specs.trove-parts.declared.id.TroveId.{TroveId}
use Rattle.trove_stream.specs.declared.parts.TroveParts.{TroveParts}
use Rattle.repo_index.specs.Catalogue.{latest}

-- ---- the next version

-- the source count of a revision that has a build count
abbrev pub source_of : Option (List ℕ) → List ℕ → Option (List ℕ)
source_of None source = None
source_of (Some build) source = Some source

abbrev pub kept_source : Revision → Option (List ℕ)
kept_source r = source_of r.build r.source

abbrev pub revision_of : TroveParts → Revision
revision_of t = t.id.version.revision

-- The last of the troves with this name on this branch, with the same upstream and, where there is a build count, the same source
-- count.
abbrev pub latest_trove : TroveId → List TroveParts → Option TroveParts
latest_trove id troves = latest id.name (branch_text id.version.branch) id.version.revision.upstream (kept_source id.version.revision) troves

abbrev pub latest_revision : TroveId → List TroveParts → Option Revision
latest_revision id troves = option_map revision_of (latest_trove id troves)

-- the version on the same branch with the revision after that
abbrev pub version_after : WholeVersion → Option Revision → WholeVersion
version_after v last = with_revision v (next_revision v.revision (depth v.branch) last)

abbrev pub next_version : TroveId → List TroveParts → WholeVersion
next_version id troves = version_after id.version (latest_revision id troves)

-- ---- refusals

-- the text has more than 512 bytes
abbrev pub long_refusal : WholeVersion → Option Refusal
long_refusal v = if nat_lt VERSION_LIMIT (length (version_text v)) then Some (TooLarge what.Version (length (version_text v))) else None

-- first the number that can't be raised, then the text that is too long
abbrev pub refusal_after : WholeVersion → Option Revision → Option Refusal
refusal_after v last =
    if number_to_raise (depth v.branch) (latest_count v.revision last) == COUNT_LIMIT then Some (TooLarge what.Count COUNT_LIMIT)
    else long_refusal (version_after v last)

-- why there is no next version
abbrev pub next_refusal : TroveId → List TroveParts → Option Refusal
next_refusal id troves = refusal_after id.version (latest_revision id troves)

-- ---- troves with another version

-- the same name and flavor with this version
abbrev pub id_with : WholeVersion → TroveId → TroveId
id_with v id = record { name = id.name; version = v; flavor = id.flavor }

abbrev pub is_package : NameKind → Bool
is_package Package = true
is_package Component = false
is_package Group = false

-- The references of a package are to its own components, and get the version too. All others stay.
abbrev pub refs_with : WholeVersion → TroveId → List TroveId → List TroveId
refs_with v id refs = if is_package (kind_of_name id.name) then map (id_with v) refs else refs

abbrev pub trove_with : WholeVersion → TroveParts → TroveParts
trove_with v t = record {
  id = id_with v t.id;
  files = t.files;
  refs = refs_with v t.id t.refs;
  requires_ = t.requires_;
  provides = t.provides;
}

-- ---- troves with the next version

-- they have the version of the first one
abbrev pub HasOneVersion : List TroveParts → Type 0
HasOneVersion [] = Unit {0}
HasOneVersion (first ∷ troves) = All (λ (t : TroveParts). t.id.version ≡ first.id.version) (first ∷ troves)

abbrev pub unless_refused : {A : Type 0} → Option Refusal → A → Result A Refusal
unless_refused None x = Ok x
unless_refused (Some refusal) x = Err refusal

-- the troves with the version that comes next on the branch of the first one, or why there is none
abbrev pub next_troves : List TroveParts → List TroveParts → Result (List TroveParts) Refusal
next_troves committed [] = Ok []
next_troves committed (first ∷ troves) = unless_refused (next_refusal first.id committed) (map (trove_with (next_version first.id committed)) (first ∷ troves))
