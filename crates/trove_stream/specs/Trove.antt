-- The rules of troves.
use Rattle.std.specs.Prelude.{◌≡◌, ◌≢◌, ℕ, ◌≤◌, Bool, false, ◌-◌, ◌&&◌, ◌==◌, not, is_some, IsTrue, List, [], ◌∷◌, length, drop, codes, All}
use Rattle.std.specs.Str.{bytes_eq}
use Rattle.trove_parts.specs.cny-base.Below.{begins_with}
use Rattle.trove_parts.specs.cny-base.Name.{kind_of_name}
use Rattle.trove_parts.specs.cny-base.declared.limits.TheConstants.{FILES_LIMIT, REFS_LIMIT, DEPS_LIMIT}
use Rattle.trove_parts.specs.cny-base.declared.name.NameKind.{NameKind}
use Rattle.trove_parts.specs.cny-base.declared.name.NameKind.TheVariants.{Component, Package, Group}
use Rattle.trove_parts.specs.declared.id.TroveId.{TroveId}
use Rattle.trove_parts.specs.Id.{IsTroveId}
use Rattle.trove_parts.specs.Deps.{AreDeps}
use Rattle.trove_parts.specs.Files.{AreFiles}
use Rattle.trove_parts.specs.Refs.{AreRefs}
use Rattle.trove_stream.specs.declared.parts.TroveParts.{TroveParts}

-- ---- build counts

-- the name ends in `:source`
abbrev pub is_source : List ℕ → Bool
is_source name = bytes_eq (drop (length name - 7) name) (codes ":source")

-- the last revision has a build count
abbrev pub has_build : TroveId → Bool
has_build id = is_some id.version.revision.build

-- A component whose part is `source` has no build count, and every other trove has one.
abbrev pub HasRightBuild : TroveId → Type 0
HasRightBuild id = has_build id ≡ not (is_source id.name)

-- ---- what each kind of trove holds

abbrev pub begins_with_colon : List ℕ → Bool
begins_with_colon [] = false
begins_with_colon (b ∷ bytes) = b == 58

-- the name is the package's, a colon and more
abbrev pub is_component_of : List ℕ → List ℕ → Bool
is_component_of whole name = begins_with whole name && begins_with_colon (drop (length whole) name)

-- the id of a component of the package, with its version and its flavor
pub record IsComponentOf (whole id : TroveId) : Type 0 where
  pub name : IsTrue (is_component_of whole.name id.name)
  pub version : id.version ≡ whole.version
  pub flavor : id.flavor ≡ whole.flavor

abbrev pub HasOtherName : TroveId → TroveId → Type 0
HasOtherName group id = id.name ≢ group.name

-- nothing but references
pub record HasRefsAlone (t : TroveParts) : Type 0 where
  pub files : t.files ≡ []
  pub requires : t.requires_ ≡ []
  pub provides : t.provides ≡ []

-- A component has no references. A package has its components alone, a group other troves alone.
abbrev pub KeepsKind : NameKind → TroveParts → Type 0
KeepsKind Component t = t.refs ≡ []
KeepsKind Package t = HasRefsAlone t × All (IsComponentOf t.id) t.refs
KeepsKind Group t = HasRefsAlone t × All (HasOtherName t.id) t.refs

-- ---- troves

-- an id, and lists in their order
pub record HasLists (t : TroveParts) : Type 0 where
  pub id : IsTroveId t.id
  pub files : AreFiles t.files
  pub refs : AreRefs t.refs
  pub requires : AreDeps t.requires_
  pub provides : AreDeps t.provides

-- no list has more elements than its limit
pub record IsWithinLimits (t : TroveParts) : Type 0 where
  pub files : length t.files ≤ FILES_LIMIT
  pub refs : length t.refs ≤ REFS_LIMIT
  pub requires : length t.requires_ ≤ DEPS_LIMIT
  pub provides : length t.provides ≤ DEPS_LIMIT

pub record KeepsRules (t : TroveParts) : Type 0 where
  pub limits : IsWithinLimits t
  pub build : HasRightBuild t.id
  pub kind : KeepsKind (kind_of_name t.id.name) t

pub record IsTrove (t : TroveParts) : Type 0 where
  pub lists : HasLists t
  pub rules : KeepsRules t
