-- The texts of an id's parts, and where they stand in a text or in a stream.
use Rattle.std.specs.Prelude.{◌≡◌, ℕ, ◌<◌, ◌≤◌, List, ◌++◌, length, drop, slice_index, slice_range}
use Rattle.cny_version.specs.cny-base.StrField.{FitsStr, str}
use Rattle.cny_dep.specs.Canonical.{flavor_text}
use Rattle.cny_version.specs.Version.{version_text}
use Rattle.trove_parts.specs.declared.id.TroveId.{TroveId}
use Rattle.trove_parts.specs.declared.stream.PartSpans.{PartSpans}
use Rattle.trove_parts.specs.Id.{IsTroveId, in_brackets}

-- the id's name, and the texts of its version and its flavor
pub record AreTextsOf (id : TroveId) (name version flavor : List ℕ) : Type 0 where
  pub valid : IsTroveId id
  pub name_is : name ≡ id.name
  pub version_is : version ≡ version_text id.version
  pub flavor_is : flavor ≡ flavor_text id.flavor

-- the byte isn't in the list
abbrev pub Lacks : ℕ → List ℕ → Type 0
Lacks c bytes = (i : ℕ) → i < length bytes → slice_index bytes i ≡ c → ⊥

-- a text without `[`, and behind it another in brackets, where that isn't empty
pub record IsCutAtBracket (text version flavor : List ℕ) : Type 0 where
  pub front : Lacks 91 version
  pub whole : text ≡ version ++ in_brackets flavor

abbrev pub three_strs : List ℕ → List ℕ → List ℕ → List ℕ
three_strs a b c = str a ++ (str b ++ str c)

abbrev pub name_in : List ℕ → PartSpans → List ℕ
name_in bytes spans = slice_range bytes spans.name.from spans.name.to

abbrev pub version_in : List ℕ → PartSpans → List ℕ
version_in bytes spans = slice_range bytes spans.version.from spans.version.to

abbrev pub flavor_in : List ℕ → PartSpans → List ℕ
flavor_in bytes spans = slice_range bytes spans.flavor.from spans.flavor.to

-- three fields begin at `at`, with their values there
pub record AreStrsAt (bytes : List ℕ) (at : ℕ) (spans : PartSpans) : Type 0 where
  pub name_order : spans.name.from ≤ spans.name.to
  pub name_within : spans.name.to ≤ length bytes
  pub version_order : spans.version.from ≤ spans.version.to
  pub version_within : spans.version.to ≤ length bytes
  pub flavor_order : spans.flavor.from ≤ spans.flavor.to
  pub flavor_within : spans.flavor.to ≤ length bytes
  pub begins : at ≤ spans.flavor.to
  pub name_fits : FitsStr (name_in bytes spans)
  pub version_fits : FitsStr (version_in bytes spans)
  pub flavor_fits : FitsStr (flavor_in bytes spans)
  pub spelled : drop at bytes ≡ three_strs (name_in bytes spans) (version_in bytes spans) (flavor_in bytes spans) ++ drop spans.flavor.to bytes
