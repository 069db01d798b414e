-- The lines in front of the entries, and what they say.
use Rattle.std.specs.Prelude.{◌≡◌, ℕ, false, true, IsTrue, List, ◌∷◌, ◌++◌, flat_map, map, All, Contains, Option, Some, None, codes}
use Rattle.std.specs.Borrow.{Bor}
use Rattle.manifest_troves.specs.cny-base.Name.{kind_of_name}
use Rattle.cny_dep.specs.Dep.{Dependency, dep_text}
use Rattle.cny_version.specs.Version.{WholeVersion}
use Rattle.cny_dep.specs.declared.parts.Parts.{Parts}
use Rattle.cny_dep.specs.Canonical.{no_parts}
use Rattle.manifest_troves.specs.trove-parts.declared.id.TroveId.{TroveId}
use Rattle.manifest_troves.specs.trove-parts.Items.{IsRisingList}
use Rattle.manifest_troves.specs.declared.lines.DepLine.{DepLine}
use Rattle.manifest_troves.specs.cny-base.Name.{is_name}
use Rattle.cny_manifest.specs.Body.{is_group_kind, dep_line_cmp}
use Rattle.cny_manifest.specs.Grammar.{IsVersionField, IsFlavorField, IsDepField, IsLine}
use Rattle.cny_manifest.specs.Lines.{with_feed}
use Rattle.cny_manifest.specs.Spelling.{magic_line, name_line, version_line, IsFlavorPart, IsDepLine, AreDepLines, IsOwnLine}
use Rattle.cny_pack.specs.declared.head.DepWords.{DepWords}
use Rattle.cny_pack.specs.declared.head.Head.{Head}
use Rattle.cny_pack.specs.declared.head.Words.{Words}

-- ---- what the words say

-- no flavor, or the one of which this is a text
abbrev pub SaysFlavor : Option (Bor (List ℕ)) → Parts → Type 0
SaysFlavor None parts = parts ≡ no_parts
SaysFlavor (Some text) parts = IsFlavorField text.now parts

-- this component, and a text of this dependency
pub record SaysDep (words : DepWords) (line : DepLine) : Type 0 where
  pub name : line.name ≡ words.component.now
  pub dep : IsDepField words.dep.now line.dep

-- some of the words say this line
abbrev pub IsSaidBy : List DepWords → DepLine → Type 0
IsSaidBy given line = (words : DepWords) × Contains given words × SaysDep words line

-- the words say one of these lines
abbrev pub SaysOneOf : List DepLine → DepWords → Type 0
SaysOneOf lines words = (line : DepLine) × Contains lines line × SaysDep words line

-- just these lines are given
pub record SaysDeps (given : List DepWords) (lines : List DepLine) : Type 0 where
  pub each : All (IsSaidBy given) lines
  pub all : All (SaysOneOf lines) given

-- The name, a version of which this is a text, the flavor, and what is required and provided.
pub record Says (words : Words) (id : TroveId) (required provided : List DepLine) : Type 0 where
  pub name : id.name ≡ words.name.now
  pub version : IsVersionField words.version.now id.version
  pub flavor : SaysFlavor words.flavor id.flavor
  pub requires_ : SaysDeps words.requires_.now required
  pub provides : SaysDeps words.provides.now provided

-- ---- their lines

-- lists of dependencies of the component itself, or of components of the package, that rise
abbrev pub AreOwn : List ℕ → List DepLine → Type 0
AreOwn whole lines = IsRisingList (IsOwnLine whole) dep_line_cmp lines

-- the first lines of a manifest of this trove, which is no group
pub record AreHeadLines (text : List ℕ) (id : TroveId) (requires_ provides : List DepLine) : Type 0 where
  pub version : List ℕ
  pub flavor : List (List ℕ)
  pub required : List (List ℕ)
  pub provided : List (List ℕ)
  pub no_group : is_group_kind (kind_of_name id.name) ≡ false
  pub named : IsTrue (is_name id.name)
  pub name_fits : IsLine (name_line id.name)
  pub version_is : IsVersionField version id.version
  pub version_fits : IsLine (version_line version)
  pub flavor_is : IsFlavorPart id.flavor flavor
  pub requires_are : AreDepLines (codes "requires") requires_ required
  pub provides_are : AreDepLines (codes "provides") provides provided
  pub requires_own : AreOwn id.name requires_
  pub provides_own : AreOwn id.name provides
  pub spelled : text ≡ flat_map with_feed (magic_line true ∷ name_line id.name ∷ version_line version ∷ (flavor ++ (required ++ provided)))

-- ---- how they are written, line by line

-- the line is added, with its line feed
pub record AddsLine (line old new : List ℕ) : Type 0 where
  pub fits : IsLine line
  pub added : new ≡ old ++ with_feed line

-- the line of a name that is no group's
pub record AddsName (word old new name : List ℕ) : Type 0 where
  pub is : name ≡ word
  pub named : IsTrue (is_name name)
  pub no_group : is_group_kind (kind_of_name name) ≡ false
  pub line : AddsLine (name_line name) old new

pub record AddsVersion (word old new : List ℕ) (version : WholeVersion) : Type 0 where
  pub is : IsVersionField word version
  pub line : AddsLine (version_line word) old new

pub record AddsFlavor (word old new : List ℕ) (flavor : Parts) : Type 0 where
  pub is : IsFlavorField word flavor
  pub line : AddsLine (codes "flavor " ++ word) old new

-- these lines are added
abbrev pub AddsLines : List (List ℕ) → List ℕ → List ℕ → Type 0
AddsLines lines old new = new ≡ old ++ flat_map with_feed lines

pub record AddsFlavorPart (word : Option (Bor (List ℕ))) (old new : List ℕ) (flavor : Parts) : Type 0 where
  pub lines : List (List ℕ)
  pub says : SaysFlavor word flavor
  pub are : IsFlavorPart flavor lines
  pub added : AddsLines lines old new

pub record AddsId (words : Words) (old new : List ℕ) (id : TroveId) : Type 0 where
  pub flavor : List (List ℕ)
  pub name : id.name ≡ words.name.now
  pub named : IsTrue (is_name id.name)
  pub no_group : is_group_kind (kind_of_name id.name) ≡ false
  pub name_fits : IsLine (name_line id.name)
  pub version_is : IsVersionField words.version.now id.version
  pub version_fits : IsLine (version_line words.version.now)
  pub flavor_says : SaysFlavor words.flavor id.flavor
  pub flavor_is : IsFlavorPart id.flavor flavor
  pub added : AddsLines (name_line id.name ∷ version_line words.version.now ∷ flavor) old new

abbrev pub dep_line_of : List ℕ × Dependency → DepLine
dep_line_of pair = record { name = pair.0; dep = pair.1 }

-- the line of a component and a dependency, with the dependency's canonical text
abbrev pub dep_line : List ℕ → DepLine → List ℕ
dep_line word line = word ++ 32 ∷ (line.name ++ 32 ∷ dep_text line.dep)

abbrev pub HasLine : List ℕ → DepLine → Type 0
HasLine word line = IsLine (dep_line word line)

-- the line of a dependency is added
pub record AddsDep (word : List ℕ) (dep : DepLine) (old new : List ℕ) : Type 0 where
  pub line : List ℕ
  pub fits : HasLine word dep
  pub is : IsDepLine word dep line
  pub added : new ≡ old ++ with_feed line

-- Just the given dependencies, each the trove's own, in their order.
pub record AreDeps (whole : List ℕ) (given : List DepWords) (deps : List (List ℕ × Dependency)) : Type 0 where
  pub says : SaysDeps given (map dep_line_of deps)
  pub own : AreOwn whole (map dep_line_of deps)

pub record AddsDeps (word : List ℕ) (deps : List (List ℕ × Dependency)) (old new : List ℕ) (lines : List DepLine) : Type 0 where
  pub texts : List (List ℕ)
  pub fit : All (HasLine word) lines
  pub same : lines ≡ map dep_line_of deps
  pub are : AreDepLines word lines texts
  pub added : AddsLines texts old new

-- the given ones, and their lines
pub record AddsGiven (whole word : List ℕ) (given : List DepWords) (old new : List ℕ) (lines : List DepLine) : Type 0 where
  pub deps : List (List ℕ × Dependency)
  pub are : AreDeps whole given deps
  pub added : AddsDeps word deps old new lines

-- what the words say, in the first lines of a manifest
pub record IsHead (words : Words) (head : Head) : Type 0 where
  pub says : Says words head.id head.requires_ head.provides
  pub lines : AreHeadLines head.text head.id head.requires_ head.provides
