-- The troves that the lines of a manifest make.
use Rattle.std.specs.Prelude.{◌≡◌, ◌≢◌, ℕ, Bool, false, IsTrue, List, [], ◌∷◌, ◌++◌, map, All, Contains}
use Rattle.std.specs.BTreeSet.{insert_key}
use Rattle.std.specs.Cmp.Lexicographic.{slice_cmp}
use Rattle.std.specs.List.{fold, filter, list_any}
use Rattle.std.specs.Ordering.{nat_cmp}
use Rattle.std.specs.Str.{bytes_eq}
use Rattle.change_set.specs.cny-base.Name.{is_name, kind_of_name}
use Rattle.change_set.specs.cny-base.declared.name.NameKind.{NameKind}
use Rattle.change_set.specs.cny-base.declared.name.NameKind.TheVariants.{Component, Package, Group}
use Rattle.cny_dep.specs.Dep.{Dependency}
use Rattle.change_set.specs.cny-stream.Record.{is_dir}
use Rattle.change_set.specs.trove-parts.declared.id.TroveId.{TroveId}
use Rattle.change_set.specs.trove-parts.declared.files.FileAt.{FileAt}
use Rattle.change_set.specs.trove-stream.declared.parts.TroveParts.{TroveParts}
use Rattle.change_set.specs.trove-stream.Trove.{IsTrove}
use Rattle.manifest_troves.specs.declared.lines.DepLine.{DepLine}
use Rattle.manifest_troves.specs.declared.lines.TroveLines.{TroveLines}
use Rattle.manifest_troves.specs.Policy.{component_of}
pub use Rattle.change_set.specs.trove-stream.NameOrder.{by_name_cmp, HasRisingNames}

-- ---- a package's components

-- the name of the component of this package to which the entry falls
abbrev pub entry_component : List ℕ → FileAt → List ℕ
entry_component whole file = whole ++ 58 ∷ component_of file.path (is_dir file.rec)

abbrev pub name_of_line : DepLine → List ℕ
name_of_line line = line.name

abbrev pub dep_of_line : DepLine → Dependency
dep_of_line line = line.dep

-- further names, each that isn't there yet at its place in the order of their bytes
abbrev pub with_names : List (List ℕ) → List (List ℕ) → List (List ℕ)
with_names known names = fold (insert_key (slice_cmp nat_cmp)) known names

-- each component to which an entry falls or that a line names, once each and in order
abbrev pub names_used : List ℕ → List FileAt → List DepLine → List DepLine → List (List ℕ)
names_used whole files requires_ provides =
    with_names (with_names (with_names [] (map (entry_component whole) files)) (map name_of_line requires_)) (map name_of_line provides)

abbrev pub component_names : TroveLines → List (List ℕ)
component_names l = names_used l.id.name l.files l.requires_ l.provides

-- one of them is no name
abbrev pub HasBadName : List (List ℕ) → Type 0
HasBadName names = (name : List ℕ) × Contains names name × (is_name name ≡ false)

-- ---- troves

abbrev pub with_name : TroveId → List ℕ → TroveId
with_name id name = record { name = name; version = id.version; flavor = id.flavor }

abbrev pub deps_of : List DepLine → List Dependency
deps_of lines = map dep_of_line lines

abbrev pub falls_to : List ℕ → List ℕ → FileAt → Bool
falls_to whole name file = bytes_eq (entry_component whole file) name

abbrev pub is_of : List ℕ → DepLine → Bool
is_of name line = bytes_eq line.name name

-- what falls to the component of this name, and what the lines of its name say
abbrev pub component_trove : TroveLines → List ℕ → TroveParts
component_trove l name =
    record {
      id = with_name l.id name;
      files = filter (falls_to l.id.name name) l.files;
      refs = [];
      requires_ = deps_of (filter (is_of name) l.requires_);
      provides = deps_of (filter (is_of name) l.provides);
    }

-- the package, which refers to the components of these names
abbrev pub package_of : TroveId → List (List ℕ) → TroveParts
package_of id names = record { id = id; files = []; refs = map (with_name id) names; requires_ = []; provides = [] }

abbrev pub package_troves : TroveLines → List (List ℕ) → List TroveParts
package_troves l names = package_of l.id names ∷ map (component_trove l) names

abbrev pub whole_component : TroveLines → TroveParts
whole_component l = record { id = l.id; files = l.files; refs = []; requires_ = deps_of l.requires_; provides = deps_of l.provides }

abbrev pub group_trove : TroveLines → TroveParts
group_trove l = record { id = l.id; files = []; refs = l.refs; requires_ = []; provides = [] }

abbrev pub troves_by : NameKind → TroveLines → List TroveParts
troves_by Component l = whole_component l ∷ []
troves_by Package l = package_troves l (component_names l)
troves_by Group l = group_trove l ∷ []

-- A component and a group make one trove each. A package makes itself and its components, in name order.
unfoldable pub troves_of : TroveLines → List TroveParts
troves_of l = troves_by (kind_of_name l.id.name) l

-- each keeps the rules of troves
abbrev pub AreTroves : TroveLines → Type 0
AreTroves l = All IsTrove (troves_of l)

-- ---- what holds of them

-- an entry of the trove passes the test
abbrev pub has_entry : (FileAt → Bool) → TroveParts → Bool
has_entry test t = list_any test t.files

-- Of the entries of a component or a package none is lost: where one passes a test, an entry of one of the troves does.
abbrev pub KeepsEntries : TroveLines → List TroveParts → Type 0
KeepsEntries l troves =
    (test : FileAt → Bool) → kind_of_name l.id.name ≢ Group → IsTrue (list_any test l.files) → IsTrue (list_any (has_entry test) troves)
