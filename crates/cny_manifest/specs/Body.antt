-- What was read of a manifest, and what may come next.
use Rattle.std.specs.Prelude.{ℕ, Bool, true, false, ◌&&◌, not, List, [], ◌∷◌, ◌++◌, Option, Some, None, if◌then◌else◌}
use Rattle.std.specs.Cmp.Lexicographic.{slice_cmp}
use Rattle.std.specs.Ordering.{nat_cmp, is_lt, ordering_then}
use Rattle.std.specs.Str.{bytes_eq}
use Rattle.std.specs.declared.cmp.Ordering.{Ordering}
use Rattle.sha1.specs.Sha1.{sha1}
use Rattle.manifest_troves.specs.cny-base.Name.{kind_of_name}
use Rattle.manifest_troves.specs.cny-base.declared.name.NameKind.{NameKind}
use Rattle.manifest_troves.specs.cny-base.declared.name.NameKind.TheVariants.{Component, Package, Group}
use Rattle.cny_dep.specs.declared.parts.Parts.{Parts}
use Rattle.cny_dep.specs.Canonical.{flavor_text, no_parts}
use Rattle.cny_version.specs.Version.{WholeVersion}
use Rattle.cny_dep.specs.Dep.{dep_text}
use Rattle.manifest_troves.specs.cny-stream.declared.record.FileRec.TheVariants as rec
use Rattle.manifest_troves.specs.trove-parts.declared.id.TroveId.{TroveId}
use Rattle.manifest_troves.specs.trove-parts.Order.{id_cmp}
use Rattle.manifest_troves.specs.trove-parts.declared.files.FileAt.{FileAt}
use Rattle.manifest_troves.specs.trove-stream.Trove.{is_component_of}
use Rattle.manifest_troves.specs.change-set.declared.change.Carried.{Carried}
use Rattle.manifest_troves.specs.declared.lines.DepLine.{DepLine}
use Rattle.cny_manifest.specs.declared.entries.DirLine.{DirLine}
use Rattle.cny_manifest.specs.declared.entries.FileLine.{FileLine}
use Rattle.cny_manifest.specs.Lines.{◌&>◌}
use Rattle.cny_manifest.specs.Entries.{path_of, file_of}

-- Whether directories and files name their owners, the id of the trove, and what the lines behind it say, in their order.
pub record Body : Type 0 where
  pub owners : Bool
  pub id : TroveId
  pub refs : List TroveId
  pub requires_ : List DepLine
  pub provides : List DepLine
  pub files : List FileAt
  pub contents : List Carried

-- ---- with one line more

-- right behind the version
abbrev pub body_of : Bool → List ℕ → WholeVersion → Body
body_of owners name version =
    record {
      owners = owners;
      id = record { name = name; version = version; flavor = no_parts };
      refs = [];
      requires_ = [];
      provides = [];
      files = [];
      contents = [];
    }

abbrev pub with_flavor : Body → Parts → Body
with_flavor b flavor = record b { id = record { name = b.id.name; version = b.id.version; flavor = flavor } }

abbrev pub with_ref : Body → TroveId → Body
with_ref b id = record b { refs = b.refs ++ id ∷ [] }

abbrev pub with_requirement : Body → DepLine → Body
with_requirement b line = record b { requires_ = b.requires_ ++ line ∷ [] }

abbrev pub with_provided : Body → DepLine → Body
with_provided b line = record b { provides = b.provides ++ line ∷ [] }

abbrev pub with_entry : Body → FileAt → Body
with_entry b file = record b { files = b.files ++ file ∷ [] }

abbrev pub with_dir : Body → DirLine → Body
with_dir b line = with_entry b (record { path = line.path; rec = rec.Dir line.mode line.owner })

abbrev pub with_link : Body → List ℕ → List ℕ → Body
with_link b path target = with_entry b (record { path = path; rec = rec.Link target })

-- a file with this content
abbrev pub with_file : Body → FileLine → List ℕ → Body
with_file b line content =
    record b {
      files = b.files ++ record { path = line.path; rec = rec.File line.mode line.owner line.flags line.size (sha1 content) } ∷ [];
      contents = b.contents ++ record { name = sha1 content; bytes = content } ∷ [];
    }

-- ---- what may come next

abbrev pub is_empty : {A : Type 0} → List A → Bool
is_empty [] = true
is_empty (x ∷ xs) = false

-- it is above the last of them
abbrev pub is_above : {A : Type 0} → (A → A → Ordering) → List A → A → Bool
is_above cmp [] x = true
is_above cmp (y ∷ []) x = is_lt (cmp y x)
is_above cmp (y ∷ z ∷ zs) x = is_above cmp (z ∷ zs) x

abbrev pub is_group_kind : NameKind → Bool
is_group_kind Group = true
is_group_kind _ = false

-- the name of a requirement's trove is the component itself, or a component of the package
abbrev pub is_own_by : NameKind → List ℕ → List ℕ → Bool
is_own_by Component whole name = bytes_eq name whole
is_own_by Package whole name = is_component_of whole name
is_own_by Group whole name = false

abbrev pub dep_line_cmp : DepLine → DepLine → Ordering
dep_line_cmp a b = ordering_then (slice_cmp nat_cmp a.name b.name) (slice_cmp nat_cmp (dep_text a.dep) (dep_text b.dep))

abbrev pub path_cmp : FileAt → List ℕ → Ordering
path_cmp file path = slice_cmp nat_cmp file.path path

-- the path is above the last one
abbrev pub is_above_path : List FileAt → List ℕ → Bool
is_above_path [] path = true
is_above_path (file ∷ []) path = is_lt (path_cmp file path)
is_above_path (file ∷ next ∷ files) path = is_above_path (next ∷ files) path

-- a flavor comes right behind the version
unfoldable pub can_have_flavor : Body → Bool
can_have_flavor b =
    is_empty (flavor_text b.id.flavor) && (is_empty b.refs && (is_empty b.requires_ && (is_empty b.provides && is_empty b.files)))

-- a group's references rise
unfoldable pub can_refer : Body → TroveId → Bool
can_refer b id = is_group_kind (kind_of_name b.id.name) && is_above id_cmp b.refs id

-- requirements come before what is provided and before entries, and rise
unfoldable pub can_require : Body → DepLine → Bool
can_require b line =
    is_own_by (kind_of_name b.id.name) b.id.name line.name && (is_empty b.provides && (is_empty b.files && is_above dep_line_cmp b.requires_ line))

-- what is provided comes before entries, and rises
unfoldable pub can_provide : Body → DepLine → Bool
can_provide b line = is_own_by (kind_of_name b.id.name) b.id.name line.name && (is_empty b.files && is_above dep_line_cmp b.provides line)

-- a group has no entries; their paths rise
unfoldable pub can_record : Body → List ℕ → Bool
can_record b path = not (is_group_kind (kind_of_name b.id.name)) && is_above_path b.files path

-- what a `file` line says that could come next if it had another size
abbrev pub path_can_come : Body → FileLine → Option FileLine
path_can_come b line = if can_record b line.path then Some line else None

-- the path of a `link` line that may come next
abbrev pub path_next : Body → List ℕ → Option (List ℕ)
path_next b fields = path_of fields &> λ path. if can_record b path then Some path else None

abbrev pub file_next : Body → List ℕ → Option FileLine
file_next b fields = file_of b.owners fields &> path_can_come b
