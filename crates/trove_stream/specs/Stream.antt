-- The stream of a trove, as a function of it.
use Rattle.std.specs.Prelude.{◌≡◌, ℕ, ◌≤◌, List, ◌++◌, length, drop}
use Rattle.trove_parts.specs.cny-dep.Canonical.{flavor_text}
use Rattle.cny_stream.specs.Item.{item_bytes}
use Rattle.cny_version.specs.Version.{version_text}
use Rattle.trove_parts.specs.cny-stream.declared.encoding.Encoding.{Encoding}
use Rattle.trove_parts.specs.cny-stream.declared.encoding.Encoding.TheVariants.{Compact, Explicit}
use Rattle.trove_parts.specs.declared.id.TroveId.{TroveId}
use Rattle.trove_parts.specs.Id.{IsTroveId}
use Rattle.trove_parts.specs.Deps.{deps_bytes}
use Rattle.trove_parts.specs.Files.{files_bytes}
use Rattle.trove_parts.specs.Refs.{refs_bytes}
use Rattle.trove_stream.specs.declared.parts.TroveParts.{TroveParts}

-- three items: the name, and the texts of the version and the flavor
abbrev pub three_items : List ℕ → List ℕ → List ℕ → List ℕ
three_items name version flavor = item_bytes 1 name ++ (item_bytes 2 version ++ item_bytes 3 flavor)

abbrev pub head_bytes : TroveId → List ℕ
head_bytes id = three_items id.name (version_text id.version) (flavor_text id.flavor)

-- an item for each file, each reference, each dependency that is required and each that is provided
abbrev pub lists_bytes : Encoding → TroveParts → List ℕ
lists_bytes encoding t = files_bytes encoding 4 t.files ++ (refs_bytes 5 t.refs ++ (deps_bytes 6 t.requires_ ++ deps_bytes 7 t.provides))

-- the one stream of a trove in this encoding
abbrev pub stream_bytes : Encoding → TroveParts → List ℕ
stream_bytes encoding t = head_bytes t.id ++ lists_bytes encoding t

-- in change sets and commits
abbrev pub trove_bytes : TroveParts → List ℕ
trove_bytes t = stream_bytes Compact t

-- in databases and rollback records
abbrev pub full_trove_bytes : TroveParts → List ℕ
full_trove_bytes t = stream_bytes Explicit t

-- the bytes begin with the items of the id, which end at `to`
pub record IsHeadOf (bytes : List ℕ) (id : TroveId) (to : ℕ) : Type 0 where
  pub valid : IsTroveId id
  pub within : to ≤ length bytes
  pub spelled : bytes ≡ head_bytes id ++ drop to bytes
