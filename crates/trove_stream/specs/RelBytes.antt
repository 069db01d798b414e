-- The bytes of relative troves.
use Rattle.std.specs.Prelude.{◌≡◌, ℕ, List, ◌++◌}
use Rattle.cny_stream.specs.Item.{item_bytes}
use Rattle.trove_parts.specs.cny-stream.declared.encoding.Encoding.{Encoding}
use Rattle.trove_parts.specs.cny-stream.declared.encoding.Encoding.TheVariants.{Compact, Explicit}
use Rattle.trove_parts.specs.Id.{id_bytes}
use Rattle.trove_parts.specs.Files.{files_bytes}
use Rattle.trove_parts.specs.Paths.{paths_bytes}
use Rattle.trove_parts.specs.Refs.{refs_bytes}
use Rattle.trove_parts.specs.Deps.{deps_bytes}
use Rattle.trove_stream.specs.declared.rel.RelParts.{RelParts}
use Rattle.trove_stream.specs.Rel.{AreParts, IsRel}

-- the two ids, and then the items of each list, in the order of their tags
abbrev pub rel_stream_bytes : Encoding → RelParts → List ℕ
rel_stream_bytes encoding rel =
    (item_bytes 0x21 (id_bytes rel.old) ++ item_bytes 0x22 (id_bytes rel.fresh))
    ++ ((paths_bytes 0x23 rel.paths_gone ++ files_bytes encoding 0x24 rel.files_set)
    ++ ((refs_bytes 0x25 rel.refs_gone ++ refs_bytes 0x26 rel.refs_added)
    ++ ((deps_bytes 0x27 rel.requires_gone ++ deps_bytes 0x28 rel.requires_added)
    ++ (deps_bytes 0x29 rel.provides_gone ++ deps_bytes 0x2A rel.provides_added))))

-- in change sets and commits
abbrev pub rel_bytes : RelParts → List ℕ
rel_bytes rel = rel_stream_bytes Compact rel

-- in databases and rollback records
abbrev pub full_rel_bytes : RelParts → List ℕ
full_rel_bytes rel = rel_stream_bytes Explicit rel

-- the bytes are those of these parts in this encoding, each of them valid
pub record IsSpelled (encoding : Encoding) (rel : RelParts) (bytes : List ℕ) : Type 0 where
  pub parts : AreParts rel
  pub text : bytes ≡ rel_stream_bytes encoding rel

-- the bytes are the stream of this relative trove in this encoding
pub record IsStreamOf (encoding : Encoding) (rel : RelParts) (bytes : List ℕ) : Type 0 where
  pub rel_is : IsRel rel
  pub text : bytes ≡ rel_stream_bytes encoding rel

abbrev pub IsRelStream : RelParts → List ℕ → Type 0
IsRelStream rel bytes = IsStreamOf Compact rel bytes

abbrev pub IsFullRelStream : RelParts → List ℕ → Type 0
IsFullRelStream rel bytes = IsStreamOf Explicit rel bytes
