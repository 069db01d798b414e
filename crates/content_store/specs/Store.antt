-- A store: the files of a directory, each under the hexadecimal digits of its content's name.
use Rattle.std.specs.Prelude.{◌≡◌, ℕ, List, length, Option, Some, None}
use Rattle.std.specs.FinMap.{get}
use Rattle.hex.specs.Hex.{encode_lower, IsBytes}
use Rattle.tree_disk.specs.cny-base.Path.{join}
use Rattle.tree_disk.specs.cny-base.declared.node.Node.{Node}
use Rattle.tree_disk.specs.cny-base.declared.node.Node.TheVariants.{Dir, File, Link}
use Rattle.tree_disk.specs.Tree.{Name, Tree}

-- the bytes of a file, and none where no file stands
abbrev pub file_bytes : Option Node → Option (List ℕ)
file_bytes (Some (File mode bytes)) = Some bytes
file_bytes (Some (Dir mode)) = None
file_bytes (Some (Link target)) = None
file_bytes None = None

-- where a content stands: directly in the directory, under the 40 lower-case digits of its name
abbrev pub content_path : Name → List ℕ → Name
content_path dir name = join dir (encode_lower name)

-- the store of a directory, as a map from names to bytes
abbrev pub stored : Tree → Name → List ℕ → Option (List ℕ)
stored tree dir name = file_bytes (get tree (content_path dir name))

-- the name of a content: 20 bytes
pub record IsContentName (name : List ℕ) : Type 0 where
  pub long : length name ≡ 20
  pub bytes : IsBytes name
