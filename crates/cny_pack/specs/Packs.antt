-- The manifest of what stands in a tree.
use Rattle.std.specs.Prelude.{◌≡◌, ◌≢◌, ℕ, true, Bool, IsTrue, List, map, flat_map, Option, Some, None, All}
use Rattle.std.specs.FinMap as tree
use Rattle.std.specs.Io.KnownBytes.{Appends}
use Rattle.std.specs.List.{list_any}
use Rattle.tree_disk.specs.cny-base.Path.{root}
use Rattle.tree_disk.specs.cny-base.declared.node.Node.{Node}
use Rattle.tree_disk.specs.cny-base.declared.node.Node.TheVariants as node
use Rattle.tree_disk.specs.Rows.{look_of}
use Rattle.tree_disk.specs.Tree.{Name, Tree, same_name}
use Rattle.manifest_troves.specs.cny-stream.Owner.{OwnerNames}
use Rattle.cny_manifest.specs.Body.{Body}
use Rattle.cny_manifest.specs.Spelling.{Entry, DirEntry, FileEntry, LinkEntry, file_at, contents_in, IsSpelling}
use Rattle.cny_pack.specs.Entries.{flags_at}
use Rattle.cny_pack.specs.Head.{Says}
use Rattle.cny_pack.specs.Plan.{unfit_of}
use Rattle.cny_pack.specs.Walk.{stands}
use Rattle.cny_pack.specs.declared.head.Words.{Words}
use Rattle.cny_pack.specs.declared.plan.Rules.{Rules}

-- The bytes are a spelling of the manifest with these entries behind what the words say. Its owners are named.
pub record IsPack (words : Words) (entries : List Entry) (bytes : List ℕ) : Type 0 where
  pub body : Body
  pub spelled : IsSpelling bytes body
  pub owners : body.owners ≡ true
  pub says : Says words body.id body.requires_ body.provides
  pub files : body.files ≡ map file_at entries
  pub contents : body.contents ≡ flat_map contents_in entries

abbrev pub entry_path : Entry → Name
entry_path entry = (file_at entry).path

-- one of the entries is that of this path
abbrev pub has_entry : List Entry → Name → Bool
has_entry entries path = list_any (λ entry. same_name path (entry_path entry)) entries

module _ (owns : Name → OwnerNames → Type 0) (rules : Rules) (t : Tree) where
  -- The entry of a node: its mode and its bytes, or its target, and an owner that was told of the path.
  abbrev pub IsEntryOf : Name → Node → Entry → Type 0
  IsEntryOf path (node.Dir mode) entry = (owner : OwnerNames) × owns path owner × (entry ≡ DirEntry path mode owner)
  IsEntryOf path (node.File mode bytes) entry =
      (owner : OwnerNames) × owns path owner × (entry ≡ FileEntry path mode owner (flags_at rules.config.now path) bytes)
  IsEntryOf path (node.Link target) entry = entry ≡ LinkEntry path target

  -- the entry of a node of the tree, which isn't `/` and can be in a manifest
  pub record IsEntryIn (entry : Entry) : Type 0 where
    pub node : Node
    pub stands : tree.get t (entry_path entry) ≡ Some node
    pub not_root : entry_path entry ≢ root
    pub fits : unfit_of (entry_path entry) (look_of t (entry_path entry)) ≡ None
    pub is : IsEntryOf (entry_path entry) node entry

  -- Each entry is that of a node. Each node but `/` has one; what can't be in a manifest has none where it is to be left out, and
  -- else there is nothing such.
  pub record AreNodes (entries : List Entry) : Type 0 where
    pub each : All IsEntryIn entries
    pub all : (p : Name) → stands t p ≡ true → p ≢ root → (IsTrue rules.skip → unfit_of p (look_of t p) ≡ None) → has_entry entries p ≡ true

-- What is written is a manifest behind these words; of a disk that tells its tree that of its nodes.
pub record WritesPack (owns : Name → OwnerNames → Type 0) (rules : Rules) (tells : Bool) (t : Tree) (words : Words) (old new : Option (List ℕ)) : Type 0 where
  pub bytes : List ℕ
  pub entries : List Entry
  pub given : Appends old new bytes
  pub is : IsPack words entries bytes
  pub nodes : IsTrue tells → AreNodes owns rules t entries
