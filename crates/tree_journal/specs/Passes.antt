-- The two passes of a replay: what obstructs the targets is removed, the deepest path first, and then the targets are
-- made, the shallowest first. A file or link is made at the work name, and renamed.
use Rattle.std.specs.Prelude.{◌≡◌, ◌≢◌, ◌⊎◌, ℕ, Bool, true, false, not, IsTrue, List, [], ◌∷◌, Option, Some, None, length, if◌then◌else◌}
use Rattle.std.specs.FinMap.{get}
use Rattle.std.specs.List.{All}
use Rattle.journal_log.specs.cny-base.Path.{parent}
use Rattle.journal_log.specs.cny-base.declared.node.Node.{Node}
use Rattle.journal_log.specs.cny-base.declared.node.Node.TheVariants as node
use Rattle.journal_log.specs.tree-disk.declared.disk.Look.{Look}
use Rattle.journal_log.specs.tree-disk.declared.disk.Look.TheVariants as look
use Rattle.journal_log.specs.tree-disk.Clear.{is_within, without_tree}
use Rattle.journal_log.specs.tree-disk.Tree.{Name, Tree, same_name, put}
use Rattle.journal_log.specs.tree-disk.Rows.{bytes_at, is_dir_at, is_file_at, can_make, can_remove, without}
use Rattle.journal_log.specs.declared.put.Want.{Want}
use Rattle.journal_log.specs.declared.put.Want.TheVariants as want
use Rattle.journal_log.specs.declared.put.Put.{Put}
use Rattle.journal_log.specs.Own.{work, is_own}
use Rattle.journal_log.specs.WriteSet.{CanBeNamed, IsLoggable, Rises}
use Rattle.journal_log.specs.Targets.{is_dir_want, is_target, node_of}
use Rattle.tree_journal.specs.CanBePut.{AllCanBePut}
use Rattle.tree_journal.specs.Staging.{has_content, AllStaged, resolved, outcome}
use Rattle.std.specs.Prelude.{◌||◌}

-- a file or a link, which is renamed into its place
abbrev pub is_renamed : Want → Bool
is_renamed want.Nothing = false
is_renamed (want.Dir mode) = false
is_renamed (want.File mode bytes) = true
is_renamed (want.Link target) = true
is_renamed (want.Staged mode number size name) = true

-- What stands has to go before the target is made: a directory where none is wanted, and a file or link in place of which
-- none is renamed.
abbrev pub obstructs : Want → Option Node → Bool
obstructs wanted None = false
obstructs wanted (Some (node.Dir mode)) = not (is_dir_want wanted)
obstructs wanted (Some (node.File mode bytes)) = not (is_renamed wanted)
obstructs wanted (Some (node.Link target)) = not (is_renamed wanted)

-- the same, by what `look` answers
abbrev pub is_obstructed : Want → Look → Bool
is_obstructed wanted look.Nothing = false
is_obstructed wanted (look.Dir mode) = not (is_dir_want wanted)
is_obstructed wanted (look.File mode size) = not (is_renamed wanted)
is_obstructed wanted (look.Link target) = not (is_renamed wanted)

abbrev pub cleared : Tree → Put → Tree
cleared tree p = if obstructs p.want (get tree p.path) then without tree p.path else tree

-- the tree after the first pass, which goes from the last write to the first
abbrev pub all_cleared : List Put → Tree → Tree
all_cleared [] tree = tree
all_cleared (p ∷ puts) tree = cleared (all_cleared puts tree) p

abbrev pub CanClear : Tree → Put → Type 0
CanClear tree p = obstructs p.want (get tree p.path) ≡ true → IsTrue (can_remove tree p.path)

-- each can be cleared once those behind it are
abbrev pub CanClearAll : List Put → Tree → Type 0
CanClearAll [] tree = Unit {0}
CanClearAll (p ∷ puts) tree = CanClear (all_cleared puts tree) p × CanClearAll puts tree

-- writes in path order, each of which can be cleared so
pub record CanClearPass (puts : List Put) (tree : Tree) : Type 0 where
  pub rises : Rises puts
  pub can : CanClearAll puts tree

-- the target stands, with the bytes that its staged file has in the tree
abbrev pub with_target : Name → Put → Tree → Tree
with_target base p tree = put tree p.path (node_of (resolved base tree p.want))

-- nothing obstructs the target, and its parent stands where something is wanted
pub record CanMake (tree : Tree) (p : Put) : Type 0 where
  pub clear : obstructs p.want (get tree p.path) ≡ false
  pub parent_stands : p.want ≢ want.Nothing → IsTrue (is_dir_at tree (parent p.path))

-- each can be made once those before it are, with the staged bytes of the tree at the start
abbrev pub CanMakeAll : Name → Tree → List Put → Tree → Type 0
CanMakeAll base start [] tree = Unit {0}
CanMakeAll base start (p ∷ puts) tree = CanMake tree p × CanMakeAll base start puts (put tree p.path (node_of (resolved base start p.want)))

-- a file or link can be made at the work name: its directory stands, and nothing at it
pub record CanWork (base : Name) (tree : Tree) : Type 0 where
  pub base_stands : IsTrue (is_dir_at tree base)
  pub bare : get tree (work base) ≡ None

-- a target that can be made now
pub record CanMakeNow (base : Name) (tree : Tree) (p : Put) : Type 0 where
  pub can : CanMake tree p
  pub workable : CanWork base tree
  pub stands : IsTrue (has_content base tree p.want)
  pub not_own : is_own base p.path ≡ false

-- a file or link at the work name that can be renamed to the path
pub record CanMove (base : Name) (tree : Tree) (path : Name) : Type 0 where
  pub parent_stands : IsTrue (is_dir_at tree (parent path))
  pub clear : is_dir_at tree path ≡ false
  pub workable : CanWork base tree
  pub not_own : is_own base path ≡ false

-- a file of this size stands at the path
pub record HasSize (tree : Tree) (path : Name) (size : ℕ) : Type 0 where
  pub stands : IsTrue (is_file_at tree path)
  pub long : length (bytes_at tree path) ≡ size

-- a file of this size that can be copied
pub record CanCopy (tree : Tree) (from to : Name) (size : ℕ) : Type 0 where
  pub file : HasSize tree from size
  pub can : IsTrue (can_make tree to)

-- a write set that can be put into the tree
pub record CanReplay (base : Name) (puts : List Put) (tree : Tree) : Type 0 where
  pub loggable : IsLoggable base puts
  pub stand : AllStaged base tree puts
  pub can : AllCanBePut puts tree
  pub base_stands : IsTrue (is_dir_at tree base)

-- the same, with nothing at the work name
pub record CanPutAll (base : Name) (puts : List Put) (tree : Tree) : Type 0 where
  pub replay : CanReplay base puts tree
  pub bare : get tree (work base) ≡ None

-- all targets can be made, one after the other
pub record CanMakePass (base : Name) (puts : List Put) (tree : Tree) : Type 0 where
  pub rises : Rises puts
  pub named : All (λ p. CanBeNamed base p.path) puts
  pub can : CanMakeAll base tree puts tree
  pub stand : AllStaged base tree puts
  pub workable : CanWork base tree

-- the parent is a directory, and nothing or a directory stands there
pub record CanMakeDir (tree : Tree) (path : Name) : Type 0 where
  pub parent_stands : IsTrue (is_dir_at tree (parent path))
  pub clear : (get tree path ≡ None) ⊎ (is_dir_at tree path ≡ true)

-- the names of a target that is made: its own, and the work name with all below it
abbrev pub is_work_or_name : Name → Name → Name → Bool
is_work_or_name base path q = is_within (work base) q || same_name q path

-- the names of the passes
abbrev pub is_work_or_target : Name → List Put → Name → Bool
is_work_or_target base puts q = is_within (work base) q || is_target puts q

-- all targets stand, and nothing at the work name
abbrev pub all_put : Name → List Put → Tree → Tree
all_put base puts tree = outcome base puts (without_tree tree (work base))
