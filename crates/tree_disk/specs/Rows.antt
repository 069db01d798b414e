-- The rows of the table of calls: where each call is allowed, and what it does.
use Rattle.std.specs.Prelude.{◌≡◌, ℕ, ◌-◌, min, Bool, ◌&&◌, ◌||◌, not, IsTrue, List, [], ◌++◌, length, take, drop, Option, Some, None, is_some, ◌==◌}
use Rattle.std.specs.FinMap.{get}
use Rattle.cny_base.specs.Path.{root, parent}
use Rattle.cny_base.specs.declared.node.Node.{Node}
use Rattle.cny_base.specs.declared.node.Node.TheVariants.{Dir, File, Link}
use Rattle.tree_disk.specs.declared.disk.Look.{Look}
use Rattle.tree_disk.specs.declared.disk.Look.TheVariants as look
use Rattle.tree_disk.specs.Tree.{Name, Tree, same_name, put, is_dir, is_file, is_link, children}

abbrev pub is_dir_at : Tree → Name → Bool
is_dir_at t p = is_dir (get t p)

abbrev pub is_file_at : Tree → Name → Bool
is_file_at t p = is_file (get t p)

abbrev pub is_empty_at : Tree → Name → Bool
is_empty_at t p = not (is_some (get t p))

abbrev pub is_childless : Tree → Name → Bool
is_childless t p = length (children t p) == 0

-- append: the parent is a directory, and nothing or a file stands there
abbrev pub can_append : Tree → Name → Bool
can_append t p = is_dir_at t (parent p) && (is_empty_at t p || is_file_at t p)

-- make_dir and make_link: the parent is a directory, and nothing stands there
abbrev pub can_make : Tree → Name → Bool
can_make t p = is_dir_at t (parent p) && is_empty_at t p

-- set_mode: a directory or a file
abbrev pub can_set_mode : Tree → Name → Bool
can_set_mode t p = is_dir_at t p || is_file_at t p

-- remove: a file, a link or a directory without children, but not the root
abbrev pub can_remove : Tree → Name → Bool
can_remove t p = not (same_name p root) && (is_file_at t p || (is_link (get t p) || (is_dir_at t p && is_childless t p)))

-- rename: a file or a link; the new parent is a directory; over nothing, a file or a link; two different paths
abbrev pub can_rename : Tree → Name → Name → Bool
can_rename t from to =
    not (same_name from to)
    && ((is_file_at t from || is_link (get t from)) && (is_dir_at t (parent to) && (is_empty_at t to || (is_file_at t to || is_link (get t to)))))

-- the file with these bytes behind its own; where no file stands, a new one of mode 0600
abbrev pub grown : Option Node → List ℕ → Node
grown (Some (File mode bytes)) more = File mode (bytes ++ more)
grown _ more = File 384 more

abbrev pub with_append : Tree → Name → List ℕ → Tree
with_append t p bytes = put t p (Some (grown (get t p) bytes))

abbrev pub with_node : Tree → Name → Node → Tree
with_node t p node = put t p (Some node)

abbrev pub of_mode : Option Node → ℕ → Option Node
of_mode (Some (Dir _)) mode = Some (Dir mode)
of_mode (Some (File _ bytes)) mode = Some (File mode bytes)
of_mode node _ = node

abbrev pub with_mode : Tree → Name → ℕ → Tree
with_mode t p mode = put t p (of_mode (get t p) mode)

abbrev pub without : Tree → Name → Tree
without t p = put t p None

abbrev pub with_rename : Tree → Name → Name → Tree
with_rename t from to = put (put t to (get t from)) from None

-- What `look` answers. (Where a name above the path isn't a directory, a well-formed tree has nothing at the path, so
-- that no case is needed for it.)
abbrev pub seen_as : Option Node → Look
seen_as None = look.Nothing
seen_as (Some (Dir mode)) = look.Dir mode
seen_as (Some (File mode bytes)) = look.File mode (length bytes)
seen_as (Some (Link target)) = look.Link target

abbrev pub look_of : Tree → Name → Look
look_of t p = seen_as (get t p)

abbrev pub bytes_of : Option Node → List ℕ
bytes_of (Some (File mode bytes)) = bytes
bytes_of _ = []

-- the bytes of the file at a path
abbrev pub bytes_at : Tree → Name → List ℕ
bytes_at t p = bytes_of (get t p)

-- what `read_at` leaves in a buffer: the file's bytes from that place on, as far as there is room and file
pub record ReadsFrom (t : Tree) (p : Name) (at : ℕ) (old new : List ℕ) (count : ℕ) : Type 0 where
  pub stands : IsTrue (is_file_at t p)
  pub most : count ≡ min (length old) (length (bytes_of (get t p)) - at)
  pub bytes : new ≡ take count (drop at (bytes_of (get t p))) ++ drop count old
