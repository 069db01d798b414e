-- Where the content of a file is found that is to stand.
use Rattle.std.specs.Prelude.{◌≡◌, ℕ, Bool, false, ◌&&◌, ◌==◌, if◌then◌else◌, List, [], ◌∷◌, Option, Some, None}
use Rattle.std.specs.Option.{option_or}
use Rattle.std.specs.Str.{bytes_eq}
use Rattle.change_set.specs.declared.change.Carried.{Carried}
use Rattle.conflict_plan.specs.declared.planned.Planned.{Planned}
use Rattle.local_db.specs.tree-disk.Rows.{bytes_at}
use Rattle.local_db.specs.tree-disk.Tree.{Tree}
use Rattle.tree_scan.specs.declared.mark.Mark.{Mark}
use Rattle.tree_scan.specs.declared.mark.Mark.TheVariants.{Nothing, Dir, File, Link}
use Rattle.content_store.specs.Contents.{Answers}
pub use Rattle.change_set.specs.cny-base.Sized.{of_size}

-- the content that is carried under a name
abbrev pub carried_bytes : List Carried → List ℕ → Option (List ℕ)
carried_bytes [] name = None
carried_bytes (content ∷ contents) name = if bytes_eq content.name name then Some content.bytes else carried_bytes contents name

-- a file of this size and SHA-1, of any mode
abbrev pub is_file_of : ℕ → List ℕ → Mark → Bool
is_file_of size name (File mode of_file its_name) = of_file == size && bytes_eq its_name name
is_file_of size name Nothing = false
is_file_of size name (Dir mode) = false
is_file_of size name (Link target) = false

-- the bytes of the file that stands at a planned path, if it is one of this size and SHA-1
abbrev pub standing : Tree → Planned → ℕ → List ℕ → Option (List ℕ)
standing tree x size name = if is_file_of size name x.was then Some (bytes_at tree x.path) else None

-- what the contents answer, if it has the size
pub record IsFarContent (answers : Answers) (size : ℕ) (name : List ℕ) (found : Option (List ℕ)) : Type 0 where
  pub answer : Option (List ℕ)
  pub answered : answers name answer
  pub sized : found ≡ of_size size answer

-- What is found of a content that isn't carried: what the contents answer, if it has the size, and else what stands at the path.
pub record FindsElsewhere (answers : Answers) (tree : Tree) (x : Planned) (size : ℕ) (name : List ℕ) (found : Option (List ℕ)) : Type 0 where
  pub answer : Option (List ℕ)
  pub answered : answers name answer
  pub first : found ≡ option_or (of_size size answer) (standing tree x size name)

abbrev pub FindsBehind : Option (List ℕ) → Answers → Tree → Planned → ℕ → List ℕ → Option (List ℕ) → Type 0
FindsBehind (Some bytes) answers tree x size name found = found ≡ Some bytes
FindsBehind None answers tree x size name found = FindsElsewhere answers tree x size name found

-- What is found of the content of this size and SHA-1 for a planned path: the carried one, and where none is carried, what is
-- found elsewhere.
abbrev pub Finds : List Carried → Answers → Tree → Planned → ℕ → List ℕ → Option (List ℕ) → Type 0
Finds carried answers tree x size name found = FindsBehind (of_size size (carried_bytes carried name)) answers tree x size name found
