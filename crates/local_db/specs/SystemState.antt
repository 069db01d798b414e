-- Systems: a tree, the installed troves and the stack of jobs.
use Rattle.std.specs.Prelude.{◌≡◌, ◌≢◌, ℕ, ◌+◌, ◌≤◌, Bool, true, false, ◌||◌, IsTrue, List, [], ◌∷◌, length, Option, Some, None, All}
use Rattle.std.specs.List.Sorted.{IsStrictlySortedBy}
use Rattle.std.specs.Ordering.{nat_cmp}
use Rattle.std.specs.Cmp.Lexicographic.{slice_cmp}
use Rattle.std.specs.FinMap.{get}
use Rattle.trove_stream.specs.cny-base.Path.{is_path}
use Rattle.trove_stream.specs.cny-base.Reserved.{is_reserved, is_pinned}
use Rattle.trove_stream.specs.cny-base.declared.limits.TheConstants.{CONTENT_LIMIT, JOBS_LIMIT, STACK_LIMIT}
use Rattle.trove_stream.specs.cny-base.declared.node.Node.{Node}
use Rattle.trove_stream.specs.cny-base.declared.node.Node.TheVariants as node
use Rattle.trove_stream.specs.declared.parts.TroveParts.{TroveParts}
use Rattle.tree_journal.specs.tree-disk.Tree.{Name, Tree, same_name, WellFormed, AgreesOutside}
use Rattle.tree_scan.specs.Marks.{fingerprint}
use Rattle.local_db.specs.MarkBytes.{IsMark}
use Rattle.local_db.specs.Installed.{IsInstalled}
use Rattle.local_db.specs.declared.format.Format.TheVariants.{Two}
use Rattle.local_db.specs.Formats.{Fits}

-- A job of the past: its number, the whole trees before and after it, the whole list before it, and the paths where the
-- two trees differ.
pub record StackItem : Type 0 where
  pub number : ℕ
  pub before : Tree
  pub after : Tree
  pub list : List TroveParts
  pub paths : List Name

-- the newest job is the first of the stack
pub record SystemState : Type 0 where
  pub tree : Tree
  pub installed : List TroveParts
  pub stack : List StackItem

-- the number of the newest job, 0 where there is none
abbrev pub newest : List StackItem → ℕ
newest [] = 0
newest (o ∷ olds) = o.number

-- the number of the oldest job, 0 where there is none
abbrev pub oldest : List StackItem → ℕ
oldest [] = 0
oldest (o ∷ []) = o.number
oldest (o ∷ p ∷ olds) = oldest (p ∷ olds)

-- from the newest down the numbers fall by 1, to one of at least 1
abbrev pub AreNumbered : List StackItem → Type 0
AreNumbered [] = Unit {0}
AreNumbered (o ∷ []) = 1 ≤ o.number
AreNumbered (o ∷ p ∷ olds) = (o.number ≡ p.number + 1) × AreNumbered (p ∷ olds)

abbrev pub is_listed : List Name → Name → Bool
is_listed [] q = false
is_listed (p ∷ paths) q = same_name q p || is_listed paths q

-- a path that a job may change
pub record IsFree (path : Name) : Type 0 where
  pub path_is : IsTrue (is_path path)
  pub not_reserved : is_reserved path ≡ false
  pub not_pinned : is_pinned path ≡ false

-- no file above the limit of what a job may replace
abbrev pub IsSmall : Option Node → Type 0
IsSmall None = Unit {0}
IsSmall (Some (node.Dir mode)) = Unit {0}
IsSmall (Some (node.File mode bytes)) = length bytes ≤ CONTENT_LIMIT
IsSmall (Some (node.Link target)) = Unit {0}

-- a record can say that this stood there
pub record IsTellable (node : Option Node) : Type 0 where
  pub mark : IsMark (fingerprint node)
  pub small : IsSmall node

pub record IsStackItem (o : StackItem) : Type 0 where
  pub before_formed : WellFormed o.before
  pub after_formed : WellFormed o.after
  pub rising : IsStrictlySortedBy (slice_cmp nat_cmp) o.paths
  pub free : All IsFree o.paths
  pub differ : All (λ p. get o.before p ≢ get o.after p) o.paths
  pub same : AgreesOutside (is_listed o.paths) o.before o.after
  pub before : All (λ p. IsTellable (get o.before p)) o.paths
  pub after : All (λ p. IsMark (fingerprint (get o.after p))) o.paths
  pub list : IsInstalled o.list
  pub fits : Fits Two o.list

-- A well-formed tree with nothing in the private directory, a list that fits its database, and at most 4,096 numbered jobs.
pub record IsSystemState (s : SystemState) : Type 0 where
  pub tree : WellFormed s.tree
  pub managed : (p : Name) → is_reserved p ≡ true → get s.tree p ≡ None
  pub list : IsInstalled s.installed
  pub fits : Fits Two s.installed
  pub few : length s.stack ≤ STACK_LIMIT
  pub numbered : AreNumbered s.stack
  pub number : newest s.stack ≤ JOBS_LIMIT
  pub olds : All IsStackItem s.stack

-- nothing is installed, and there is no job
abbrev pub empty_system : Tree → SystemState
empty_system tree = record { tree = tree; installed = []; stack = [] }
