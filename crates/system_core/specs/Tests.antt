-- Why the newest job of a system isn't taken back, in the tree of the system.
use Rattle.std.specs.Prelude.{◌≡◌, ◌≢◌, ◌⊎◌, false, List, ◌∷◌, ◌++◌, None, All}
use Rattle.std.specs.FinMap.{get}
use Rattle.std.specs.Ordering.{nat_cmp}
use Rattle.std.specs.Cmp.Lexicographic.{slice_cmp}
use Rattle.std.specs.declared.cmp.Ordering.TheVariants.{Less}
use Rattle.rollback_stack.specs.cny-base.Path.{parent}
use Rattle.rollback_stack.specs.journal-log.Targets.{with_targets}
use Rattle.rollback_stack.specs.tree-disk.Tree.{Name, Tree, is_dir}
use Rattle.rollback_stack.specs.tree-scan.Marks.{fingerprint}
use Rattle.local_db.specs.SystemState.{StackItem}
use Rattle.local_db.specs.Steps.{HasForeignEntry, backs}

-- what stands at this path of the job isn't what the job left there, or is a directory that it made, with a foreign entry
abbrev pub IsEditedSince : StackItem → Tree → Name → Type 0
IsEditedSince o tree p = (fingerprint (get tree p) ≢ fingerprint (get o.after p)) ⊎ HasForeignEntry o tree p

-- the first path of the job, in their order, that is edited
pub record IsFirstEditedSince (o : StackItem) (tree : Tree) (path : Name) : Type 0 where
  pub front : List Name
  pub rest : List Name
  pub split : o.paths ≡ front ++ path ∷ rest
  pub unedited : All (λ p. IsEditedSince o tree p → ⊥) front
  pub edited : IsEditedSince o tree path

-- something stands at the path, and its parent is no directory
abbrev pub LacksDirectory : Tree → Name → Type 0
LacksDirectory tree q = (get tree q ≢ None) × (is_dir (get tree (parent q)) ≡ false)

-- no path of the job is edited, and with the nodes before it this is the first path that lacks its directory
pub record IsFirstWithoutDirectory (o : StackItem) (tree : Tree) (path : Name) : Type 0 where
  pub unedited : All (λ p. IsEditedSince o tree p → ⊥) o.paths
  pub orphan : LacksDirectory (with_targets (backs o) tree) path
  pub first : (q : Name) → slice_cmp nat_cmp q path ≡ Less → LacksDirectory (with_targets (backs o) tree) q → ⊥
