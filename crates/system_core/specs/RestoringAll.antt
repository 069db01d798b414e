-- What several rollbacks at once restore, where nothing at the paths of the jobs was edited.
use Rattle.std.specs.Prelude.{◌≡◌, ℕ, ◌≤◌, false, List, [], ◌∷◌, ◌++◌, Option, Result, Ok, Err, if◌then◌else◌}
use Rattle.std.specs.FinMap.{get}
use Rattle.rollback_stack.specs.cny-base.Reserved.{is_reserved}
use Rattle.rollback_stack.specs.cny-base.declared.node.Node.{Node}
use Rattle.rollback_stack.specs.cny-base.declared.refusal.Refusal.{Refusal}
use Rattle.rollback_stack.specs.cny-base.declared.refusal.Refusal.TheVariants.{Edited, Parent}
use Rattle.rollback_stack.specs.cny-base.declared.stop.Stop.{Stop}
use Rattle.rollback_stack.specs.cny-base.declared.stop.Stop.TheVariants as stop
use Rattle.rollback_stack.specs.trove-stream.declared.parts.TroveParts.{TroveParts}
use Rattle.rollback_stack.specs.tree-disk.Tree.{Name, Tree, AgreesOutside}
use Rattle.local_db.specs.declared.db.Db.{Db}
use Rattle.local_db.specs.SystemState.{StackItem, SystemState, is_listed}
use Rattle.local_db.specs.Steps.{CanRollBackAll, after_rollbacks}
use Rattle.system_core.specs.Restoring.{IsLeftAlone, IsPutInto, IsUnedited}
use Rattle.system_core.specs.Several.{OfTurn, jobs_to}

-- What stood at the name before the oldest of these jobs that has it among its paths. Where none has it, this.
abbrev pub old_node : List StackItem → Name → Option Node → Option Node
old_node [] q stood = stood
old_node (o ∷ os) q stood = old_node os q (if is_listed o.paths q then get o.before q else stood)

-- the list before the oldest of these jobs
abbrev pub list_before : List StackItem → List TroveParts → List TroveParts
list_before [] list = list
list_before (o ∷ os) list = list_before os o.list

-- the tree before the oldest of these jobs
abbrev pub tree_before : List StackItem → Tree → Tree
tree_before [] tree = tree
tree_before (o ∷ os) tree = tree_before os o.before

-- nothing was edited since any of the jobs: each begins with the tree that the next older one left, and the newest left this one
abbrev pub FollowEachOther : List StackItem → Tree → Type 0
FollowEachOther [] tree = Unit {0}
FollowEachOther (o ∷ os) tree = (tree ≡ o.after) × FollowEachOther os o.before

-- when the turn of each job from the newest down to this number comes, nothing at its paths was edited since
abbrev pub AreUnedited : SystemState → ℕ → Type 0
AreUnedited s number = (newer : List StackItem) (o : StackItem) (olds : List StackItem) → s.stack ≡ newer ++ o ∷ olds → number ≤ o.number → CanRollBackAll newer (o ∷ olds) s
    → IsUnedited o (after_rollbacks newer (o ∷ olds) s).tree

-- Each path of the jobs has the exact node that stood before the oldest job that has it, every other path stays, and the list is
-- that before the oldest. Where nothing at all was edited since, the tree is the one before the oldest job.
pub record AreRestored (os : List StackItem) (s : SystemState) (db : Db) (x : Tree) : Type 0 where
  pub each : (q : Name) → is_reserved q ≡ false → get x q ≡ old_node os q (get s.tree q)
  pub list : db.installed ≡ list_before os s.installed
  pub whole : FollowEachOther os s.tree → AgreesOutside is_reserved x (tree_before os s.tree)

-- one of the jobs meets one of the two refusals that edits at other paths can give
abbrev pub IsExceptionTo : SystemState → ℕ → Refusal → Type 0
IsExceptionTo s number (Edited path) = OfTurn s number (λ o tree. IsPutInto o tree path)
IsExceptionTo s number (Parent path) = OfTurn s number (λ o tree. IsLeftAlone o tree path)
IsExceptionTo s number _ = ⊥

-- They restore what stood before the jobs, or it is one of the two exceptions.
abbrev pub RestoresTo : SystemState → ℕ → Db → Tree → Result ℕ Stop → Type 0
RestoresTo s number db x (Ok count) = AreRestored (jobs_to number s.stack) s db x
RestoresTo s number db x (Err (stop.Refused why)) = IsExceptionTo s number why
RestoresTo s number db x (Err stop.Failed) = Unit {0}
RestoresTo s number db x (Err stop.Memory) = Unit {0}
RestoresTo s number db x (Err (stop.Damaged path)) = ⊥
RestoresTo s number db x (Err stop.FarFailed) = ⊥
RestoresTo s number db x (Err (stop.FarDamaged path)) = ⊥
