-- What a rollback restores, where nothing at the paths of the job was edited.
use Rattle.std.specs.Prelude.{◌≡◌, ◌≢◌, ℕ, true, false, None, Result, Ok, Err, All}
use Rattle.std.specs.FinMap.{get}
use Rattle.rollback_stack.specs.cny-base.Path.{parent}
use Rattle.rollback_stack.specs.cny-base.Reserved.{is_reserved}
use Rattle.rollback_stack.specs.cny-base.declared.refusal.Refusal.{Refusal}
use Rattle.rollback_stack.specs.cny-base.declared.refusal.Refusal.TheVariants.{Edited, Parent}
use Rattle.rollback_stack.specs.cny-base.declared.stop.Stop.{Stop}
use Rattle.rollback_stack.specs.cny-base.declared.stop.Stop.TheVariants as stop
use Rattle.local_db.specs.declared.db.Db.{Db}
use Rattle.rollback_stack.specs.tree-disk.Tree.{Name, Tree, AgreesOutside, is_dir}
use Rattle.rollback_stack.specs.tree-scan.Marks.{fingerprint}
use Rattle.local_db.specs.SystemState.{StackItem, is_listed}

-- what stands at each path of the job has the fingerprint that it left there
abbrev pub IsUnedited : StackItem → Tree → Type 0
IsUnedited o tree = All (λ p. fingerprint (get tree p) ≡ fingerprint (get o.after p)) o.paths

-- Each path of the job has its exact old node, every other path stays, and the list is that before the job. Where nothing at all
-- was edited since, the tree is the one before the job.
pub record IsRestored (o : StackItem) (tree : Tree) (db : Db) (x : Tree) : Type 0 where
  pub own : (q : Name) → is_listed o.paths q ≡ true → get x q ≡ get o.before q
  pub others : (q : Name) → is_reserved q ≡ false → is_listed o.paths q ≡ false → get x q ≡ get tree q
  pub list : db.installed ≡ o.list
  pub whole : tree ≡ o.after → AgreesOutside is_reserved x o.before

-- Into this directory, which the job made, an edit put a name that isn't one of its paths.
pub record IsPutInto (o : StackItem) (tree : Tree) (path : Name) : Type 0 where
  pub own : is_listed o.paths path ≡ true
  pub no_dir : is_dir (get o.before path) ≡ false
  pub made : is_dir (get o.after path) ≡ true
  pub name : Name
  pub other : is_listed o.paths name ≡ false
  pub below : parent name ≡ path
  pub left : get o.after name ≡ None
  pub there : get tree name ≢ None

-- Of this path, at which the job removed or changed something, an edit took away the directory, which isn't one of its paths.
pub record IsLeftAlone (o : StackItem) (tree : Tree) (path : Name) : Type 0 where
  pub own : is_listed o.paths path ≡ true
  pub stood : get o.before path ≢ None
  pub other : is_listed o.paths (parent path) ≡ false
  pub left : is_dir (get o.after (parent path)) ≡ true
  pub gone : is_dir (get tree (parent path)) ≡ false

-- the two refusals that edits at other paths can give
abbrev pub IsException : StackItem → Tree → Refusal → Type 0
IsException o tree (Edited path) = IsPutInto o tree path
IsException o tree (Parent path) = IsLeftAlone o tree path
IsException o tree _ = ⊥

-- It restores what stood before the job, or it is one of the two exceptions.
abbrev pub Restores : StackItem → Tree → Db → Tree → Result ℕ Stop → Type 0
Restores o tree db x (Ok number) = IsRestored o tree db x
Restores o tree db x (Err (stop.Refused why)) = IsException o tree why
Restores o tree db x (Err stop.Failed) = Unit {0}
Restores o tree db x (Err stop.Memory) = Unit {0}
Restores o tree db x (Err (stop.Damaged path)) = ⊥
Restores o tree db x (Err stop.FarFailed) = ⊥
Restores o tree db x (Err (stop.FarDamaged path)) = ⊥
