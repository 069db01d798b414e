-- Which names of the root a command leaves, and what readers of it see.
use Rattle.std.specs.Prelude.{◌≡◌, ◌⊎◌, ◌<◌, false, List, Result, Ok, Contains}
use Rattle.std.specs.FinMap.{get}
use Rattle.system_core.specs.cny-base.Reserved.{is_reserved}
use Rattle.system_core.specs.cny-base.declared.refusal.Refusal.{Refusal}
use Rattle.system_core.specs.tree-disk.Tree.{Name, Tree}
use Rattle.local_db.specs.SystemState.{StackItem, is_listed, newest}
use Rattle.cny_laws.specs.RootOpening.{ShowsBetween}
use Rattle.cny_laws.specs.State.{RootState, State, Effect, tree_of, after}

-- the path of none of the jobs of the one stack that are newer than those of the other
abbrev pub IsNoPath : List StackItem → List StackItem → Name → Type 0
IsNoPath stack other q = (o : StackItem) → Contains stack o → newest other < o.number → is_listed o.paths q ≡ false

-- From the one system to the other this name isn't touched: its node is the same, and it is no path of a job that was taken back or
-- added.
pub record LeavesName (s t : RootState) (q : Name) : Type 0 where
  pub node : get (tree_of t) q ≡ get (tree_of s) q
  pub undone : IsNoPath s.stack t.stack q
  pub added : IsNoPath t.stack s.stack q

-- no effect that is an outcome touches this name of the root
abbrev pub IsUntouched : (Result Effect Refusal → Type 0) → State → Name → Type 0
IsUntouched IsOutcome s q = (e : Effect) → IsOutcome (Ok e) → LeavesName s.root (after s e.change).root q

-- Each name of the root outside its private directory that no such effect touches reads as before, however the command ends.
abbrev pub KeepsOthers : (Result Effect Refusal → Type 0) → State → Tree → Tree → Type 0
KeepsOthers IsOutcome s before now = (q : Name) → is_reserved q ≡ false → IsUntouched IsOutcome s q → get now q ≡ get before q

-- What readers of the root see: the tree before; or, at each name outside its private directory, the node of the state, that of an
-- effect which is an outcome, or nothing where just one of the two is a directory.
abbrev pub IsShown : (Result Effect Refusal → Type 0) → State → Tree → Tree → Type 0
IsShown IsOutcome s before t = (t ≡ before) ⊎ ((e : Effect) × IsOutcome (Ok e) × ShowsBetween (tree_of s.root) (tree_of (after s e.change).root) t)
