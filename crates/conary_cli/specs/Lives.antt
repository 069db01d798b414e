-- What both disks go through in several lines: a list of states.
use Rattle.std.specs.Prelude.{List, [], ◌∷◌}
use Rattle.root_commands.specs.cli-call.tree-disk.Disk.{DiskModel}
use Rattle.root_commands.specs.cli-call.tree-disk.Confined.{LeavesOnly}
use Rattle.root_commands.specs.cli-call.cny-laws.State.{State, OneDisk}
use Rattle.root_commands.specs.cli-call.cny-laws.Store.{OneOf}
use Rattle.root_commands.specs.cli-call.cny-laws.Stores.{root_store, repository_store}

module _ {T P : Type 0} (root_disk : DiskModel T) (repo_disk : DiskModel P) where
  -- From one moment of both disks to another, and from a state to the next: a crash of a disk leaves a tree that recovers to what it
  -- has in one of the two, and these differ on one disk at most.
  pub record LiveStep (s t : State) (root root' : T) (repo repo' : P) : Type 0 where
    pub on_root : LeavesOnly root_disk root root' (OneOf root_store s.root t.root)
    pub on_repo : LeavesOnly repo_disk repo repo' (OneOf repository_store s.repository t.repository)
    pub apart : OneDisk s t

  -- Both disks lived these states, the first of them and the further ones: with one further state by one step. With more there is a
  -- moment of both disks: until then they went by a step to the second state, and from then on they lived all states but the first.
  abbrev pub LiveBoth : State → List State → T → T → P → P → Type 0
  LiveBoth s [] root root' repo repo' = LiveStep s s root root' repo repo'
  LiveBoth s (t ∷ []) root root' repo repo' = LiveStep s t root root' repo repo'
  LiveBoth s (t ∷ u ∷ more) root root' repo repo' = (mid : T) × (far : P) × LiveStep s t root mid repo far × LiveBoth t (u ∷ more) mid root' far repo'

-- the last of these states, and the one before it
abbrev pub last_state : {X : Type 0} → X → List X → X
last_state x [] = x
last_state x (y ∷ more) = last_state y more

abbrev pub before_last : {X : Type 0} → X → List X → X
before_last x [] = x
before_last x (y ∷ []) = x
before_last x (y ∷ z ∷ more) = before_last y (z ∷ more)
