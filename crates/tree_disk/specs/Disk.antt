-- What a disk means, and what its calls may do to it.
use Rattle.std.specs.Prelude.{◌≡◌, ◌⊎◌, ℕ, ◌<◌, ◌≤◌, Bool, false, ◌||◌, IsTrue, List, Result, OnOk, OnErr, IsErrOf}
use Rattle.std.specs.List.{All}
use Rattle.tree_disk.specs.declared.disk.DiskStop.{DiskStop}
use Rattle.tree_disk.specs.declared.disk.DiskStop.TheVariants.{Failed, Refused, Memory}
use Rattle.cny_base.specs.Count.{Rose}
use Rattle.cny_base.specs.Path.{is_path, join}
use Rattle.tree_disk.specs.Tree.{Name, Tree, same_name, WellFormed, AgreesOutside}

-- the meanings of a disk
pub record DiskModel (D : Type 0) : Type 1 where
  -- whether it tells its tree: where it doesn't, nothing is said of the others but the count of faults
  pub tells : Bool
  -- the tree that look, read_at and list show
  pub reads : D → Tree
  -- whether a name changed since the last successful sync
  pub unsynced : D → Name → Bool
  -- the clock: a moment that only rises
  pub now : D → ℕ
  -- the tree that was read at a moment that has passed
  pub reads_at : D → ℕ → Tree
  -- whether a crash at some moment since that one may have left this tree
  pub images_since : D → ℕ → Tree → Type 0
  -- how often the disk has failed; a count that stays at its greatest value
  pub faults : D → ℕ

-- A tree that a crash may leave: it is well formed, and it holds what is read at every name that isn't unsynced.
-- (What is read there is what was read at the last successful sync.)
pub record IsCrashImage (reads : Tree) (unsynced : Name → Bool) (t : Tree) : Type 0 where
  pub well_formed : WellFormed t
  pub synced : AgreesOutside unsynced t reads

-- whether a crash now may leave this tree
abbrev pub IsImageOf : {D : Type 0} → DiskModel D → D → Tree → Type 0
IsImageOf disk d t = IsCrashImage (disk.reads d) (disk.unsynced d) t

-- what holds of a disk at any moment
pub record IsDisk {D : Type 0} (disk : DiskModel D) : Type 0 where
  pub reads_well_formed : (d : D) → WellFormed (disk.reads d)
  -- a crash image of now is one since any earlier moment
  pub counts_now : (d : D) (k : ℕ) (t : Tree) → k ≤ disk.now d → IsImageOf disk d t → disk.images_since d k t
  -- at this moment it reads what it reads
  pub reads_now : (d : D) → disk.reads_at d (disk.now d) ≡ disk.reads d
  -- since this moment there are only those of now
  pub only_now : (d : D) (t : Tree) → disk.images_since d (disk.now d) t → IsImageOf disk d t

-- `Failed` comes only where the count of faults rose, and `Refused` only where the disk tells a tree that doesn't allow the call.
-- Want of memory and a refusal are no faults.
pub record HasCause {D T : Type 0} (disk : DiskModel D) (can : Bool) (old new : D) (result : Result T DiskStop) : Type 0 where
  pub later : disk.faults old ≤ disk.faults new
  pub failed : IsErrOf result Failed → Rose (disk.faults old) (disk.faults new)
  pub refused : IsErrOf result Refused → IsTrue disk.tells × (can ≡ false)
  pub no_fault : IsErrOf result Refused ⊎ IsErrOf result Memory → disk.faults new ≡ disk.faults old

-- At each moment after `old` up to `new` a tree was read that has P, and what was read before is kept.
pub record Shows {D : Type 0} (disk : DiskModel D) (old new : D) (P : Tree → Type 0) : Type 0 where
  pub later : disk.now old ≤ disk.now new
  pub each : (k : ℕ) → disk.now old < k → k ≤ disk.now new → P (disk.reads_at new k)
  pub kept : (k : ℕ) → k ≤ disk.now old → disk.reads_at new k ≡ disk.reads_at old k

-- meanwhile the tree before was read, or the tree after, and no other
abbrev pub InOneStep : {D : Type 0} → DiskModel D → D → D → Type 0
InOneStep disk old new = Shows disk old new (λ t. (t ≡ disk.reads old) ⊎ (t ≡ disk.reads new))

-- nothing that the disk tells of its tree is changed
pub record Unchanged {D : Type 0} (disk : DiskModel D) (old new : D) : Type 0 where
  pub reads : disk.reads new ≡ disk.reads old
  pub unsynced : (p : Name) → disk.unsynced new p ≡ disk.unsynced old p
  pub visible : Shows disk old new (λ t. t ≡ disk.reads old)

-- Time goes on: what a crash since k might have left it still might, and else only what a crash may leave now.
pub record Elapses {D : Type 0} (disk : DiskModel D) (old new : D) : Type 0 where
  pub later : disk.now old ≤ disk.now new
  pub kept : (k : ℕ) (t : Tree) → k ≤ disk.now old → disk.images_since old k t → disk.images_since new k t
  pub nothing_else : (k : ℕ) (t : Tree) → k ≤ disk.now old → disk.images_since new k t → disk.images_since old k t ⊎ IsImageOf disk new t

-- a call that only reads, with what it tells
pub record HasRead {D : Type 0} (disk : DiskModel D) (old new : D) (Answer : Type 0) : Type 0 where
  pub answer : Answer
  pub same : Unchanged disk old new
  pub time : Elapses disk old new

abbrev pub Reads : {D : Type 0} → DiskModel D → D → D → Type 0 → Type 0
Reads disk old new Answer = IsTrue disk.tells → HasRead disk old new Answer

-- A call that changes these names alone. Where it is done, the tree is `after`; where it failed, anything may stand at them.
pub record HasChanged {D : Type 0} (disk : DiskModel D) (names : Name → Bool) (can : Bool) (after : Tree) (old new : D) (result : Result Unit DiskStop) : Type 0 where
  pub done : OnOk result (IsTrue can × (disk.reads new ≡ after))
  pub outside : AgreesOutside names (disk.reads new) (disk.reads old)
  -- its own names are unsynced after it, also where it failed
  pub touches : OnOk result ((p : Name) → disk.unsynced new p ≡ (disk.unsynced old p || names p))
  pub touches_failed : IsErrOf result Failed → (p : Name) → disk.unsynced new p ≡ (disk.unsynced old p || names p)
  pub unchanged : IsErrOf result Refused ⊎ IsErrOf result Memory → Unchanged disk old new
  -- done in one step; where it failed, other names still show what they did
  pub one_step : OnOk result (InOneStep disk old new)
  pub visible : Shows disk old new (λ t. AgreesOutside names t (disk.reads old))
  pub time : Elapses disk old new

abbrev pub Changes : {D : Type 0} → DiskModel D → (Name → Bool) → Bool → Tree → D → D → Result Unit DiskStop → Type 0
Changes disk names can after old new result = IsTrue disk.tells → HasChanged disk names can after old new result

-- a sync: after Ok no name is unsynced
pub record HasSynced {D : Type 0} (disk : DiskModel D) (old new : D) (result : Result Unit DiskStop) : Type 0 where
  pub reads : disk.reads new ≡ disk.reads old
  pub done : OnOk result ((p : Name) → disk.unsynced new p ≡ false)
  pub unchanged : OnErr result (Unchanged disk old new)
  pub visible : Shows disk old new (λ t. t ≡ disk.reads old)
  pub time : Elapses disk old new

abbrev pub Syncs : {D : Type 0} → DiskModel D → D → D → Result Unit DiskStop → Type 0
Syncs disk old new result = IsTrue disk.tells → HasSynced disk old new result

-- the names of a call
abbrev pub one_name : Name → Name → Bool
one_name p q = same_name q p

abbrev pub two_names : Name → Name → Name → Bool
two_names from to q = same_name q from || same_name q to

-- last names, each of which joins with the path to a path
abbrev pub NamesOf : Name → List (List ℕ) → Type 0
NamesOf p names = All (λ last. IsTrue (is_path (join p last))) names
