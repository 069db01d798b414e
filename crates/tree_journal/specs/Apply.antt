-- What `apply` asks and leaves.
use Rattle.std.specs.Prelude.{◌≡◌, ◌≢◌, ◌⊎◌, ℕ, ◌≤◌, Bool, false, ◌||◌, IsTrue, List, Some, None, Result, OnOk, OnErr, IfErr, IsErrOf, if◌then◌else◌}
use Rattle.std.specs.List.{All}
use Rattle.std.specs.FinMap.{get}
use Rattle.journal_log.specs.cny-base.Count.{Rose}
use Rattle.journal_log.specs.cny-base.Below.{is_below}
use Rattle.journal_log.specs.cny-base.Path.{parent}
use Rattle.journal_log.specs.cny-base.declared.stop.Stop.{Stop}
use Rattle.journal_log.specs.cny-base.declared.stop.Stop.TheVariants.{Failed}
use Rattle.journal_log.specs.cny-base.declared.node.Node.TheVariants as node
use Rattle.journal_log.specs.tree-disk.Tree.{Name, Tree, put, WellFormed}
use Rattle.journal_log.specs.tree-disk.Rows.{is_dir_at}
use Rattle.journal_log.specs.tree-disk.Disk.{DiskModel, IsImageOf}
use Rattle.journal_log.specs.tree-disk.Confined.{Among, Confined, IsSynced, LeavesOnly}
use Rattle.journal_log.specs.tree-disk.Steps.{IsDiskStop}
use Rattle.journal_log.specs.tree-disk.Unfailed.{UnlessFailed}
use Rattle.journal_log.specs.declared.put.Put.{Put}
use Rattle.journal_log.specs.Numbers.{IsNumbered}
use Rattle.journal_log.specs.Own.{gate, is_own, staged, staged_file, StoresSame}
use Rattle.journal_log.specs.Staged.{names_staged}
use Rattle.journal_log.specs.Targets.{is_target}
use Rattle.journal_log.specs.WriteSet.{CanBeNamed}
use Rattle.tree_journal.specs.CanBePut.{AllCanBePut}
use Rattle.tree_journal.specs.Recovery.{is_committed, RecoversTo}
use Rattle.tree_journal.specs.Staging.{AllStaged, outcome}
use Rattle.tree_journal.specs.Visible.{IsVisible}

-- the tree with the base made a directory
abbrev pub with_base : Name → Tree → Tree
with_base base tree = if is_dir_at tree base then tree else put tree base (Some (node.Dir 493))

-- the tree with the base made a directory and then all targets put
abbrev pub goal : Name → List Put → Tree → Tree
goal base puts tree = outcome base puts (with_base base tree)

-- A write set may be applied: the parent of the base is a directory, the commit flag isn't set, also after a crash, a log
-- can name all paths, the files of staged writes stand with their sizes and SHA-1s, and with the base made a directory
-- all writes can be put and give a well-formed tree.
pub record CanApply {D : Type 0} (disk : DiskModel D) (base : Name) (puts : List Put) (d : D) : Type 0 where
  pub parent_stands : IsTrue (is_dir_at (disk.reads d) (parent base))
  pub flag_clear : is_committed base (disk.reads d) ≡ false
  pub flag_synced : disk.unsynced d (gate base) ≡ false
  pub named : All (λ p. CanBeNamed base p.path) puts
  pub stand : AllStaged base (disk.reads d) puts
  pub can : AllCanBePut puts (with_base base (disk.reads d))
  pub well_formed : WellFormed (goal base puts (disk.reads d))

-- It recovers to some crash image of that moment.
abbrev pub IsAsBefore : {D : Type 0} → DiskModel D → Name → D → Tree → Type 0
IsAsBefore disk base d image = (entry : Tree) × IsImageOf disk d entry × RecoversTo base image entry

-- It recovers to some crash image of that moment, or to the tree with all targets.
abbrev pub IsBeforeOrAfter : {D : Type 0} → DiskModel D → Name → List Put → D → Tree → Type 0
IsBeforeOrAfter disk base puts d image = IsAsBefore disk base d image ⊎ RecoversTo base image (goal base puts (disk.reads d))

-- The tree recovers to the tree before, or to that with all targets.
abbrev pub IsOneOf : Name → List Put → Tree → Tree → Type 0
IsOneOf base puts before tree = RecoversTo base tree before ⊎ RecoversTo base tree (goal base puts before)

-- The disk stores the same as this tree, its commit flag isn't set, and a crash leaves what it reads.
pub record IsAtRest {D : Type 0} (disk : DiskModel D) (base : Name) (tree : Tree) (d : D) : Type 0 where
  pub stores : StoresSame base (disk.reads d) tree
  pub flag_clear : is_committed base (disk.reads d) ≡ false
  pub synced : IsSynced disk d

-- With the bytes of its files staged (under numbers of their own), the files that the write set names stand below the
-- directory of staged bytes with their sizes and SHA-1s, and no other name.
pub record HoldsStaged (base : Name) (puts : List Put) (tree : Tree) : Type 0 where
  pub made : List Put
  pub numbered : IsNumbered puts made
  pub stand : AllStaged base tree made
  pub only : (q : Name) → IsTrue (is_below (staged base) q) → ((number : ℕ) → IsTrue (names_staged made number) → q ≢ staged_file base number) → get tree q ≡ None

-- the journal's own names and the targets
abbrev pub is_own_or_target : Name → List Put → Name → Bool
is_own_or_target base puts q = is_own base q || is_target puts q

-- all that applying a write set promises
pub record Applies {D : Type 0} (disk : DiskModel D) (base : Name) (puts : List Put) (old new : D) (result : Result Unit Stop) : Type 0 where
  pub any_moment : IsTrue disk.tells → LeavesOnly disk old new (IsBeforeOrAfter disk base puts old)
  pub applied : IsTrue disk.tells → OnOk result (IsAtRest disk base (goal base puts (disk.reads old)) new)
  pub cleared : IsTrue disk.tells → OnOk result (HoldsStaged base puts (disk.reads new))
  pub stopped : IsTrue disk.tells → OnErr result (IsOneOf base puts (disk.reads old) (disk.reads new))
  pub confined : IsTrue disk.tells → Confined disk (Among (is_own_or_target base puts)) old new
  pub visible : IsTrue disk.tells → UnlessFailed disk old new (IsVisible base (disk.reads old) (goal base puts (disk.reads old)))
  pub later : disk.faults old ≤ disk.faults new
  pub failed : IsErrOf result Failed → Rose (disk.faults old) (disk.faults new)
  pub stops : IfErr result IsDiskStop
