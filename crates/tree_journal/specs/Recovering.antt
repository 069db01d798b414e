-- What a recovery does, as one fact.
use Rattle.std.specs.Prelude.{◌≡◌, ◌≤◌, Bool, true, false, IsTrue, Result, IfOk, IfErr, OnOk}
use Rattle.journal_log.specs.cny-base.declared.stop.Stop.{Stop}
use Rattle.journal_log.specs.tree-disk.Tree.{Name, Tree}
use Rattle.journal_log.specs.tree-disk.Disk.{DiskModel}
use Rattle.journal_log.specs.tree-disk.Confined.{Among, Confined, LeavesOnly}
use Rattle.journal_log.specs.tree-disk.Steps.{no_name}
use Rattle.journal_log.specs.tree-disk.Unfailed.{UnlessFailed}
use Rattle.tree_journal.specs.Recovery.{is_committed, HasPutLog, HasReplayable, IsRecovered, RecoversAsThen, RecoversTo}
use Rattle.tree_journal.specs.Found.{StopsSo}
use Rattle.tree_journal.specs.Visible.{IsVisible}

-- what readers see between a tree and all that it recovers to
abbrev pub IsVisibleIn : Name → Tree → Tree → Type 0
IsVisibleIn base before t = (tree : Tree) → RecoversTo base before tree → IsVisible base before tree t

-- all that recovery promises
pub record Recovers {D : Type 0} (disk : DiskModel D) (base : Name) (old new : D) (result : Result Bool Stop) : Type 0 where
  pub any_moment : IsTrue disk.tells → LeavesOnly disk old new (RecoversAsThen disk base old)
  pub recovered : IsTrue disk.tells → OnOk result (IsRecovered disk base old new)
  pub was_committed : IsTrue disk.tells → IfOk result (λ was. was ≡ is_committed base (disk.reads old))
  pub put_log : IsTrue disk.tells → IfOk result (λ was. was ≡ true → HasPutLog base (disk.reads old) (disk.reads new))
  pub still : IsTrue disk.tells → (tree : Tree) → RecoversTo base (disk.reads old) tree → RecoversTo base (disk.reads new) tree
  pub untouched : IsTrue disk.tells → (is_committed base (disk.reads old) ≡ true → HasReplayable base (disk.reads old) → ⊥)
      → Confined disk (Among no_name) old new
  pub kept : IsTrue disk.tells → IfOk result (λ was. was ≡ false → disk.reads new ≡ disk.reads old)
  pub visible : IsTrue disk.tells → UnlessFailed disk old new (IsVisibleIn base (disk.reads old))
  pub causes : IfErr result (StopsSo disk base old new)
  pub later : disk.faults old ≤ disk.faults new

-- the part of it behind a commit flag that is set
pub record Replays {D : Type 0} (disk : DiskModel D) (base : Name) (old new : D) (result : Result Unit Stop) : Type 0 where
  pub any_moment : IsTrue disk.tells → LeavesOnly disk old new (RecoversAsThen disk base old)
  pub recovered : IsTrue disk.tells → OnOk result (IsRecovered disk base old new)
  pub put_log : IsTrue disk.tells → OnOk result (HasPutLog base (disk.reads old) (disk.reads new))
  pub still : IsTrue disk.tells → (tree : Tree) → RecoversTo base (disk.reads old) tree → RecoversTo base (disk.reads new) tree
  pub untouched : IsTrue disk.tells → (HasReplayable base (disk.reads old) → ⊥) → Confined disk (Among no_name) old new
  pub visible : IsTrue disk.tells → UnlessFailed disk old new (IsVisibleIn base (disk.reads old))
  pub causes : IfErr result (StopsSo disk base old new)
  pub later : disk.faults old ≤ disk.faults new
