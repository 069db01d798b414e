-- The trees and the disks between the steps of an application.
use Rattle.std.specs.Prelude.{◌≡◌, ◌⊎◌, ℕ, Bool, false, ◌||◌, List, codes}
use Rattle.journal_log.specs.tree-disk.Tree.{Name, Tree, same_name}
use Rattle.journal_log.specs.tree-disk.Clear.{is_within}
use Rattle.journal_log.specs.tree-disk.Disk.{DiskModel}
use Rattle.journal_log.specs.tree-disk.Confined.{IsSynced}
use Rattle.journal_log.specs.declared.put.Put.{Put}
use Rattle.journal_log.specs.Own.{gate, log, staged, StoresSame}
use Rattle.tree_journal.specs.Staging.{outcome}
use Rattle.tree_journal.specs.Recovery.{is_committed, RecoversTo}
use Rattle.tree_journal.specs.Apply.{with_base}
use Rattle.tree_journal.specs.Steps.{with_own_file, with_staged, replayed, HasLog}

-- ---- up to the log

-- the names of these steps
abbrev pub is_log_or_staged : Name → Name → Bool
is_log_or_staged base q = same_name q base || (is_within (log base) q || is_within (staged base) q)

-- the base is a directory, the bytes of files are staged, and the log holds these bytes
abbrev pub with_log : Name → List Put → List Put → List ℕ → Tree → Tree
with_log base puts numbered bytes tree = with_own_file (log base) bytes (with_staged base puts numbered (with_base base tree))

-- the commit flag isn't set, also after a crash
pub record HasNoFlag {D : Type 0} (disk : DiskModel D) (base : Name) (d : D) : Type 0 where
  pub flag_clear : is_committed base (disk.reads d) ≡ false
  pub flag_synced : disk.unsynced d (gate base) ≡ false

-- a whole log that can be put stands below the base, the commit flag isn't set, and a crash leaves this
pub record IsPrepared {D : Type 0} (disk : DiskModel D) (base : Name) (puts : List Put) (d : D) : Type 0 where
  pub has_log : HasLog base puts (disk.reads d)
  pub flag_clear : is_committed base (disk.reads d) ≡ false
  pub synced : IsSynced disk d

-- ---- the flag, and what follows it

-- the commit flag is set
abbrev pub with_flag : Name → Tree → Tree
with_flag base tree = with_own_file (gate base) (codes "O") tree

-- the flag is set, and all is replayed
abbrev pub committed : Name → List Put → Tree → Tree
committed base puts tree = replayed base puts (with_flag base tree)

-- The commit flag isn't set and the image stores the same as the tree, or it recovers to the tree with all targets.
abbrev pub IsOldOrNew : Name → List Put → Tree → Tree → Type 0
IsOldOrNew base puts tree image = ((is_committed base image ≡ false) × StoresSame base image tree) ⊎ RecoversTo base image (outcome base puts tree)
