-- What a tree that a crash left recovers to.
use Rattle.std.specs.Prelude.{◌≡◌, ◌⊎◌, ℕ, Bool, true, false, IsTrue, List, Option, Some, codes}
use Rattle.std.specs.FinMap.{get}
use Rattle.std.specs.Str.{bytes_eq}
use Rattle.std.specs.List.{Contains}
use Rattle.std.specs.Ordering.{nat_cmp}
use Rattle.std.specs.declared.cmp.Ordering.TheVariants.{Less}
use Rattle.std.specs.Cmp.Lexicographic.{slice_cmp}
use Rattle.journal_log.specs.cny-base.declared.node.Node.{Node}
use Rattle.journal_log.specs.cny-base.declared.node.Node.TheVariants as node
use Rattle.journal_log.specs.tree-disk.Tree.{Name, Tree}
use Rattle.journal_log.specs.tree-disk.Disk.{DiskModel, IsImageOf}
use Rattle.journal_log.specs.tree-disk.Confined.{IsSynced}
use Rattle.journal_log.specs.declared.put.Put.{Put}
use Rattle.journal_log.specs.declared.put.Want.{Want}
use Rattle.journal_log.specs.declared.put.Want.TheVariants.{Nothing, Dir, File, Link, Staged}
use Rattle.journal_log.specs.Own.{gate, log, staged_file, StoresSame}
use Rattle.journal_log.specs.LogBytes.{IsLogText}
use Rattle.tree_journal.specs.CanBePut.{CanBePut, AllCanBePut}
use Rattle.tree_journal.specs.Staging.{has_content, AllStaged, outcome}

-- a file that holds the one byte `O`
abbrev pub is_flag : Option Node → Bool
is_flag (Some (node.File mode bytes)) = bytes_eq bytes (codes "O")
is_flag _ = false

-- the commit flag is set
abbrev pub is_committed : Name → Tree → Bool
is_committed base tree = is_flag (get tree (gate base))

-- the log says that these are to be put
pub record HoldsLog (base : Name) (puts : List Put) (tree : Tree) : Type 0 where
  pub mode : ℕ
  pub bytes : List ℕ
  pub file : get tree (log base) ≡ Some (node.File mode bytes)
  pub text : IsLogText base puts bytes

-- A tree that a crash left recovers to another where its commit flag isn't set and it stores the same; or where the flag
-- is set, the log is whole, each staged file that it names stands with its size and SHA-1, it can be put, and the tree
-- stores the same with all targets of the log.
pub data RecoversTo (base : Name) (image tree : Tree) : Type 0 where
  at_rest : is_committed base image ≡ false → StoresSame base image tree → RecoversTo base image tree
  by_log : is_committed base image ≡ true → (puts : List Put) → HoldsLog base puts image → AllStaged base image puts → AllCanBePut puts image
      → StoresSame base (outcome base puts image) tree → RecoversTo base image tree

-- It is a crash image of that moment, or recovers to all that the disk, as it read then, recovers to.
abbrev pub RecoversAsThen : {D : Type 0} → DiskModel D → Name → D → Tree → Type 0
RecoversAsThen disk base d image = IsImageOf disk d image ⊎ ((tree : Tree) → RecoversTo base (disk.reads d) tree → RecoversTo base image tree)

-- a whole log whose staged files stand, and that can be put
pub record HasReplayable (base : Name) (tree : Tree) : Type 0 where
  pub puts : List Put
  pub holds : HoldsLog base puts tree
  pub stand : AllStaged base tree puts
  pub can : AllCanBePut puts tree

-- After a recovery: the commit flag isn't set, a crash leaves what the disk reads, and that stores the same as all that
-- the disk recovered to as it read. So a flag that was set had a whole log that could be put.
pub record IsRecovered {D : Type 0} (disk : DiskModel D) (base : Name) (old new : D) : Type 0 where
  pub flag_clear : is_committed base (disk.reads new) ≡ false
  pub synced : IsSynced disk new
  pub stores : (tree : Tree) → RecoversTo base (disk.reads old) tree → StoresSame base (disk.reads new) tree
  pub had_log : is_committed base (disk.reads old) ≡ true → HasReplayable base (disk.reads old)

-- The log that stood in the tree before is put: its targets stand, and every other name but the journal's own is kept.
pub record HasPutLog (base : Name) (before after : Tree) : Type 0 where
  pub puts : List Put
  pub holds : HoldsLog base puts before
  pub stores : StoresSame base after (outcome base puts before)

-- the file from which a write takes its bytes
abbrev pub IsStagedPath : Name → Want → Name → Type 0
IsStagedPath base Nothing path = ⊥
IsStagedPath base (Dir mode) path = ⊥
IsStagedPath base (File mode bytes) path = ⊥
IsStagedPath base (Link target) path = ⊥
IsStagedPath base (Staged mode number size name) path = path ≡ staged_file base number

-- this is the first staged file, in the order of the log, that doesn't stand with its size and SHA-1
pub record IsFirstUnstaged (base : Name) (puts : List Put) (tree : Tree) (path : Name) : Type 0 where
  pub write : Put
  pub listed : Contains puts write
  pub here : IsStagedPath base write.want path
  pub fails : has_content base tree write.want ≡ false
  pub first : (p : Put) → Contains puts p → slice_cmp nat_cmp p.path write.path ≡ Less → IsTrue (has_content base tree p.want)

-- The commit flag is set, and this file is damaged: the log, which isn't whole; or, where it is, its first staged file
-- that doesn't stand with its size and SHA-1. (The log has no other reading, so the tree recovers to none.)
pub data IsDamagedAt (base : Name) (tree : Tree) (path : Name) : Type 0 where
  log_damaged : is_committed base tree ≡ true → path ≡ log base → ((puts : List Put) → HoldsLog base puts tree → ⊥) → IsDamagedAt base tree path
  staged_damaged : is_committed base tree ≡ true → (puts : List Put) → HoldsLog base puts tree → ((others : List Put) → HoldsLog base others tree → others ≡ puts)
      → IsFirstUnstaged base puts tree path → IsDamagedAt base tree path

-- the first write, in path order, that can't be put, is at this path
pub record IsFirstBlocked (puts : List Put) (tree : Tree) (path : Name) : Type 0 where
  pub write : Put
  pub listed : Contains puts write
  pub here : path ≡ write.path
  pub cannot : CanBePut puts tree write → ⊥
  pub first : (p : Put) → Contains puts p → slice_cmp nat_cmp p.path path ≡ Less → CanBePut puts tree p

-- The commit flag is set, the log is whole, its staged files stand, and this is the path of its first write that can't be
-- put. (The log has no other reading, so the tree recovers to none.)
pub record HasBlockedLog (base : Name) (tree : Tree) (path : Name) : Type 0 where
  pub committed : is_committed base tree ≡ true
  pub puts : List Put
  pub holds : HoldsLog base puts tree
  pub only : (others : List Put) → HoldsLog base others tree → others ≡ puts
  pub stand : AllStaged base tree puts
  pub blocked : IsFirstBlocked puts tree path
