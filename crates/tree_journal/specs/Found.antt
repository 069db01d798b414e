-- What recovery finds.
use Rattle.std.specs.Prelude.{◌≡◌, ◌≢◌, ℕ, ◌<◌, ◌≤◌, length, Bool, false, ◌==◌, IsTrue, List, Option, Some, None, Result, IfOk, IfErr}
use Rattle.std.specs.List.{All}
use Rattle.journal_log.specs.cny-base.Count.{Rose}
use Rattle.journal_log.specs.cny-base.Path.{is_path, join, parent, root}
use Rattle.journal_log.specs.cny-base.declared.node.Node.{Node}
use Rattle.journal_log.specs.cny-base.declared.node.Node.TheVariants as node
use Rattle.journal_log.specs.cny-base.declared.refusal.Refusal.TheVariants as refusal
use Rattle.journal_log.specs.cny-base.declared.stop.Stop.{Stop}
use Rattle.journal_log.specs.cny-base.declared.stop.Stop.TheVariants.{Refused, Memory, Failed, Damaged, FarFailed, FarDamaged}
use Rattle.journal_log.specs.tree-disk.declared.disk.Look.{Look}
use Rattle.journal_log.specs.tree-disk.declared.disk.Look.TheVariants as look
use Rattle.journal_log.specs.tree-disk.Tree.{Name, Tree}
use Rattle.journal_log.specs.tree-disk.Disk.{DiskModel, HasRead}
use Rattle.journal_log.specs.declared.put.Want.{Want}
use Rattle.journal_log.specs.declared.put.Put.{Put}
use Rattle.journal_log.specs.Targets.{is_target}
use Rattle.tree_journal.specs.CanBePut.{AllCanBePut, IsClearBelow}
use Rattle.tree_journal.specs.Recovery.{HoldsLog, IsStagedPath, IsFirstUnstaged, IsFirstBlocked, HasBlockedLog, IsDamagedAt}
use Rattle.tree_journal.specs.Staging.{has_content, AllStaged}
pub use Rattle.journal_log.specs.cny-base.Answer.{IsAnswer}

-- Why calls of a disk stop: a fault, or want of memory.
abbrev pub IsFaultOr : Type 0 → Stop → Type 0
IsFaultOr rose Failed = rose
IsFaultOr rose Memory = Unit {0}
IsFaultOr rose (Refused refusal) = ⊥
IsFaultOr rose (Damaged path) = ⊥
IsFaultOr rose FarFailed = ⊥
IsFaultOr rose (FarDamaged path) = ⊥

-- A run of calls that only read, and what it finds in the tree.
pub record Finds {D X : Type 0} (disk : DiskModel D) (P : Tree → X → Type 0) (old new : D) (result : Result X Stop) : Type 0 where
  pub later : disk.faults old ≤ disk.faults new
  pub found : IsTrue disk.tells → HasRead disk old new (IfOk result (P (disk.reads old)))
  pub stops : IfErr result (IsFaultOr (Rose (disk.faults old) (disk.faults new)))

-- the path without its last name, and that it is shorter
pub record IsAbove (path above : Name) : Type 0 where
  pub is : above ≡ parent path
  pub is_path : IsTrue (is_path above)
  pub not_root : path ≢ root
  pub shorter : length above < length path

-- the path of a name directly below another, and that it is longer, but no longer than a path may be
pub record IsChild (path last child : Name) : Type 0 where
  pub is : child ≡ join path last
  pub is_path : IsTrue (is_path child)
  pub not_root : child ≢ root
  pub longer : length path < length child
  pub short : length child ≤ 1024

-- these names directly below a path are targets, and no name that isn't one stands below them
abbrev pub AreClear : List Put → Tree → Name → List (List ℕ) → Type 0
AreClear puts tree path names = All (λ last. IsTrue (is_target puts (join path last)) × IsClearBelow puts tree (join path last)) names

-- the bytes of a file
abbrev pub file_bytes : Option Node → Option (List ℕ)
file_bytes (Some (node.File mode bytes)) = Some bytes
file_bytes _ = None

-- whether a file of this size is seen
abbrev pub sees_size : Look → ℕ → Bool
sees_size (look.File mode size) wanted = size == wanted
sees_size _ wanted = false

-- the log, where it is whole
abbrev pub FindsLog : Name → Tree → Option (List Put) → Type 0
FindsLog base tree (Some puts) = HoldsLog base puts tree × ((others : List Put) → HoldsLog base others tree → others ≡ puts)
FindsLog base tree None = (puts : List Put) → HoldsLog base puts tree → ⊥

-- the staged file of a write, where it has one that doesn't stand with its size and SHA-1
abbrev pub FindsContent : Name → Tree → Want → Option Name → Type 0
FindsContent base tree wanted (Some path) = IsStagedPath base wanted path × (has_content base tree wanted ≡ false)
FindsContent base tree wanted None = IsTrue (has_content base tree wanted)

-- the first staged file that doesn't stand with its size and SHA-1
abbrev pub FindsUnstaged : Name → List Put → Tree → Option Name → Type 0
FindsUnstaged base puts tree (Some path) = IsFirstUnstaged base puts tree path
FindsUnstaged base puts tree None = AllStaged base tree puts

-- the first write that can't be put
abbrev pub FindsBlocked : List Put → Tree → Option Name → Type 0
FindsBlocked puts tree (Some path) = IsFirstBlocked puts tree path
FindsBlocked puts tree None = AllCanBePut puts tree

-- the log, which is whole, whose staged files stand, and which can be put
pub record FindsReplayable (base : Name) (tree : Tree) (puts : List Put) : Type 0 where
  pub holds : HoldsLog base puts tree
  pub only : (others : List Put) → HoldsLog base others tree → others ≡ puts
  pub stand : AllStaged base tree puts
  pub can : AllCanBePut puts tree

-- ---- how a recovery stops

-- Why a recovery stops: the disk failed; memory ran out; the log behind a set commit flag has a write that can't be put,
-- or this file of it is damaged. In the last two cases no node is changed.
abbrev pub StopsSo : {D : Type 0} → DiskModel D → Name → D → D → Stop → Type 0
StopsSo disk base old new Failed = Rose (disk.faults old) (disk.faults new)
StopsSo disk base old new Memory = Unit {0}
StopsSo disk base old new (Refused (refusal.Parent path)) = IsTrue disk.tells → HasBlockedLog base (disk.reads old) path × (disk.reads new ≡ disk.reads old)
StopsSo disk base old new (Refused _) = ⊥
StopsSo disk base old new (Damaged path) = IsTrue disk.tells → IsDamagedAt base (disk.reads old) path × (disk.reads new ≡ disk.reads old)
StopsSo disk base old new FarFailed = ⊥
StopsSo disk base old new (FarDamaged path) = ⊥
