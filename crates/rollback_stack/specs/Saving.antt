-- What is written before the write set of a job: the contents that it replaces.
use Rattle.std.specs.Prelude.{◌≡◌, ◌≢◌, ◌⊎◌, ℕ, ◌+◌, ◌-◌, Bool, false, nat_lt, ◌||◌, if◌then◌else◌, IsTrue, List, Option, Some, None, All}
use Rattle.std.specs.FinMap.{get}
use Rattle.sha1.specs.Sha1.{sha1}
use Rattle.job_targets.specs.cny-base.Below.{is_below}
use Rattle.job_targets.specs.cny-base.Reserved.{private_directory}
use Rattle.job_targets.specs.cny-base.declared.refusal.Refusal.{Refusal}
use Rattle.job_targets.specs.tree-disk.Tree.{Name, Tree, same_name}
use Rattle.job_targets.specs.tree-disk.Clear.{IsBare, without_tree}
use Rattle.job_targets.specs.tree-disk.Disk.{DiskModel, Shows}
use Rattle.job_targets.specs.tree-disk.Rows.{is_dir_at}
use Rattle.job_targets.specs.tree-disk.Confined.{Among, LeavesOnly}
use Rattle.job_targets.specs.tree-journal.Apply.{with_base}
use Rattle.job_targets.specs.content-store.Outcome.{IsCollision}
use Rattle.job_targets.specs.content-store.Store.{content_path, file_bytes, stored}
use Rattle.job_targets.specs.journal-log.declared.put.Want.{Want}
use Rattle.local_db.specs.declared.format.Format.{Format}
use Rattle.local_db.specs.Names.{is_job_place, record_file, saved}
use Rattle.local_db.specs.Stores.{StoresIn}
use Rattle.local_db.specs.SystemState.{StackItem, SystemState, newest, oldest}
use Rattle.local_db.specs.Steps.{pushed}
use Rattle.job_targets.specs.declared.entry.Entry.{Entry}
use Rattle.job_targets.specs.Agree.{bytes_of, IsOld}
use Rattle.job_targets.specs.Old.{IsSaved}

-- ---- names

-- the places of the job that is cleared besides, where there is one
abbrev pub is_dropped_place : Option ℕ → Name → Bool
is_dropped_place None q = false
is_dropped_place (Some number) q = is_job_place number q

-- the names that change: the private directory itself, the places of the job, and those of the job that is cleared besides
abbrev pub is_saving_name : ℕ → Option ℕ → Name → Bool
is_saving_name number dropped q = same_name q private_directory || (is_job_place number q || is_dropped_place dropped q)

-- where a content is saved: the directory, and its path there
abbrev pub is_save_name : Name → List ℕ → Name → Bool
is_save_name dir bytes q = same_name q dir || same_name q (content_path dir (sha1 bytes))

-- the names at which it is saved what is to stand, where that is a file
pub record IsSaveName (dir : Name) (want : Want) (q : Name) : Type 0 where
  pub bytes : List ℕ
  pub was : bytes_of want ≡ Some bytes
  pub name : Among (is_save_name dir bytes) q

-- ---- trees

-- the tree without all that stands at the places of a job
abbrev pub without_job : ℕ → Tree → Tree
without_job number tree = without_tree (without_tree tree (record_file number)) (saved number)

abbrev pub without_dropped : Option ℕ → Tree → Tree
without_dropped None tree = tree
without_dropped (Some number) tree = without_job number tree

-- the places are cleared, and the private directory is made one
abbrev pub made_ready : ℕ → Option ℕ → Tree → Tree
made_ready number dropped tree = with_base private_directory (without_job number (without_dropped dropped tree))

-- nothing stands at the path, or a file with these bytes
abbrev pub MayHold : Tree → Name → List ℕ → Type 0
MayHold x path bytes = (get x path ≡ None) ⊎ (file_bytes (get x path) ≡ Some bytes)

-- what was to stand is saved in the directory, where it is a file
abbrev pub IsSavedIn : Name → Want → Tree → Type 0
IsSavedIn dir want x = (bytes : List ℕ) → bytes_of want ≡ Some bytes → stored x dir (sha1 bytes) ≡ Some bytes

-- an old content of the entries stands there, under its SHA-1 in the directory
pub record IsOldContent (es : List Entry) (x : Tree) (dir q : Name) : Type 0 where
  pub bytes : List ℕ
  pub old : IsOld es bytes
  pub path_is : q ≡ content_path dir (sha1 bytes)
  pub stands : file_bytes (get x q) ≡ Some bytes

-- below the directory stand old contents of the entries alone
abbrev pub HoldsOnly : List Entry → Name → Tree → Type 0
HoldsOnly es dir x = (q : Name) → IsTrue (is_below dir q) → (get x q ≡ None) ⊎ IsOldContent es x dir q

-- The directory holds the old contents of the entries, and nothing else.
pub record HoldsOld (es : List Entry) (dir : Name) (x : Tree) : Type 0 where
  pub each : All (λ (e : Entry). IsSavedIn dir e.was x) es
  pub only : HoldsOnly es dir x

-- The old contents of the entries are those that the job of this number saved, and nothing else is saved there.
pub record AreSaved (number : ℕ) (es : List Entry) (x : Tree) : Type 0 where
  pub each : All (λ (e : Entry). IsSaved x number e.was) es
  pub only : HoldsOnly es (saved number) x

-- The private directory stands; nothing stands at the record of the job and below it; the old contents of its entries are
-- saved, and nothing else; and nothing stands at the places of the job that was cleared besides.
pub record IsSavedJob (number : ℕ) (dropped : Option ℕ) (es : List Entry) (x : Tree) : Type 0 where
  pub base : IsTrue (is_dir_at x private_directory)
  pub no_record : IsBare x (record_file number)
  pub contents : AreSaved number es x
  pub cleared : (n : ℕ) → dropped ≡ Some n → n ≢ number → (q : Name) → IsTrue (is_job_place n q) → get x q ≡ None

-- ---- refusals

-- Such a refusal comes only where the disk tells nothing: there another file may stand in a directory that was just made, so that
-- a content collides with it.
pub record IsUntoldCollision (told : Bool) (refusal : Refusal) : Type 0 where
  pub untold : IsTrue told → ⊥
  pub collides : IsCollision refusal

-- ---- the stored system

-- the number of the job that a job clears besides, by the oldest number after it
abbrev pub dropped_below : ℕ → Option ℕ
dropped_below low = if nat_lt 2 low then Some (low - 2) else None

-- A job of this number comes next, and it clears that job besides.
pub record IsNextJob (s : SystemState) (number : ℕ) (dropped : Option ℕ) : Type 0 where
  pub job : StackItem
  pub number_is : job.number ≡ number
  pub next : number ≡ newest s.stack + 1
  pub dropped_is : dropped ≡ dropped_below (oldest (pushed job s.stack))

-- At every moment the disk stored the system: what it reads does, and so did each tree that was read, and each that a crash
-- may leave.
pub record KeepsSystem {D : Type 0} (disk : DiskModel D) (f : Format) (s : SystemState) (old new : D) : Type 0 where
  pub now : StoresIn f (disk.reads new) s
  pub visible : Shows disk old new (λ t. StoresIn f t s)
  pub images : LeavesOnly disk old new (λ image. StoresIn f image s)
