-- The write set of a plan, and what stood at its paths.
use Rattle.std.specs.Prelude.{◌≡◌, ◌≢◌, ℕ, nat_lt, false, if◌then◌else◌, List, [], ◌∷◌, map, Option, Some, None}
use Rattle.std.specs.FinMap.{get}
use Rattle.std.specs.List.{AllZip}
use Rattle.std.specs.Option.{option_or}
use Rattle.local_db.specs.cny-base.declared.limits.TheConstants.{CONTENT_LIMIT}
use Rattle.change_set.specs.declared.change.Carried.{Carried}
use Rattle.conflict_plan.specs.declared.planned.Planned.{Planned}
use Rattle.conflict_plan.specs.Plan.{mark_of_want}
use Rattle.local_db.specs.cny-stream.declared.record.FileRec.{FileRec}
use Rattle.local_db.specs.cny-stream.declared.record.FileRec.TheVariants as rec
use Rattle.local_db.specs.journal-log.declared.put.Put.{Put}
use Rattle.local_db.specs.journal-log.declared.put.Want.{Want}
use Rattle.local_db.specs.journal-log.declared.put.Want.TheVariants as want
use Rattle.local_db.specs.journal-log.Targets.{node_of}
use Rattle.job_targets.specs.declared.entry.Entry.{Entry}
use Rattle.job_targets.specs.Old.{HasMark, is_staged}
use Rattle.local_db.specs.MarkBytes.{IsMark}
use Rattle.local_db.specs.Record as state
use Rattle.local_db.specs.Record.{IsEntry}
use Rattle.local_db.specs.Steps.{want_of}
use Rattle.local_db.specs.SystemState.{IsSmall}
use Rattle.local_db.specs.tree-disk.Tree.{Tree}
use Rattle.tree_scan.specs.declared.mark.Mark.{Mark}
use Rattle.tree_scan.specs.declared.mark.Mark.TheVariants.{Nothing, Dir, File, Link}
use Rattle.tree_scan.specs.Marks.{fingerprint}
use Rattle.job_targets.specs.Contents.{Finds}
use Rattle.content_store.specs.Contents.{Answers}

-- ---- the write set

-- a file of this mode with the bytes that are found
pub record IsFoundFile (carried : List Carried) (answers : Answers) (tree : Tree) (x : Planned) (mode size : ℕ) (name : List ℕ) (w : Want) : Type 0 where
  pub bytes : List ℕ
  pub found : Finds carried answers tree x size name (Some bytes)
  pub is : w ≡ want.File mode bytes

-- what is to stand at a planned path, by its record
abbrev pub IsTarget : List Carried → Answers → Tree → Planned → Option FileRec → Want → Type 0
IsTarget carried answers tree x None w = w ≡ want.Nothing
IsTarget carried answers tree x (Some (rec.Dir mode owner)) w = w ≡ want.Dir mode
IsTarget carried answers tree x (Some (rec.File mode owner flags size name)) w = IsFoundFile carried answers tree x mode size name w
IsTarget carried answers tree x (Some (rec.Link target)) w = w ≡ want.Link target

-- the write of a planned path
pub record IsPutOf (carried : List Carried) (answers : Answers) (tree : Tree) (x : Planned) (p : Put) : Type 0 where
  pub path : p.path ≡ x.path
  pub target : IsTarget carried answers tree x x.want p.want

-- the writes of the planned paths, in their order
abbrev pub ArePutsOf : List Carried → Answers → Tree → List Planned → List Put → Type 0
ArePutsOf carried answers tree = AllZip (IsPutOf carried answers tree)

-- whatever a disk tells: a write at the path, of a node with the planned fingerprint
pub record HasPut (x : Planned) (p : Put) : Type 0 where
  pub path : p.path ≡ x.path
  pub marked : HasMark (mark_of_want x.want) p.want

abbrev pub HavePuts : List Planned → List Put → Type 0
HavePuts = AllZip HasPut

-- ---- what stood there

-- what stands at a planned path, and the fingerprint of what is to stand
abbrev pub entry_at : Tree → Planned → Entry
entry_at tree x = record { path = x.path; was = want_of (get tree x.path); mark = mark_of_want x.want }

abbrev pub entries_at : Tree → List Planned → List Entry
entries_at tree xs = map (entry_at tree) xs

-- the same, by the writes
abbrev pub entry_of_put : Tree → Put → Entry
entry_of_put tree p = record { path = p.path; was = want_of (get tree p.path); mark = fingerprint (node_of p.want) }

abbrev pub entries_of_puts : Tree → List Put → List Entry
entries_of_puts tree ps = map (entry_of_put tree) ps

-- the entry as a record has it, with the fingerprints of both nodes
abbrev pub entry_of : Entry → state.Entry
entry_of e = record { path = e.path; was = fingerprint (node_of e.was); now = e.mark }

-- what stood: no bytes are staged, its fingerprint has bytes, and no file is above the limit
pub record IsOldWant (w : Want) : Type 0 where
  pub given : is_staged w ≡ false
  pub marked : IsMark (fingerprint (node_of w))
  pub small : IsSmall (node_of w)

-- whatever a disk tells: an entry of the path, with the planned fingerprint, that a record can have
pub record HasEntry (x : Planned) (e : Entry) : Type 0 where
  pub path : e.path ≡ x.path
  pub mark : e.mark ≡ mark_of_want x.want
  pub old : IsOldWant e.was
  pub told : IsEntry (entry_of e)

abbrev pub HaveEntries : List Planned → List Entry → Type 0
HaveEntries = AllZip HasEntry

-- ---- files that are too large

-- the size of a file above the limit
abbrev pub large_size : Mark → Option ℕ
large_size (File mode size name) = if nat_lt CONTENT_LIMIT size then Some size else None
large_size Nothing = None
large_size (Dir mode) = None
large_size (Link target) = None

-- the size of the first file above the limit that stands at a planned path
abbrev pub first_large : List Planned → Option ℕ
first_large [] = None
first_large (x ∷ xs) = option_or (large_size x.was) (first_large xs)

-- ---- plans

-- the planned path changes
abbrev pub IsChange : Planned → Type 0
IsChange x = x.was ≢ mark_of_want x.want
