-- What comes of making the write set of a plan.
use Rattle.std.specs.Prelude.{◌≡◌, ◌≢◌, ℕ, false, IsTrue, List, ◌∷◌, ◌++◌, map, Option, Some, None, All}
use Rattle.std.specs.FinMap.{get}
use Rattle.std.specs.List.Sorted.{IsStrictlySortedBy}
use Rattle.local_db.specs.cny-base.declared.refusal.Fault.{Fault}
use Rattle.local_db.specs.cny-base.declared.refusal.Fault.TheVariants as fault
use Rattle.local_db.specs.cny-base.declared.refusal.Refusal.{Refusal}
use Rattle.local_db.specs.cny-base.declared.refusal.Refusal.TheVariants.{MissingContent, TooLarge, Collision}
use Rattle.local_db.specs.cny-base.declared.refusal.What.{What}
use Rattle.local_db.specs.cny-base.declared.refusal.What.TheVariants.{Local}
use Rattle.local_db.specs.cny-base.declared.stop.Stop.{Stop}
use Rattle.change_set.specs.declared.change.Carried.{Carried}
use Rattle.conflict_plan.specs.declared.planned.Planned.{Planned}
use Rattle.local_db.specs.cny-stream.declared.record.FileRec.{FileRec}
use Rattle.local_db.specs.cny-stream.declared.record.FileRec.TheVariants as rec
use Rattle.local_db.specs.journal-log.declared.put.Put.{Put}
use Rattle.local_db.specs.journal-log.Targets.{node_of}
use Rattle.job_targets.specs.declared.entry.Entry.{Entry}
use Rattle.job_targets.specs.Agree.{AllAgree, IsFirstCollision}
use Rattle.job_targets.specs.Old.{is_staged}
use Rattle.local_db.specs.MarkBytes.{IsMark}
use Rattle.local_db.specs.Record.{entry_cmp, IsEntry}
use Rattle.local_db.specs.SystemState.{IsTellable}
use Rattle.local_db.specs.tree-disk.Tree.{Tree, may_stand}
use Rattle.tree_scan.specs.Marks.{fingerprint}
use Rattle.tree_scan.specs.OnlyReads.{IsStopBy}
use Rattle.job_targets.specs.declared.targets.Targets.{Targets}
use Rattle.job_targets.specs.Contents.{Finds, FindsElsewhere}
use Rattle.content_store.specs.Contents.{Answers}
use Rattle.content_store.specs.Searches.{IsSearchStopBy}
use Rattle.job_targets.specs.Targets.{ArePutsOf, entries_at, entries_of_puts, entry_of, first_large, HaveEntries, HavePuts}

-- ---- refusals

-- no content of this size and SHA-1 is found, and this refusal says so
abbrev pub IsUnfound : List Carried → Answers → Tree → Planned → ℕ → List ℕ → Refusal → Type 0
IsUnfound carried answers tree x size name (MissingContent missing) = (missing ≡ name) × Finds carried answers tree x size name None
IsUnfound carried answers tree x size name _ = ⊥

-- no such content is found elsewhere than among the carried ones, and this refusal says so
abbrev pub IsUnfoundElsewhere : Answers → Tree → Planned → ℕ → List ℕ → Refusal → Type 0
IsUnfoundElsewhere answers tree x size name (MissingContent missing) = (missing ≡ name) × FindsElsewhere answers tree x size name None
IsUnfoundElsewhere answers tree x size name _ = ⊥

-- the record at a planned path is that of a file of which no content is found
abbrev pub IsMissing : List Carried → Answers → Tree → Planned → Option FileRec → Refusal → Type 0
IsMissing carried answers tree x None why = ⊥
IsMissing carried answers tree x (Some (rec.Dir mode owner)) why = ⊥
IsMissing carried answers tree x (Some (rec.File mode owner flags size name)) why = IsUnfound carried answers tree x size name why
IsMissing carried answers tree x (Some (rec.Link target)) why = ⊥

-- The refusal of the first planned path of whose content none is found: those before it have their writes.
pub record IsFirstUnfound (carried : List Carried) (answers : Answers) (tree : Tree) (planned : List Planned) (why : Refusal) : Type 0 where
  pub front : List Planned
  pub first : Planned
  pub rest : List Planned
  pub split : planned ≡ front ++ first ∷ rest
  pub puts : List Put
  pub found : ArePutsOf carried answers tree front puts
  pub missing : IsMissing carried answers tree first first.want why

-- Each content is found, and this is the size of the first file above the limit.
pub record IsFirstLarge (carried : List Carried) (answers : Answers) (tree : Tree) (planned : List Planned) (what : What) (size : ℕ) : Type 0 where
  pub puts : List Put
  pub found : ArePutsOf carried answers tree planned puts
  pub is_local : what ≡ Local
  pub large : first_large planned ≡ Some size

-- Each content is found, no file is above the limit, and this is the first collision of the old contents.
pub record IsFirstClash (carried : List Carried) (answers : Answers) (tree : Tree) (planned : List Planned) (name : List ℕ) (at : ℕ) : Type 0 where
  pub puts : List Put
  pub found : ArePutsOf carried answers tree planned puts
  pub small : first_large planned ≡ None
  pub collides : IsFirstCollision (entries_at tree planned) name at

-- the first test that fails
abbrev pub IsFirstRefusal : List Carried → Answers → List Planned → Tree → Refusal → Type 0
IsFirstRefusal carried answers planned tree (MissingContent name) = IsFirstUnfound carried answers tree planned (MissingContent name)
IsFirstRefusal carried answers planned tree (TooLarge what size) = IsFirstLarge carried answers tree planned what size
IsFirstRefusal carried answers planned tree (Collision name at) = IsFirstClash carried answers tree planned name at
IsFirstRefusal carried answers planned tree _ = ⊥

-- ---- targets

-- The write set of the plan, and what stands at its paths. Each content is found, no file is above the limit, and the old contents
-- of one SHA-1 are one content.
pub record AreTargets (carried : List Carried) (answers : Answers) (planned : List Planned) (tree : Tree) (t : Targets) : Type 0 where
  pub puts : ArePutsOf carried answers tree planned t.puts
  pub small : first_large planned ≡ None
  pub entries : t.entries ≡ entries_at tree planned
  pub agree : AllAgree t.entries

-- By the tree: the entries are those of the writes, with what stands at their paths, and a record can say that it stood there.
pub record AreOver (tree : Tree) (t : Targets) : Type 0 where
  pub entries : t.entries ≡ entries_of_puts tree t.puts
  pub before : All (λ (p : Put). IsTellable (get tree p.path)) t.puts

-- each write changes the tree
abbrev pub AreChanges : Tree → List Put → Type 0
AreChanges tree puts = All (λ (p : Put). get tree p.path ≢ node_of p.want) puts

-- ---- on every disk, also on one that tells nothing

-- a write and an entry for each planned path, and the old contents of one SHA-1 are one content
pub record FitPlan (planned : List Planned) (t : Targets) : Type 0 where
  pub puts : HavePuts planned t.puts
  pub entries : HaveEntries planned t.entries
  pub small : first_large planned ≡ None
  pub agree : AllAgree t.entries

-- each write is of a node that a disk can hold
abbrev pub AreHeld : List Put → Type 0
AreHeld puts = All (λ (p : Put). IsTrue (may_stand (node_of p.want))) puts

-- no bytes are staged, a disk can hold what is to stand, and the fingerprints have bytes
pub record AreGiven (puts : List Put) : Type 0 where
  pub given : All (λ (p : Put). is_staged p.want ≡ false) puts
  pub held : AreHeld puts
  pub marks : All (λ (p : Put). IsMark (fingerprint (node_of p.want))) puts

-- each path once, in their order, and a record can have them; the contents can be saved
pub record AreSavable (es : List Entry) : Type 0 where
  pub given : All (λ (e : Entry). is_staged e.was ≡ false) es
  pub told : All IsEntry (map entry_of es)
  pub rising : IsStrictlySortedBy entry_cmp (map entry_of es)
  pub agree : AllAgree es

abbrev pub IsTargetRefusal : Refusal → Type 0
IsTargetRefusal (MissingContent name) = Unit {0}
IsTargetRefusal (TooLarge what size) = what ≡ Local
IsTargetRefusal (Collision name at) = Unit {0}
IsTargetRefusal _ = ⊥

abbrev pub IsTargetStop : Stop → Type 0
IsTargetStop = IsSearchStopBy IsTargetRefusal

-- the same of the writes alone
abbrev pub IsMissingRefusal : Refusal → Type 0
IsMissingRefusal (MissingContent name) = Unit {0}
IsMissingRefusal _ = ⊥

abbrev pub IsMissingStop : Stop → Type 0
IsMissingStop = IsSearchStopBy IsMissingRefusal

-- ---- of a part of the tests

-- `TooLarge` of the files that a job replaces, with the size that is told
abbrev pub IsLarge : Option ℕ → Refusal → Type 0
IsLarge large (TooLarge what size) = (what ≡ Local) × (large ≡ Some size)
IsLarge large _ = ⊥

abbrev pub IsLargeFault : Option ℕ → Fault → Type 0
IsLargeFault large (fault.Refused why) = IsLarge large why
IsLargeFault large fault.Memory = ⊥

-- `TooLarge` of a file that grew, on a disk that tells nothing
abbrev pub IsGrown : Refusal → Type 0
IsGrown (TooLarge what size) = what ≡ Local
IsGrown _ = ⊥

abbrev pub IsGrownStop : Stop → Type 0
IsGrownStop = IsStopBy IsGrown
