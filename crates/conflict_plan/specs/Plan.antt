-- Plans: which paths a job changes, and why it is refused.
use Rattle.std.specs.Prelude.{◌≡◌, ◌⊎◌, ℕ, Bool, true, false, ◌||◌, if◌then◌else◌, List, [], ◌∷◌, Option, Some, None, is_some, Result, Ok, Err, All}
use Rattle.std.specs.Cmp.Lexicographic.{slice_cmp}
use Rattle.std.specs.Ordering.{nat_cmp}
use Rattle.std.specs.List.Sorted.{IsStrictlySortedBy}
use Rattle.std.specs.declared.cmp.Ordering.{Ordering}
use Rattle.std.specs.declared.cmp.Ordering.TheVariants.{Less}
use Rattle.trove_stream.specs.cny-base.Path.{parent, root}
use Rattle.trove_stream.specs.cny-base.Reserved.{is_pinned}
use Rattle.trove_stream.specs.cny-base.declared.options.Options.{Options}
use Rattle.trove_stream.specs.cny-base.declared.refusal.Refusal.{Refusal}
use Rattle.trove_stream.specs.cny-base.declared.refusal.Refusal.TheVariants as refusal
use Rattle.trove_stream.specs.cny-base.declared.stop.Stop.{Stop}
use Rattle.trove_stream.specs.cny-base.declared.stop.Stop.TheVariants.{Refused, Memory, Failed, Damaged, FarFailed, FarDamaged}
use Rattle.trove_stream.specs.cny-stream.declared.record.FileRec.{FileRec}
use Rattle.trove_stream.specs.declared.parts.TroveParts.{TroveParts}
use Rattle.tree_scan.specs.tree-disk.Tree.{Name, Tree, is_child, same_name}
use Rattle.tree_scan.specs.declared.mark.Mark.{Mark}
use Rattle.tree_scan.specs.declared.mark.Mark.TheVariants as mark
use Rattle.tree_scan.specs.Marks.{fingerprint_at, fingerprint_of_record, is_dir, is_nothing}
use Rattle.tree_scan.specs.OnlyReads.{IsStopBy}
use Rattle.conflict_plan.specs.declared.planned.Planned.{Planned}
use Rattle.conflict_plan.specs.declared.table.Outcome.{Outcome}
use Rattle.conflict_plan.specs.declared.table.Outcome.TheVariants.{Stays, Removed, Written, Unowned, Edited}
use Rattle.conflict_plan.specs.Claims.{record_at, owners_at}
use Rattle.conflict_plan.specs.Table.{path_outcome}
pub use Rattle.trove_stream.specs.cny-base.Answer.{IsAnswer}

-- ---- what a plan leaves

-- the fingerprint of what is to stand
abbrev pub mark_of_want : Option FileRec → Mark
mark_of_want None = mark.Nothing
mark_of_want (Some rec) = fingerprint_of_record rec

-- what the plan says of a path
abbrev pub planned_at : List Planned → Name → Option Planned
planned_at [] path = None
planned_at (x ∷ plan) path = if same_name x.path path then Some x else planned_at plan path

abbrev pub planned_mark : Option Planned → Mark → Mark
planned_mark None was = was
planned_mark (Some x) was = mark_of_want x.want

-- The result: what stands at each path once the plan is carried out.
abbrev pub mark_after : List Planned → Tree → Name → Mark
mark_after plan tree path = planned_mark (planned_at plan path) (fingerprint_at tree path)

-- the result has a name directly below the path
abbrev pub HasChild : (Name → Mark) → Name → Type 0
HasChild result path = (q : Name) × (is_child path q ≡ true) × (is_nothing (result q) ≡ false)

-- something stands there in the result, and its parent isn't a directory
pub record IsOrphan (result : Name → Mark) (path : Name) : Type 0 where
  pub not_root : same_name path root ≡ false
  pub stands : is_nothing (result path) ≡ false
  pub no_way : is_dir (result (parent path)) ≡ false

-- ---- what the table says

-- what becomes of a path, where a name directly below it remains or none does
abbrev pub outcome_at : List TroveParts → List TroveParts → Options → Tree → Name → Bool → Outcome
outcome_at old fresh options tree path remains = path_outcome path (record_at old path) (record_at fresh path) (fingerprint_at tree path) remains options

-- what is planned of a path
abbrev pub change_of : Outcome → Name → Mark → Option FileRec → Option Planned
change_of Removed path was rec = Some (record { path = path; was = was; want = None })
change_of Written path was rec = Some (record { path = path; was = was; want = rec })
change_of Stays path was rec = None
change_of Unowned path was rec = None
change_of Edited path was rec = None

abbrev pub refusal_of : Outcome → Name → Option Refusal
refusal_of Unowned path = Some (refusal.Unowned path)
refusal_of Edited path = Some (refusal.Edited path)
refusal_of Stays path = None
refusal_of Removed path = None
refusal_of Written path = None

-- The refusal of a path. (That a name below it remains matters to no row that refuses.)
abbrev pub conflict_at : List TroveParts → List TroveParts → Options → Tree → Name → Option Refusal
conflict_at old fresh options tree path = refusal_of (outcome_at old fresh options tree path false) path

-- ---- plans

abbrev pub planned_cmp : Planned → Planned → Ordering
planned_cmp a b = slice_cmp nat_cmp a.path b.path

-- The paths rise, and at each path the plan is what the table says, by whether the result has a name directly below it: just the
-- paths that differ, each with what stands and with its target.
pub record ArePlanned (old fresh : List TroveParts) (options : Options) (tree : Tree) (plan : List Planned) : Type 0 where
  pub rising : IsStrictlySortedBy planned_cmp plan
  pub targets : (path : Name) (remains : Bool) → IsAnswer (HasChild (mark_after plan tree) path) remains
      → planned_at plan path ≡ change_of (outcome_at old fresh options tree path remains) path (fingerprint_at tree path) (record_at fresh path)

-- P holds of this path and of none before it
pub record IsFirst (P : Name → Type 0) (path : Name) : Type 0 where
  pub holds : P path
  pub first : (q : Name) → slice_cmp nat_cmp q path ≡ Less → P q → ⊥

-- no two troves of the new list have a path that they can't share
abbrev pub IsUnshared : List TroveParts → Type 0
IsUnshared fresh = (path : Name) → owners_at fresh path ≡ None

-- what a job plans that isn't refused
pub record IsPlan (old fresh : List TroveParts) (options : Options) (tree : Tree) (plan : List Planned) : Type 0 where
  pub unshared : IsUnshared fresh
  pub no_conflict : (path : Name) → conflict_at old fresh options tree path ≡ None
  pub planned : ArePlanned old fresh options tree plan
  pub no_orphan : (path : Name) → IsOrphan (mark_after plan tree) path → ⊥

-- ---- refusals

-- the first path that two troves of the new list have
pub record IsFirstShared (fresh : List TroveParts) (path first second : List ℕ) : Type 0 where
  pub owners : owners_at fresh path ≡ Some (first, second)
  pub first_path : (q : Name) → slice_cmp nat_cmp q path ≡ Less → owners_at fresh q ≡ None

-- no path is shared, and at this first path the table refuses so
pub record IsFirstConflict (old fresh : List TroveParts) (options : Options) (tree : Tree) (path : Name) (why : Refusal) : Type 0 where
  pub unshared : IsUnshared fresh
  pub refused : conflict_at old fresh options tree path ≡ Some why
  pub first_path : (q : Name) → slice_cmp nat_cmp q path ≡ Less → conflict_at old fresh options tree q ≡ None

-- no path is shared, the table refuses nowhere, and this is the first path of the result whose parent isn't a directory
pub record IsFirstOrphan (old fresh : List TroveParts) (options : Options) (tree : Tree) (path : Name) : Type 0 where
  pub unshared : IsUnshared fresh
  pub no_conflict : (q : Name) → conflict_at old fresh options tree q ≡ None
  pub plan : List Planned
  pub planned : ArePlanned old fresh options tree plan
  pub orphan : IsFirst (IsOrphan (mark_after plan tree)) path

-- the first refusal of a job's plan
abbrev pub IsFirstRefusal : List TroveParts → List TroveParts → Options → Tree → Refusal → Type 0
IsFirstRefusal old fresh options tree (refusal.Owned path first second) = IsFirstShared fresh path first second
IsFirstRefusal old fresh options tree (refusal.Unowned path) = IsFirstConflict old fresh options tree path (refusal.Unowned path)
IsFirstRefusal old fresh options tree (refusal.Edited path) = IsFirstConflict old fresh options tree path (refusal.Edited path)
IsFirstRefusal old fresh options tree (refusal.Parent path) = IsFirstOrphan old fresh options tree path
IsFirstRefusal old fresh options tree _ = ⊥

-- ---- on every disk, also on one that tells nothing

-- the refusal of a shared path is that of the first one, and no other comes where a path is shared
abbrev pub RefusesShared : List TroveParts → Refusal → Type 0
RefusesShared fresh (refusal.Owned path first second) = IsFirstShared fresh path first second
RefusesShared fresh _ = IsUnshared fresh

-- Whether a path is shared is a matter of the new list alone: the first shared path is refused, and where an answer is another
-- one, no path is shared. (Want of memory says nothing.)
abbrev pub TellsShared : List TroveParts → Result (List Planned) Stop → Type 0
TellsShared fresh (Ok plan) = IsUnshared fresh
TellsShared fresh (Err (Refused why)) = RefusesShared fresh why
TellsShared fresh (Err Failed) = IsUnshared fresh
TellsShared fresh (Err Memory) = Unit {0}
TellsShared fresh (Err (Damaged path)) = ⊥
TellsShared fresh (Err FarFailed) = ⊥
TellsShared fresh (Err (FarDamaged path)) = ⊥

-- One of the lists records the path, which isn't pinned, and its target is nothing or what the new list records.
pub record IsPlannable (old fresh : List TroveParts) (x : Planned) : Type 0 where
  pub not_pinned : is_pinned x.path ≡ false
  pub recorded : (is_some (record_at old x.path) || is_some (record_at fresh x.path)) ≡ true
  pub target : (x.want ≡ None) ⊎ (x.want ≡ record_at fresh x.path)

-- Paths that rise, and that these lists may change.
pub record ArePlannable (old fresh : List TroveParts) (plan : List Planned) : Type 0 where
  pub rising : IsStrictlySortedBy planned_cmp plan
  pub each : All (IsPlannable old fresh) plan

-- the refusals of planning
abbrev pub IsPlanRefusal : Refusal → Type 0
IsPlanRefusal (refusal.Owned path first second) = Unit {0}
IsPlanRefusal (refusal.Unowned path) = Unit {0}
IsPlanRefusal (refusal.Edited path) = Unit {0}
IsPlanRefusal (refusal.Parent path) = Unit {0}
IsPlanRefusal _ = ⊥

-- the stops of planning
abbrev pub IsPlanStop : Stop → Type 0
IsPlanStop stop = IsStopBy IsPlanRefusal stop
