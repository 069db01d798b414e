-- How the test ends whether a job can be taken back, after others.
use Rattle.std.specs.Prelude.{ℕ, Bool, IsTrue, List}
use Rattle.change_rel.specs.cny-base.declared.refusal.Refusal.{Refusal}
use Rattle.change_rel.specs.cny-base.declared.refusal.Refusal.TheVariants.{Edited, Parent}
use Rattle.change_rel.specs.cny-base.declared.stop.Stop.{Stop}
use Rattle.change_rel.specs.cny-base.declared.stop.Stop.TheVariants as stop
use Rattle.local_db.specs.tree-disk.Tree.{Tree}
use Rattle.local_db.specs.Record.{Entry}
use Rattle.past_jobs.specs.Marks.{CanUndo, IsUndoRefusal, marks_of}
use Rattle.past_jobs.specs.Jobs.{AreFound, CanUndoAll, undone_all}
use Rattle.past_jobs.specs.Seen.{FoundMarks}

-- Jobs, the newest first and numbered from this one down, that can be taken back on the tree, and whose paths the map has.
pub record AreUndone (x : Tree) (newest : ℕ) (jobs : List (List Entry)) (found : FoundMarks) : Type 0 where
  pub found_are : AreFound newest jobs found
  pub can : CanUndoAll jobs (marks_of x)

-- once these jobs are taken back, the job with these entries can be
abbrev pub CanUndoNext : Tree → FoundMarks → List Entry → Type 0
CanUndoNext x found es = (newest : ℕ) (jobs : List (List Entry)) → AreUndone x newest jobs found → CanUndo es (undone_all jobs (marks_of x))

-- the only refusals of a job that can't be taken back
abbrev pub IsUndoKind : Refusal → Type 0
IsUndoKind (Edited path) = Unit {0}
IsUndoKind (Parent path) = Unit {0}
IsUndoKind _ = ⊥

-- why the test ends without an answer
abbrev pub IsTestStop : Stop → Type 0
IsTestStop stop.Failed = Unit {0}
IsTestStop stop.Memory = Unit {0}
IsTestStop (stop.Refused why) = IsUndoKind why
IsTestStop (stop.Damaged path) = ⊥
IsTestStop stop.FarFailed = ⊥
IsTestStop (stop.FarDamaged path) = ⊥

-- Why it isn't found that the job can be taken back: the disk failed, no memory was left, or the job can't be.
abbrev pub IsUndoStop : Bool → Tree → FoundMarks → List Entry → Type 0 → Stop → Type 0
IsUndoStop told x found es rose stop.Failed = rose
IsUndoStop told x found es rose stop.Memory = Unit {0}
IsUndoStop told x found es rose (stop.Refused why) =
    IsUndoKind why × (IsTrue told → (newest : ℕ) (jobs : List (List Entry)) → AreUndone x newest jobs found → IsUndoRefusal es (undone_all jobs (marks_of x)) why)
IsUndoStop told x found es rose (stop.Damaged path) = ⊥
IsUndoStop told x found es rose stop.FarFailed = ⊥
IsUndoStop told x found es rose (stop.FarDamaged path) = ⊥
