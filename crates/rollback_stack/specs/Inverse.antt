-- The writes that take jobs back.
use Rattle.std.specs.Prelude.{◌≡◌, ◌≢◌, ◌⊎◌, ℕ, zero, suc, ◌+◌, ◌-◌, ◌<◌, ◌≤◌, Bool, IsTrue, List, [], ◌∷◌, length, Some, None, All, Contains}
use Rattle.std.specs.FinMap.{get}
use Rattle.std.specs.Cmp.Lexicographic.{slice_cmp}
use Rattle.std.specs.Ordering.{nat_cmp}
use Rattle.std.specs.declared.cmp.Ordering.TheVariants.{Less}
use Rattle.job_targets.specs.cny-base.declared.refusal.Refusal.{Refusal}
use Rattle.job_targets.specs.cny-base.declared.refusal.Refusal.TheVariants.{StackEmpty, NoJob}
use Rattle.job_targets.specs.cny-base.declared.stop.Stop.{Stop}
use Rattle.job_targets.specs.cny-base.declared.stop.Stop.TheVariants as stop
use Rattle.job_targets.specs.journal-log.declared.put.Put.{Put}
use Rattle.job_targets.specs.journal-log.declared.put.Want.{Want}
use Rattle.job_targets.specs.journal-log.declared.put.Want.TheVariants as want
use Rattle.job_targets.specs.journal-log.WriteSet.{Rises}
use Rattle.job_targets.specs.trove-stream.declared.parts.TroveParts.{TroveParts}
use Rattle.job_targets.specs.tree-disk.Tree.{Name, Tree}
use Rattle.tree_scan.specs.declared.mark.Mark.{Mark}
use Rattle.tree_scan.specs.declared.mark.Mark.TheVariants.{Nothing}
use Rattle.local_db.specs.declared.format.Format.TheVariants.{Two}
use Rattle.local_db.specs.Names.{record_file}
use Rattle.local_db.specs.Steps.{IsUnion, no_record_put}
use Rattle.local_db.specs.Record as state
use Rattle.local_db.specs.declared.db.Db.{Db}
use Rattle.job_targets.specs.Old.{HasMark, IsDamagedOld, IsSaved}
use Rattle.past_jobs.specs.Marks.{IsUndoRefusal, marks_of}
use Rattle.past_jobs.specs.Jobs.{CanUndoAll, oldest_with, undone_all}
use Rattle.past_jobs.specs.Outcome.{IsUndoKind}
use Rattle.rollback_stack.specs.JobReading.{HoldsNoRecord, HoldsRecord, HoldsRecords}
use Rattle.rollback_stack.specs.declared.undo.Back.{Back}
use Rattle.rollback_stack.specs.Database.{db_below}

-- a job of the stack has this number
pub record IsOnStack (db : Db) (number : ℕ) : Type 0 where
  pub some : 1 ≤ db.oldest
  pub kept : db.oldest ≤ number
  pub made : number ≤ db.newest

-- what the oldest job with the path found there: this fingerprint, and of a file the bytes that it saved
pub record IsOldWant (x : Tree) (number : ℕ) (mark : Mark) (want_ : Want) : Type 0 where
  pub marked : HasMark mark want_
  pub bytes : IsSaved x number want_

-- nothing stands at the path, and nothing is to stand there
pub record StaysNothing (x : Tree) (jobs : List (List state.Entry)) (p : Name) : Type 0 where
  pub wanted : undone_all jobs (marks_of x) p ≡ Nothing
  pub there : get x p ≡ None

-- The writes of the nodes, in their order: at each path of one of the jobs what the oldest of them that has it found there. Where
-- nothing stands and nothing is to stand there is no write.
pub record AreOldNodes (x : Tree) (number : ℕ) (jobs : List (List state.Entry)) (nodes : List Put) : Type 0 where
  pub rises : Rises nodes
  pub old : All (λ (p : Put). (n : ℕ) × (oldest_with number jobs p.path ≡ Some n) × IsOldWant x n (undone_all jobs (marks_of x) p.path) p.want) nodes
  pub stands : All (λ (p : Put). p.want ≡ want.Nothing → get x p.path ≢ None) nodes
  pub all : (p : Name) (n : ℕ) → oldest_with number jobs p ≡ Some n
      → StaysNothing x jobs p ⊎ ((want_ : Want) × Contains nodes (record { path = p; want = want_ }))

-- nothing at the records of so many jobs, from this number down
abbrev pub no_records : ℕ → ℕ → List Put
no_records zero number = []
no_records (suc count) number = no_record_put number ∷ no_records count (number - 1)

-- The jobs of the stack from the newest down to this number: these are their entries, and they lead to this list. They can be taken
-- back, one after the other.
pub record AreJobsTo (x : Tree) (db : Db) (number : ℕ) (jobs : List (List state.Entry)) (before : List TroveParts) : Type 0 where
  pub on_stack : IsOnStack db number
  pub count : length jobs + number ≡ db.newest + 1
  pub holds : HoldsRecords Two x db.newest db.installed jobs before
  pub can : CanUndoAll jobs (marks_of x)

-- All jobs from the newest down to this number are taken back: the old nodes, nothing at their records, and the database then.
pub record IsBackTo (x : Tree) (db : Db) (number : ℕ) (back : Back) : Type 0 where
  pub jobs : List (List state.Entry)
  pub before : List TroveParts
  pub nodes : List Put
  pub jobs_are : AreJobsTo x db number jobs before
  pub nodes_are : AreOldNodes x db.newest jobs nodes
  pub writes : IsUnion back.puts nodes (no_records (length jobs) db.newest)
  pub db_is : back.db ≡ db_below db before number

-- so many jobs can be read and taken back, and then the next one, above this number or of it
pub record IsAt (x : Tree) (db : Db) (number : ℕ) (jobs : List (List state.Entry)) (after : List TroveParts) : Type 0 where
  pub on_stack : IsOnStack db number
  pub holds : HoldsRecords Two x db.newest db.installed jobs after
  pub can : CanUndoAll jobs (marks_of x)
  pub above : length jobs + number ≤ db.newest

-- the record of the next job is there, and the job can't be taken back when its turn comes
pub record IsRefusedJob (x : Tree) (db : Db) (number : ℕ) (why : Refusal) : Type 0 where
  pub jobs : List (List state.Entry)
  pub after : List TroveParts
  pub before : List TroveParts
  pub es : List state.Entry
  pub at : IsAt x db number jobs after
  pub holds : HoldsRecord Two x (db.newest - length jobs) after before es
  pub refused : IsUndoRefusal es (undone_all jobs (marks_of x)) why

-- the stack is empty, there is no job of the number, or one of the jobs can't be taken back when its turn comes
abbrev pub IsBackRefusal : Bool → Tree → Db → ℕ → Refusal → Type 0
IsBackRefusal told x db number StackEmpty = db.newest ≡ 0
IsBackRefusal told x db number (NoJob n) = (n ≡ number) × (db.newest ≢ 0) × ((number < db.oldest) ⊎ (db.newest < number))
IsBackRefusal told x db number why = IsUndoKind why × (IsTrue told → IsRefusedJob x db number why)

-- the path of the first record that the tree doesn't hold, once the newer jobs can be taken back
pub record IsDamagedJob (x : Tree) (db : Db) (number : ℕ) (path : Name) : Type 0 where
  pub jobs : List (List state.Entry)
  pub after : List TroveParts
  pub at : IsAt x db number jobs after
  pub none : HoldsNoRecord Two x (db.newest - length jobs) after
  pub path_is : path ≡ record_file (db.newest - length jobs)

-- all jobs can be taken back, but a content that is to be put isn't saved as its fingerprint tells: this is its path
pub record IsDamagedContent (x : Tree) (db : Db) (number : ℕ) (path : Name) : Type 0 where
  pub jobs : List (List state.Entry)
  pub before : List TroveParts
  pub jobs_are : AreJobsTo x db number jobs before
  pub place : Name
  pub job : ℕ
  pub named : oldest_with db.newest jobs place ≡ Some job
  pub damaged : IsDamagedOld x job (undone_all jobs (marks_of x) place) path

-- a file of this fingerprint, where it is one, is saved
abbrev pub HoldsOld : Tree → ℕ → Mark → Type 0
HoldsOld x number mark = (path : Name) → IsDamagedOld x number mark path → ⊥

-- It is the first such content, in the order of the paths at which they are to stand.
pub record IsFirstDamagedContent (x : Tree) (db : Db) (number : ℕ) (path : Name) : Type 0 where
  pub content : IsDamagedContent x db number path
  pub first : (q : Name) (n : ℕ) → slice_cmp nat_cmp q content.place ≡ Less → oldest_with db.newest content.jobs q ≡ Some n
      → HoldsOld x n (undone_all content.jobs (marks_of x) q)

-- Why several jobs aren't taken back.
abbrev pub IsBackStop : Bool → Tree → Db → ℕ → Type 0 → Stop → Type 0
IsBackStop told x db number rose stop.Failed = rose
IsBackStop told x db number rose stop.Memory = Unit {0}
IsBackStop told x db number rose (stop.Refused why) = IsBackRefusal told x db number why
IsBackStop told x db number rose (stop.Damaged path) = IsTrue told → IsDamagedJob x db number path ⊎ IsFirstDamagedContent x db number path
IsBackStop told x db number rose stop.FarFailed = ⊥
IsBackStop told x db number rose (stop.FarDamaged path) = ⊥
