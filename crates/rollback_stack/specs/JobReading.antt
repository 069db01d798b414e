-- What the records of a root say.
use Rattle.std.specs.Prelude.{◌≡◌, ℕ, ◌-◌, ◌<◌, List, [], ◌∷◌, length, map, Result, Ok, Err, All}
use Rattle.std.specs.List.Sorted.{IsStrictlySortedBy}
use Rattle.local_db.specs.cny-base.declared.stop.Stop.{Stop}
use Rattle.local_db.specs.cny-base.declared.stop.Stop.TheVariants as stop
use Rattle.local_db.specs.cny-base.declared.text.TextFault.{TextFault}
use Rattle.local_db.specs.cny-base.declared.text.TextFault.TheVariants as fault
use Rattle.past_jobs.specs.Past.{AreChangedIds, IsPast}
use Rattle.local_db.specs.declared.record.Record.{Record}
use Rattle.job_record.specs.Lists.{IsReadBy, told_entry}
use Rattle.local_db.specs.RecordText.{IsRecordText}
use Rattle.local_db.specs.trove-stream.declared.parts.TroveParts.{TroveParts}
use Rattle.local_db.specs.tree-disk.Tree.{Name, Tree}
use Rattle.local_db.specs.declared.format.Format.{Format}
use Rattle.local_db.specs.Names.{record_file}
use Rattle.local_db.specs.Record as state
use Rattle.local_db.specs.Record.{IsRecord, PassesChecks}
use Rattle.local_db.specs.Stores.{HoldsFile}
use Rattle.rollback_stack.specs.declared.job_reading.Job.{Job}
use Rattle.rollback_stack.specs.JobEntries.{IsChange}
pub use Rattle.job_targets.specs.Gathering.{IsReadStop}

-- ---- one record

-- The tree holds the record of this number, which passes the cross-checks; it leads from the list after its job to the one
-- before, with these entries.
pub record HoldsRecord (f : Format) (x : Tree) (number : ℕ) (after before : List TroveParts) (es : List state.Entry) : Type 0 where
  pub bytes : List ℕ
  pub file : HoldsFile x (record_file number) bytes
  pub text : IsRecord f number before after es bytes
  pub checks : PassesChecks f before es

-- it holds no such record
abbrev pub HoldsNoRecord : Format → Tree → ℕ → List TroveParts → Type 0
HoldsNoRecord f x number after = (before : List TroveParts) (es : List state.Entry) → HoldsRecord f x number after before es → ⊥

-- the path is that of the record, and the tree holds none
abbrev pub IsDamagedJob : Format → Tree → ℕ → List TroveParts → Name → Type 0
IsDamagedJob f x number after path = (path ≡ record_file number) × HoldsNoRecord f x number after

-- ---- before a list was asked

-- bytes in the format spell this record, of this number
pub record IsText (f : Format) (number : ℕ) (r : Record) : Type 0 where
  pub bytes : List ℕ
  pub text : IsRecordText f r bytes
  pub number_is : r.number ≡ number

-- they are those of the file of this number
pub record HoldsText (f : Format) (x : Tree) (number : ℕ) (r : Record) : Type 0 where
  pub bytes : List ℕ
  pub file : HoldsFile x (record_file number) bytes
  pub text : IsRecordText f r bytes
  pub number_is : r.number ≡ number

abbrev pub HoldsNoText : Format → Tree → ℕ → Type 0
HoldsNoText f x number = (r : Record) → HoldsText f x number r → ⊥

-- the path is that of the record, and no bytes of a record of this number stand there
abbrev pub IsDamagedText : Format → Tree → ℕ → Name → Type 0
IsDamagedText f x number path = (path ≡ record_file number) × HoldsNoText f x number

-- ---- read against the list after the job

-- The record leads from the list after the job to this one before it, one that may be installed and fits the format, and tells
-- these changes as the lists have them.
pub record IsToldBy (f : Format) (r : Record) (after before : List TroveParts) (es : List state.Entry) : Type 0 where
  pub back : IsPast f r.deltas after before
  pub told : r.entries ≡ map (told_entry before after) es
  pub changes : All IsChange es

-- what is told of a job, between these lists
pub record IsJob (f : Format) (after before : List TroveParts) (job : Job) : Type 0 where
  pub entries_are : All state.IsEntry job.changes.items
  pub rising : IsStrictlySortedBy state.entry_cmp job.changes.items
  pub checks : PassesChecks f before job.changes.items
  pub before_ids : AreChangedIds before after job.changed.before
  pub after_ids : AreChangedIds after before job.changed.after

-- the job is that of the record between these lists
abbrev pub IsJobOf : Format → ℕ → Record → (after before : List TroveParts) → Job → Type 0
IsJobOf f number r after before job = IsReadBy number before after job.changes.items r × PassesChecks f before job.changes.items

-- the record is none of a job after which the list is this one
abbrev pub IsOfNoJob : Format → ℕ → Record → List TroveParts → Type 0
IsOfNoJob f number r after = (before : List TroveParts) (es : List state.Entry) → IsReadBy number before after es r → PassesChecks f before es → ⊥

-- ---- stops

-- what is read, or that the file of this path is damaged
abbrev pub damaged_as : {T : Type 0} → Name → Result T TextFault → Result T Stop
damaged_as path (Ok value) = Ok value
damaged_as path (Err fault.Memory) = Err stop.Memory
damaged_as path (Err fault.Bad) = Err (stop.Damaged path)

-- Why a record that was read doesn't pass: no memory was left, or it is that of no job.
abbrev pub IsCheckStop : Format → ℕ → Record → List TroveParts → Stop → Type 0
IsCheckStop f number r after stop.Memory = Unit {0}
IsCheckStop f number r after (stop.Damaged path) = (path ≡ record_file number) × IsOfNoJob f number r after
IsCheckStop f number r after stop.Failed = ⊥
IsCheckStop f number r after (stop.Refused why) = ⊥
IsCheckStop f number r after stop.FarFailed = ⊥
IsCheckStop f number r after (stop.FarDamaged path) = ⊥

-- ---- several records

-- some records from this number down, each read against the list after it: their entries, and the list before the last of them
abbrev pub HoldsRecords : Format → Tree → ℕ → List TroveParts → List (List state.Entry) → List TroveParts → Type 0
HoldsRecords f x number after [] before = before ≡ after
HoldsRecords f x number after (es ∷ more) before =
    (middle : List TroveParts) × HoldsRecord f x number after middle es × HoldsRecords f x (number - 1) middle more before

-- The record of the first number, from this one down, of which the tree holds none.
pub record IsDamagedRecord (f : Format) (x : Tree) (count number : ℕ) (after : List TroveParts) (path : Name) : Type 0 where
  pub good : List (List state.Entry)
  pub before : List TroveParts
  pub fewer : length good < count
  pub holds : HoldsRecords f x number after good before
  pub none : HoldsNoRecord f x (number - length good) before
  pub path_is : path ≡ record_file (number - length good)
