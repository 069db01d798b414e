-- How `rblist` ends.
use Rattle.std.proofs.Common.{◌≡◌, ℕ, suc, ◌-◌, ◌<◌, List, [], ◌∷◌, length, Result, Ok, Err, IfErr, All, refl, sym, ap, ◌∙◌, subst, inl, inr, arith}
use Rattle.std.specs.Prelude.{IsTrue}
use Rattle.std.proofs.lemmas.List.Elements.{All-head, All-tail}
use Rattle.cli_call.specs.cny-base.Count.{Rose}
use Rattle.cli_call.specs.cny-base.declared.stop.Stop.{Stop}
use Rattle.cli_call.specs.cny-base.declared.stop.Stop.TheVariants as stop
use Rattle.cli_call.specs.tree-disk.Disk.{DiskModel, HasRead, Reads}
use Rattle.cli_call.specs.tree-disk.Tree.{Name, Tree}
use Rattle.cli_call.specs.trove-stream.declared.parts.TroveParts.{TroveParts}
use Rattle.cli_call.specs.trove-stream.Installed.{IsRising}
use Rattle.cli_call.specs.past-jobs.Past.{AreChangedIds}
use Rattle.local_db.specs.declared.db.Db.{Db}
use Rattle.local_db.specs.declared.format.Format.TheVariants.{Two}
use Rattle.local_db.specs.Record as state
use Rattle.local_db.specs.Stores.{HoldsDatabase, HoldsStack, StoresSystem}
use Rattle.local_db.specs.SystemState.{IsStackItem, IsSystemState, StackItem, newest, oldest}
use Rattle.rollback_stack.specs.JobReading.{HoldsNoRecord, HoldsRecord, HoldsRecords, IsDamagedRecord}
use Rattle.rollback_stack.specs.Numbers.{job_count}
use Rattle.rollback_stack.specs.Reading.{AreNotes, IsAllStop}
use Rattle.rollback_stack.specs.declared.undo.NotedJob.{NotedJob}
use Rattle.cli_call.proofs.system-core.NewestStored.{job_record}
use Rattle.cny_report.specs.declared.note.Note.{Note}
use Rattle.cli_call.specs.cny-laws.declared.failure.Failure.{Failure}
use Rattle.cli_call.specs.cny-laws.declared.opened.Opened.{Opened}
use Rattle.cli_call.proofs.AloneLaws.{AnswersAlone}
use Rattle.cli_call.specs.Alone.{AnswersByRecords}
use Rattle.cli_call.specs.Command.{disks, AreReady, HasFailureCause}
use Rattle.cli_call.proofs.RootDatabase.{held_database, HasDatabase}
use Rattle.cli_call.specs.cny-laws.Call.{HoldsRecordsOf}
use Rattle.cli_call.specs.cny-laws.State.{RootState}
use Rattle.cli_call.specs.cny-laws.Stops.{root_failure, root_result}
use Rattle.cli_call.specs.cny-laws.Store.{HasDamagedFile, NamesDamaged}
use Rattle.cli_call.specs.cny-laws.Stores.{root_store}
use Rattle.cli_call.specs.Answer.{answer}
use Rattle.root_commands.specs.Jobs.{AreNotesOf, list_jobs}
use Rattle.root_commands.specs.Noting.{AreJobsNoted, AreToldBy}
use Rattle.cli_call.proofs.system-core.Migration.{AreFrom, OneRecord, from_newest, count_of}
use Rattle.cli_call.specs.system-core.Job.{db_of}
use Rattle.cli_call.proofs.system-core.Held.{OneDatabase}
use Rattle.local_db.proofs.cny-base.Lists.{length-map as mapped_length}

-- ---- by the records that a root holds

-- a root that holds a stack holds its records
held_records : (x : Tree) (stack : List StackItem) (after : List TroveParts) → HoldsStack Two x after stack → All IsStackItem stack → HoldsRecordsOf x after stack
held_records x [] after held items = tt
held_records x (o ∷ olds) after held items = (job_record x o.number after o held.0 (All-head IsStackItem o olds items) refl, held_records x olds o.list held.1 (All-tail IsStackItem o olds items))

module _ (one : OneRecord) (x : Tree) where
  at_number : (n : ℕ) (after : List TroveParts) (o : StackItem) → HoldsRecord Two x o.number after o.list (state.entries_of o) → o.number ≡ n → HoldsRecord Two x n after o.list (state.entries_of o)
  at_number n after o held is = subst (λ (k : ℕ). HoldsRecord Two x k after o.list (state.entries_of o)) is held

  told_of : (stack : List StackItem) (n : ℕ) (after : List TroveParts) (jobs : List NotedJob) (notes : List Note) → HoldsRecordsOf x after stack → All IsStackItem stack → AreFrom n stack → IsRising after
      → AreNotes x (length stack) n after jobs → AreJobsNoted jobs notes → AreNotesOf after stack notes
  told_of [] n after [] [] held items from rising are noted = tt
  told_of [] n after [] (note ∷ notes) held items from rising are noted = absurd noted
  told_of [] n after (job ∷ jobs) notes held items from rising are noted = absurd are
  told_of (o ∷ olds) n after [] notes held items from rising are noted = absurd are
  told_of (o ∷ olds) n after (job ∷ jobs) [] held items from rising are noted = absurd noted
  told_of (o ∷ olds) n after (job ∷ jobs) (note ∷ notes) held items from rising are noted =
      let item = All-head IsStackItem o olds items in
      let same = one Two x n after are.0 o.list are.1 (state.entries_of o) are.2 (at_number n after o held.0 from.0) in
      let is = are.3 in (
        record {
          number = noted.0.number ∙ is.number_is ∙ sym from.0;
          changes = noted.0.changes o.list after item.list.rising rising
              (subst (λ (l : List TroveParts). AreChangedIds l after job.before) same.0 is.before_is)
              (subst (λ (l : List TroveParts). AreChangedIds after l job.after) same.0 is.after_is);
          paths = noted.0.paths ∙ is.paths_are ∙ ap length same.1 ∙ mapped_length _ o.paths;
        },
        told_of olds (n - 1) o.list jobs notes held.1 (All-tail IsStackItem o olds items) from.1 item.list.rising
            (subst (λ (l : List TroveParts). AreNotes x (length olds) (n - 1) l jobs) same.0 are.4) noted.1,
      )

  whole : (stack : List StackItem) (n : ℕ) (after : List TroveParts) (good : List (List state.Entry)) (before : List TroveParts) → HoldsRecordsOf x after stack → AreFrom n stack
      → length good < length stack → HoldsRecords Two x n after good before → HoldsNoRecord Two x (n - length good) before → ⊥
  whole [] n after good before held from fewer holds none = absurd (omega (arith, fewer))
  whole (o ∷ olds) n after [] before held from fewer holds none =
      let first : n ≡ n - 0 = omega arith in
      none o.list (state.entries_of o) (subst (λ (k : ℕ). HoldsRecord Two x k before o.list (state.entries_of o)) first
      (subst (λ (l : List TroveParts). HoldsRecord Two x n l o.list (state.entries_of o)) (sym holds) (at_number n after o held.0 from.0)))
  whole (o ∷ olds) n after (es ∷ good) before held from fewer holds none =
      let same = one Two x n after holds.0 o.list es (state.entries_of o) holds.1 (at_number n after o held.0 from.0) in
      let less : n - suc (length good) ≡ n - 1 - length good = omega arith in
      whole olds (n - 1) o.list good before held.1 from.1 (omega (arith, fewer))
      (subst (λ (l : List TroveParts). HoldsRecords Two x (n - 1) l good before) same.0 holds.2)
      (subst (λ (k : ℕ). HoldsNoRecord Two x k before) less none)

  -- of the jobs of a system that has this database
  module _ (s : RootState) (system : IsSystemState s) (records : HoldsRecordsOf x s.installed s.stack) (db : Db) (is : db_of s ≡ db) where
    records_whole : (path : Name) → IsDamagedRecord Two x (job_count db.oldest db.newest) db.newest db.installed path → ⊥
    records_whole path damaged =
        let own : IsDamagedRecord Two x (job_count (oldest s.stack) (newest s.stack)) (newest s.stack) s.installed path = subst (λ (d : Db). IsDamagedRecord Two x (job_count d.oldest d.newest) d.newest d.installed path) (sym is) damaged in
        whole s.stack (newest s.stack) s.installed own.good own.before records (from_newest s.stack system.numbered)
        (let few = own.fewer in let count = count_of s.stack system.numbered in omega (arith, few, count)) own.holds own.none

    notes_by : (jobs : List NotedJob) (notes : List Note) → AreNotes x (job_count db.oldest db.newest) db.newest db.installed jobs → AreJobsNoted jobs notes → AreNotesOf s.installed s.stack notes
    notes_by jobs notes are noted =
        told_of s.stack (newest s.stack) s.installed jobs notes records system.olds (from_newest s.stack system.numbered) system.list.rising
        (subst (λ (c : ℕ). AreNotes x c (newest s.stack) s.installed jobs) (count_of s.stack system.numbered)
        (subst (λ (d : Db). AreNotes x (job_count d.oldest d.newest) d.newest d.installed jobs) (sym is) are))
        noted

-- ---- by the database

module _ (law : OneDatabase) (one : OneRecord) (x : Tree) (db : Db) (s : RootState) (holds : HoldsDatabase Two x db.installed db.oldest db.newest) (stored : StoresSystem x s) where
  held : HasDatabase x db s
  held = held_database law x db s holds stored

  same_db : db_of s ≡ db
  same_db = λ i. record { installed = sym held.list i; oldest = sym held.oldest i; newest = sym held.newest i }

  its_records : HoldsRecordsOf x s.installed s.stack
  its_records = held_records x s.stack s.installed held.stores.olds held.stores.system.olds

  none_damaged : (path : Name) → IsDamagedRecord Two x (job_count db.oldest db.newest) db.newest db.installed path → ⊥
  none_damaged path damaged = records_whole one x s held.stores.system its_records db same_db path damaged

  notes_of : (jobs : List NotedJob) (notes : List Note) → AreNotes x (job_count db.oldest db.newest) db.newest db.installed jobs → AreJobsNoted jobs notes → AreNotesOf s.installed s.stack notes
  notes_of jobs notes are noted = notes_by one x s held.stores.system its_records db same_db jobs notes are noted

-- ---- the answers

-- what `all` says of its answer and of its stop
abbrev pub Stopped : {T : Type 0} → DiskModel T → Opened → T → T → Result (List NotedJob) Stop → Type 0
Stopped root_disk opened root root' r =
    IfErr r (IsAllStop root_disk.tells (root_disk.reads root) (job_count opened.db.oldest opened.db.newest) opened.db.newest opened.db.installed (Rose (root_disk.faults root) (root_disk.faults root')))

module _ {T P : Type 0} (root_disk : DiskModel T) (repo_disk : DiskModel P) (law : OneDatabase) (one : OneRecord) (input : List ℕ) (root root' : T) (repo : P) (opened : Opened) (ready : AreReady root_disk repo_disk (disks root repo opened))
    (same : IsTrue root_disk.tells → root_disk.reads root' ≡ root_disk.reads root) where
  abbrev pub Ends : Result (List ℕ) Failure → Type 0
  Ends result = AnswersAlone root_disk list_jobs input root result

  abbrev pub Caused : Result (List ℕ) Failure → Type 0
  Caused result = HasFailureCause root_disk repo_disk (disks root repo opened) (disks root' repo opened) result

  abbrev pub Named : Result (List ℕ) Failure → Type 0
  Named result = NamesDamaged root_store root_disk root' result

  abbrev pub Damage : Name → Type 0
  Damage path = IsDamagedRecord Two (root_disk.reads root) (job_count opened.db.oldest opened.db.newest) opened.db.newest opened.db.installed path

  pub damaged_file : (path : Name) → IsTrue root_disk.tells → Damage path → HasDamagedFile root_store (root_disk.reads root') path
  damaged_file path told damaged =
      let holds = (ready.root told).holds in
      let here : HasDamagedFile root_store (root_disk.reads root) path = record {
        flag_clear = (ready.root told).flag_clear;
        damaged = (inr (record { db = opened.db; holds = holds; damaged = inl damaged }), λ s stored. none_damaged law one (root_disk.reads root) opened.db s holds stored path damaged);
      } in
      subst (λ (t : Tree). HasDamagedFile root_store t path) (sym (same told)) here

  pub stopped_ends : (e : Stop) → Stopped root_disk opened root root' (Err e) → IfErr (let r : Result (List NotedJob) Stop = Err e in root_result r) (λ f. Ends (Err f) × Caused (Err f) × Named (Err f))
  stopped_ends (stop.Refused why) h = absurd h
  stopped_ends stop.Failed h = (tt, h, λ path named. absurd (cc named))
  stopped_ends stop.Memory h = (tt, tt, λ path named. absurd (cc named))
  stopped_ends (stop.Damaged path) h = (
    λ told s rests. none_damaged law one (root_disk.reads root) opened.db s.root (ready.root told).holds rests.stored path (h told),
    inl (λ told. damaged_file path told (h told)),
    λ file named told. (let same : path ≡ file = cc named in subst (HasDamagedFile root_store (root_disk.reads root')) same (damaged_file path told (h told))),
  )
  stopped_ends stop.FarFailed h = absurd h
  stopped_ends (stop.FarDamaged path) h = absurd h

  pub failed_ends : (r : Result (List NotedJob) Stop) (f : Failure) → root_result r ≡ Err f → Stopped root_disk opened root root' r → Ends (Err f) × Caused (Err f) × Named (Err f)
  failed_ends (Ok found) f is run = absurd (cc is)
  failed_ends (Err e) f is run = subst (λ (x : Result (List NotedJob) Failure). IfErr x (λ g. Ends (Err g) × Caused (Err g) × Named (Err g))) is (stopped_ends e run)

  pub found_ends : (jobs : List NotedJob) (text : List ℕ) → (IsTrue root_disk.tells → AreNotes (root_disk.reads root) (job_count opened.db.oldest opened.db.newest) opened.db.newest opened.db.installed jobs) → AreToldBy jobs text → Ends (Ok text)
  found_ends jobs text are is told s rests = record {
    notes = is.notes;
    are = notes_of law one (root_disk.reads root) opened.db s.root (ready.root told).holds rests.stored jobs is.notes (are told) is.noted;
    effect_is = ap answer is.text_is;
  }

pub read_of : {T A : Type 0} (root_disk : DiskModel T) (root root' : T) → Reads root_disk root root' A → IsTrue root_disk.tells → HasRead root_disk root root' (Unit {0})
read_of root_disk root root' value told = let h = value told in record { answer = tt; same = h.same; time = h.time }

-- ---- by the records that the root holds, whatever else it stores

module _ {T P : Type 0} (root_disk : DiskModel T) (repo_disk : DiskModel P) (one : OneRecord) (input : List ℕ) (root root' : T) (repo : P) (opened : Opened) where
  abbrev pub ByRecords : Result (List ℕ) Failure → Type 0
  ByRecords result = AnswersByRecords root_disk repo_disk list_jobs input (disks root repo opened) (disks root' repo opened) result

  stopped_by : (e : Stop) → Stopped root_disk opened root root' (Err e) → ByRecords (Err (root_failure e))
  stopped_by (stop.Refused why) h told s has records = absurd h
  stopped_by stop.Failed h told s has records = inl refl
  stopped_by stop.Memory h told s has records = inl refl
  stopped_by (stop.Damaged path) h told s has records = records_whole one (root_disk.reads root) s.root has.system records opened.db has.database path (h told)
  stopped_by stop.FarFailed h told s has records = absurd h
  stopped_by (stop.FarDamaged path) h told s has records = absurd h

  pub failed_by : (r : Result (List NotedJob) Stop) (f : Failure) → root_result r ≡ Err f → Stopped root_disk opened root root' r → ByRecords (Err f)
  failed_by (Ok found) f is run = absurd (cc is)
  failed_by (Err e) f is run = subst (λ (x : Result (List NotedJob) Failure). IfErr x (λ g. ByRecords (Err g))) is (stopped_by e run)

  pub found_by : (jobs : List NotedJob) (text : List ℕ) → (IsTrue root_disk.tells → AreNotes (root_disk.reads root) (job_count opened.db.oldest opened.db.newest) opened.db.newest opened.db.installed jobs) → AreToldBy jobs text → ByRecords (Ok text)
  found_by jobs text are is told s has records = record {
    effect = answer text;
    is = record {
      notes = is.notes;
      are = notes_by one (root_disk.reads root) s.root has.system records opened.db has.database jobs is.notes (are told) is.noted;
      effect_is = ap answer is.text_is;
    };
    leads = refl;
    bytes = refl;
  }
