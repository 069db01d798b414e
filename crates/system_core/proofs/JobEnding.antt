-- How a job ends.
use Rattle.std.proofs.Common.{◌≡◌, inl, inr, ℕ, ◌+◌, ◌≤◌, Bool, false, IsTrue, List, Option, Some, None, Result, Ok, Err, IfErr, IsErrAnd, refl, sym, ◌∙◌, ap, subst}
use Rattle.std.specs.Prelude.{◌≢◌, IsErrOf}
use Rattle.std.specs.FinMap.{get}
use Rattle.rollback_stack.specs.content-store.Store.{file_bytes}
use Rattle.rollback_stack.specs.cny-base.Count.{Rose}
use Rattle.rollback_stack.specs.cny-base.Stop.{stop_of_fault}
use Rattle.rollback_stack.specs.cny-base.declared.limits.TheConstants.{DATABASE_LIMIT, JOBS_LIMIT}
use Rattle.rollback_stack.specs.cny-base.declared.node.Node.{Node}
use Rattle.rollback_stack.specs.cny-base.declared.node.Node.TheVariants as node
use Rattle.rollback_stack.specs.cny-base.declared.refusal.Fault.{Fault}
use Rattle.rollback_stack.specs.cny-base.declared.refusal.Fault.TheVariants as fault
use Rattle.rollback_stack.specs.cny-base.declared.stop.Stop.{Stop}
use Rattle.rollback_stack.specs.cny-base.declared.stop.Stop.TheVariants.{Refused, Memory, Failed, Damaged, FarFailed, FarDamaged}
use Rattle.rollback_stack.specs.trove-stream.declared.parts.TroveParts.{TroveParts}
use Rattle.rollback_stack.specs.tree-disk.Tree.{Name, Tree, is_dir}
use Rattle.rollback_stack.specs.tree-disk.Disk.{DiskModel, IsDisk}
use Rattle.rollback_stack.specs.tree-disk.Confined.{Among}
use Rattle.rollback_stack.proofs.tree-disk.ConfinedLaws.{confined_start}
use Rattle.rollback_stack.proofs.tree-disk.Moments.{rose_before}
use Rattle.rollback_stack.specs.tree-disk.Steps.{IsDiskStop}
use Rattle.rollback_stack.specs.journal-log.declared.put.Put.{Put}
use Rattle.job_targets.specs.declared.entry.Entry.{Entry}
use Rattle.local_db.specs.declared.format.Format.TheVariants.{Two}
use Rattle.local_db.specs.Formats.{database_bytes, AreEnds, Fits}
use Rattle.local_db.specs.Installed.{IsInstalled}
use Rattle.local_db.specs.Names.{database}
use Rattle.local_db.specs.Stores.{absent, written, HoldsDatabase, IsDatabase, StoresIn}
use Rattle.local_db.specs.SystemState.{SystemState, newest, oldest}
use Rattle.local_db.specs.Steps.{after_job, old_of}
use Rattle.local_db.specs.declared.db.Db.{Db}
use Rattle.rollback_stack.specs.Pushing.{IsPushStop}
use Rattle.rollback_stack.specs.change-set.Contents.{IfRefused}
use Rattle.rollback_stack.proofs.Pushed.{keeps_start}
use Rattle.rollback_stack.specs.Saving.{is_saving_name}
use Rattle.rollback_stack.specs.job-record.Changed.{AreChangedNames}
use Rattle.system_core.specs.RootWriting.{TakesRoot}
use Rattle.system_core.specs.Last.{number_after, oldest_after, too_large, too_many, ChangesNeither, IsLastOrMemory, IsRefusedLast, PassesLast}
use Rattle.system_core.specs.Last as last
use Rattle.system_core.specs.JobWriting.{AnswersJob, AreTargetsOf, CanPutJob, CanWriteJob, IsJobFrom, IsJobMade, IsJobStop, JobEnds, done}
use Rattle.system_core.proofs.Held.{OneDatabase, one_held}
use Rattle.system_core.proofs.JobNumbers.{ends_after, number_is, oldest_pushed, room_of}
use Rattle.system_core.proofs.JobRunning.{stopped_before}
use Rattle.rollback_stack.proofs.Rewriting.{most as below_limit}
use Rattle.local_db.proofs.cny-base.Faults.{passed_on}

-- ---- the database's file

pub is_file_or_none : (n : Option Node) (bytes : List ℕ) → file_bytes n ≡ Some bytes → is_dir n ≡ false
is_file_or_none None bytes is = refl
is_file_or_none (Some (node.Dir mode)) bytes is = absurd (cc is)
is_file_or_none (Some (node.File mode got)) bytes is = refl
is_file_or_none (Some (node.Link target)) bytes is = refl

no_dir_at : (x : Tree) (list : List TroveParts) (low high : ℕ) → HoldsDatabase Two x list low high → is_dir (get x database) ≡ false
no_dir_at x list low high (absent none list_is low_is high_is) = ap is_dir none
no_dir_at x list low high (written is file) = is_file_or_none (get x database) _ file

-- ---- the job, by the values

-- what is made of a job that passes the last tests
pub job_is : (before : Db) (list : List TroveParts) (names : List Name) (db : Db) (bytes : List ℕ) → db ≡ last.db_after before list → before.newest ≢ JOBS_LIMIT
    → IsDatabase Two before.installed before.oldest before.newest → IsInstalled list → Fits Two db.installed → AreChangedNames before.installed list names
    → bytes ≡ database_bytes Two db.installed db.oldest db.newest → IsJobMade before list names db bytes
job_is before list names db bytes db_is room was installed fits names_are text = record {
  db_is = db_is;
  database = record {
    installed = subst IsInstalled (sym list_is) installed;
    ends = subst (AreEnds db.oldest) (sym newest_is) (subst (λ (low : ℕ). AreEnds low (number_after before.newest)) (sym oldest_is) (ends_after before.oldest before.newest was.ends room));
    fits = fits;
  };
  next = newest_is ∙ number_is before.newest (below_limit before.oldest before.newest was.ends) room;
  names_are = subst (λ (l : List TroveParts). AreChangedNames before.installed l names) (sym list_is) names_are;
  text = text;
}
  where
    list_is : db.installed ≡ list
    list_is = ap (λ (d : Db). d.installed) db_is

    newest_is : db.newest ≡ number_after before.newest
    newest_is = ap (λ (d : Db). d.newest) db_is

    oldest_is : db.oldest ≡ oldest_after before.oldest (number_after before.newest)
    oldest_is = ap (λ (d : Db). d.oldest) db_is

module _ (before : Db) (list : List TroveParts) (puts : List Put) (es : List Entry) (names : List Name) (db : Db) (bytes : List ℕ) (is : IsJobMade before list names db bytes) where
  list_is : db.installed ≡ list
  list_is = ap (λ (d : Db). d.installed) is.db_is

  oldest_is : db.oldest ≡ oldest_after before.oldest (number_after before.newest)
  oldest_is = ap (λ (d : Db). d.oldest) is.db_is

  room : before.newest ≢ JOBS_LIMIT
  room = room_of before.newest (sym (ap (λ (d : Db). d.newest) is.db_is) ∙ is.next)

  -- from a system that the root stores
  pub job_from : OneDatabase → (x : Tree) (s : SystemState) → HoldsDatabase Two x before.installed before.oldest before.newest → StoresIn Two x s → IsJobFrom s puts before.installed db
  job_from unique x s holds stores =
      let same = one_held unique x before.installed s.installed before.oldest before.newest (oldest s.stack) (newest s.stack) holds stores.list in
      record {
        newest_is = is.next ∙ ap (λ (n : ℕ). n + 1) same.highs;
        oldest_is = oldest_is ∙ (λ i. oldest_after (same.lows i) (number_after (same.highs i)))
            ∙ sym (oldest_pushed (old_of puts s) s.stack stores.system.numbered stores.system.few refl stores.system.number (λ full. room (same.highs ∙ full)));
        list_is = same.lists;
      }

  -- ---- what the root holds

  module _ {D : Type 0} {disk : DiskModel D} (laws : IsDisk disk) (old : D) (can : CanWriteJob disk before puts es old) where
    pub can_put : (fs : List Entry) → fs ≡ es → CanPutJob disk puts fs old
    can_put fs same = record {
      flag_clear = can.flag_clear;
      synced = can.synced;
      pinned = can.pinned;
      no_dir = no_dir_at (disk.reads old) before.installed before.oldest before.newest can.holds;
      targets = subst (AreTargetsOf (disk.reads old) puts) (sym same) can.targets;
    }

    module _ (unique : OneDatabase) (new : D) (s : SystemState) (stores : StoresIn Two (disk.reads old) s) where
      from : IsJobFrom s puts before.installed db
      from = job_from unique (disk.reads old) s can.holds stores

      as_list : (result : Result (Unit {0}) Stop) → TakesRoot disk Two s (after_job puts db.installed s) puts old new result → TakesRoot disk Two s (after_job puts list s) puts old new result
      as_list result goes = subst (λ (l : List TroveParts). TakesRoot disk Two s (after_job puts l s) puts old new result) list_is goes

      pub written_job : (number : ℕ) → number ≡ db.newest → TakesRoot disk Two s (after_job puts db.installed s) puts old new done → JobEnds disk puts list s old new (Ok (Some number))
      written_job number number_is goes = (number_is ∙ from.newest_is, as_list done goes)

      at_stop : (rose : Type 0) (e : Stop) → IsTrue disk.tells → IsPushStop disk.tells rose e → TakesRoot disk Two s (after_job puts list s) puts old new (Err e) → JobEnds disk puts list s old new (Err e)
      at_stop rose Failed tells stops goes = goes
      at_stop rose Memory tells stops goes = goes
      at_stop rose (Refused why) tells stops goes = absurd (stops.untold tells)
      at_stop rose (Damaged path) tells stops goes = absurd stops
      at_stop rose FarFailed tells stops goes = absurd stops
      at_stop rose (FarDamaged path) tells stops goes = absurd stops

      pub stopped_job : (rose : Type 0) (e : Stop) (r : Result (Option ℕ) Stop) → IsErrAnd r (λ x. x ≡ e) → IsTrue disk.tells → IsPushStop disk.tells rose e
          → TakesRoot disk Two s (after_job puts db.installed s) puts old new (Err e) → JobEnds disk puts list s old new r
      stopped_job rose e (Ok x) same tells stops goes = absurd same
      stopped_job rose e (Err x) same tells stops goes =
          subst (λ (y : Stop). JobEnds disk puts list s old new (Err y)) (sym same) (at_stop rose e tells stops (as_list (Err e) goes))

-- ---- no call was made

module _ {D : Type 0} {disk : DiskModel D} (laws : IsDisk disk) (before : Db) (list : List TroveParts) (puts : List Put) (es : List Entry) (d : D) (can : CanWriteJob disk before puts es d)
    (s : SystemState) (stores : StoresIn Two (disk.reads d) s) where
  no_call : (Why : Stop → Type 0) (result : Result (Unit {0}) Stop) → IsErrAnd result Why → TakesRoot disk Two s (after_job puts list s) puts d d result
  no_call Why result is = stopped_before 0 None puts d d can.flag_clear can.synced (confined_start laws (Among (is_saving_name 0 None)) d) s (after_job puts list s)
      (keeps_start laws Two s d (λ q counted. can.synced q) stores) Why result is

  at_fault : (e : Fault) → JobEnds disk puts list s d d (Err (stop_of_fault e))
  at_fault (fault.Refused why) = refl
  at_fault fault.Memory = no_call (λ x. Unit {0}) (Err Memory) tt

  pub refused_job : (e : Fault) (r : Result (Option ℕ) Stop) → IsErrAnd r (λ x. x ≡ stop_of_fault e) → JobEnds disk puts list s d d r
  refused_job e (Ok x) is = absurd is
  refused_job e (Err x) is = subst (λ (y : Stop). JobEnds disk puts list s d d (Err y)) (sym is) (at_fault e)

-- ---- stops

last_refusal : (db : Db) (list : List TroveParts) (puts : List Put) (e : Fault) → (ChangesNeither db list puts → ⊥) → IsLastOrMemory db.newest list e → IfRefused (IsRefusedLast db list puts) e
last_refusal db list puts (fault.Refused why) changes (inl large) = too_large large.0 large.1
last_refusal db list puts (fault.Refused why) changes (inr many) = too_many many.0 changes many.1 many.2
last_refusal db list puts fault.Memory changes is = tt

-- a last test failed, where something changes
pub last_fault : {T : Type 0} (db : Db) (list other : List TroveParts) (puts : List Put) (e : Fault) (r : Result T Fault) → IsErrAnd r (λ x. x ≡ e) → (ChangesNeither db list puts → ⊥)
    → other ≡ list → IsLastOrMemory db.newest other e → IfErr r (IfRefused (IsRefusedLast db list puts))
last_fault db list other puts e r same changes lists is =
    passed_on (IfRefused (IsRefusedLast db list puts)) e r (last_refusal db list puts e changes (subst (λ (l : List TroveParts). IsLastOrMemory db.newest l e) lists is)) same

pub passes_size : (list : List TroveParts) → Fits Two list → last.database_size list ≤ DATABASE_LIMIT
passes_size list fits = fits.short

fault_stop : (told : Bool) (rose : Type 0) (db : Db) (list : List TroveParts) (puts : List Put) (e : Fault) → IfRefused (IsRefusedLast db list puts) e → IsJobStop told rose db list puts (stop_of_fault e)
fault_stop told rose db list puts (fault.Refused why) is = inl is
fault_stop told rose db list puts fault.Memory is = tt

pub refused_stops : {T : Type 0} (told : Bool) (rose : Type 0) (db : Db) (list : List TroveParts) (puts : List Put) (e : Fault) (r : Result T Stop) → IsErrAnd r (λ x. x ≡ stop_of_fault e)
    → IfRefused (IsRefusedLast db list puts) e → IfErr r (IsJobStop told rose db list puts)
refused_stops told rose db list puts e r same is = passed_on (IsJobStop told rose db list puts) (stop_of_fault e) r (fault_stop told rose db list puts e is) same

push_stop : (told : Bool) (rose : Type 0) (db : Db) (list : List TroveParts) (puts : List Put) (e : Stop) → PassesLast db list puts → IsPushStop told rose e → IsJobStop told rose db list puts e
push_stop told rose db list puts Failed passes is = (is, passes)
push_stop told rose db list puts Memory passes is = tt
push_stop told rose db list puts (Refused why) passes is = inr (record { passes = passes; collision = is })
push_stop told rose db list puts (Damaged path) passes is = is
push_stop told rose db list puts FarFailed passes is = is
push_stop told rose db list puts (FarDamaged path) passes is = is

pub pushed_stops : {T : Type 0} (told : Bool) (rose : Type 0) (db : Db) (list : List TroveParts) (puts : List Put) (e : Stop) (r : Result T Stop) → IsErrAnd r (λ x. x ≡ e) → PassesLast db list puts
    → IsPushStop told rose e → IfErr r (IsJobStop told rose db list puts)
pushed_stops told rose db list puts e r same passes is = passed_on (IsJobStop told rose db list puts) e r (push_stop told rose db list puts e passes is) same

disk_stop : (told : Bool) (rose : Type 0) (e : Stop) → (e ≡ Failed → rose) → IsDiskStop e → IsPushStop told rose e
disk_stop told rose Failed failed is = failed refl
disk_stop told rose Memory failed is = tt
disk_stop told rose (Refused why) failed is = absurd is
disk_stop told rose (Damaged path) failed is = absurd is
disk_stop told rose FarFailed failed is = absurd is
disk_stop told rose (FarDamaged path) failed is = absurd is

-- the write set, after other calls
pub last_stops : {T : Type 0} (told : Bool) (a b c : ℕ) (r : Result T Stop) → a ≤ b → (IsErrOf r Failed → Rose b c) → IfErr r IsDiskStop → IfErr r (IsPushStop told (Rose a c))
last_stops told a b c (Ok x) early failed is = tt
last_stops told a b c (Err e) early failed is = disk_stop told (Rose a c) e (λ same. rose_before a b c early (failed (ap Err same))) is

-- ---- answers

same_answer : (db : Db) (list : List TroveParts) (puts : List Put) (r : Result (Option ℕ) Stop) → (Why : Stop → Type 0) → IsErrAnd r Why → AnswersJob db list puts db r
same_answer db list puts (Ok x) Why is = absurd is
same_answer db list puts (Err e) Why is = refl

pub stopped_answer : (db new : Db) (list : List TroveParts) (puts : List Put) (r : Result (Option ℕ) Stop) (Why : Stop → Type 0) → new ≡ db → IsErrAnd r Why → AnswersJob db list puts new r
stopped_answer db new list puts r Why same is = subst (λ (d : Db). AnswersJob db list puts d r) (sym same) (same_answer db list puts r Why is)
