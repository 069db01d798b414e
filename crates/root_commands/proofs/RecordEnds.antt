-- A damaged record isn't passed over.
use Rattle.std.proofs.Common.{◌≡◌, ⊎_elim, Bool, false, ℕ, zero, suc, ◌+◌, ◌-◌, ◌<◌, ◌≤◌, List, [], ◌∷◌, ◌++◌, length, Option, Some, Result, Ok, Err, IfOk, IfErr, All, refl, sym, ap, ◌∙◌, subst, inl, inr, arith, length-append}
use Rattle.std.specs.Prelude.{◌⊎◌, IsTrue}
use Rattle.std.proofs.lemmas.List.Elements.{All-contains}
use Rattle.cli_call.specs.cny-base.declared.refusal.Refusal.{Refusal}
use Rattle.cli_call.specs.cny-base.declared.refusal.Refusal.TheVariants.{Edited, NoJob, Parent, StackEmpty}
use Rattle.cli_call.specs.cny-base.declared.stop.Stop.{Stop}
use Rattle.cli_call.specs.cny-base.declared.stop.Stop.TheVariants as stop
use Rattle.cli_call.specs.journal-log.declared.put.Put.{Put}
use Rattle.cli_call.specs.journal-log.declared.put.Want.{Want}
use Rattle.cli_call.specs.journal-log.declared.put.Want.TheVariants as want
use Rattle.cli_call.specs.journal-log.Targets.{node_of}
use Rattle.cli_call.specs.tree-disk.Disk.{DiskModel}
use Rattle.cli_call.specs.tree-disk.Tree.{Name, Tree}
use Rattle.cli_call.specs.tree-scan.declared.mark.Mark.{Mark}
use Rattle.cli_call.specs.tree-scan.Marks.{fingerprint}
use Rattle.cli_call.specs.trove-stream.declared.parts.TroveParts.{TroveParts}
use Rattle.local_db.specs.declared.db.Db.{Db}
use Rattle.cli_call.specs.job-targets.Old.{IsDamagedOld, IsSaved, is_staged}
use Rattle.local_db.specs.declared.format.Format.TheVariants.{Two}
use Rattle.local_db.specs.Record as state
use Rattle.cli_call.specs.past-jobs.Jobs.{CanUndoAll, oldest_with, undone_all}
use Rattle.cli_call.specs.past-jobs.Marks.{CanUndo, IsEdited, IsUndoRefusal, Marks, marks_of, undone}
use Rattle.rollback_stack.specs.JobReading.{HoldsNoRecord, HoldsRecord, HoldsRecords}
use Rattle.rollback_stack.specs.declared.undo.NotedJob.{NotedJob}
use Rattle.rollback_stack.specs.declared.undo.Back.{Back}
use Rattle.rollback_stack.specs.Inverse.{IsBackRefusal, IsDamagedJob, IsOldWant, IsRefusedJob}
use Rattle.rollback_stack.specs.Numbers.{job_count}
use Rattle.rollback_stack.specs.Reading.{AreNotes, IsAllStop}
use Rattle.rollback_stack.proofs.Noting.{records_push}
use Rattle.cli_call.specs.system-core.Several.{HasTakenBackTo, IsStepTo, StopsTo}
use Rattle.cli_call.specs.cny-laws.declared.failure.Failure.{Failure}
use Rattle.cli_call.specs.cny-laws.Stops.{root_failure, root_result}
use Rattle.root_commands.specs.Records.{IsDamagedOfAll, IsUnsavedContent, ListsWhole, NoneIs, TakesBackWhole, last_job}
use Rattle.cli_call.proofs.system-core.Migration.{OneRecord}
use Rattle.local_db.proofs.cny-base.Lists.{all_at as all_middle}
use Rattle.local_db.proofs.cny-base.OptionValues.{same_some}

split_at : (i j : ℕ) → (i ≤ j) ⊎ (j < i)
split_at zero j = inl (omega arith)
split_at (suc i) zero = inr (omega arith)
split_at (suc i) (suc j) = ⊎_elim (λ le. inl (omega (arith, le))) (λ less. inr (omega (arith, less))) (split_at i j)

-- ---- records from a number down

module _ (one : OneRecord) (x : Tree) where
  -- where some records are held, none of them is missing
  held_whole : (n : ℕ) (after before : List TroveParts) (jobs : List (List state.Entry)) → HoldsRecords Two x n after jobs before → (good : List (List state.Entry)) (middle : List TroveParts)
      → length good < length jobs → HoldsRecords Two x n after good middle → HoldsNoRecord Two x (n - length good) middle → ⊥
  held_whole n after before [] held good middle fewer holds none = absurd (omega (arith, fewer))
  held_whole n after before (es ∷ jobs) held [] middle fewer holds none =
      let first : n ≡ n - 0 = omega arith in
      none held.0 es (subst (λ (k : ℕ). HoldsRecord Two x k middle held.0 es) first
      (subst (λ (l : List TroveParts). HoldsRecord Two x n l held.0 es) (sym holds) held.1))
  held_whole n after before (es ∷ jobs) held (ds ∷ good) middle fewer holds none =
      let same = one Two x n after holds.0 held.0 ds es holds.1 held.1 in
      let less : n - suc (length good) ≡ n - 1 - length good = omega arith in
      held_whole (n - 1) held.0 before jobs held.2 good middle (omega (arith, fewer))
      (subst (λ (l : List TroveParts). HoldsRecords Two x (n - 1) l good middle) same.0 holds.2)
      (subst (λ (k : ℕ). HoldsNoRecord Two x k middle) less none)

  -- as many records are the same
  same_jobs : (n : ℕ) (after b c : List TroveParts) (jobs others : List (List state.Entry)) → length jobs ≡ length others → HoldsRecords Two x n after jobs b → HoldsRecords Two x n after others c → jobs ≡ others
  same_jobs n after b c [] [] long h g = refl
  same_jobs n after b c [] (ds ∷ others) long h g = absurd (omega (arith, long))
  same_jobs n after b c (es ∷ jobs) [] long h g = absurd (omega (arith, long))
  same_jobs n after b c (es ∷ jobs) (ds ∷ others) long h g =
      let first = one Two x n after h.0 g.0 es ds h.1 g.1 in
      let shorter : length jobs ≡ length others = omega (arith, long) in
      let tails = same_jobs (n - 1) h.0 b c jobs others shorter h.2 (subst (λ (l : List TroveParts). HoldsRecords Two x (n - 1) l others c) (sym first.0) g.2) in
      let heads = first.1 in
      λ i. heads i ∷ tails i

  -- among jobs that can be taken back the one behind these can be
  turn_taken : (n : ℕ) (after middle before last : List TroveParts) (jobs : List (List state.Entry)) (es : List state.Entry) → HoldsRecords Two x n after jobs middle → HoldsRecord Two x (n - length jobs) middle before es
      → (good : List (List state.Entry)) → length jobs < length good → HoldsRecords Two x n after good last → (m : Marks) → CanUndoAll good m → CanUndo es (undone_all jobs m)
  turn_taken n after middle before last jobs es holds here [] more held m can = absurd (omega (arith, more))
  turn_taken n after middle before last [] es holds here (ds ∷ good) more held m can =
      let first : n - 0 ≡ n = omega arith in
      let same = one Two x n after held.0 before ds es held.1
      (subst (λ (k : ℕ). HoldsRecord Two x k after before es) first (subst (λ (l : List TroveParts). HoldsRecord Two x (n - 0) l before es) holds here)) in
      subst (λ (l : List state.Entry). CanUndo l m) same.1 can.0
  turn_taken n after middle before last (fs ∷ jobs) es holds here (ds ∷ good) more held m can =
      let same = one Two x n after held.0 holds.0 ds fs held.1 holds.1 in
      let less : n - suc (length jobs) ≡ n - 1 - length jobs = omega arith in
      turn_taken (n - 1) holds.0 middle before last jobs es holds.2 (subst (λ (k : ℕ). HoldsRecord Two x k middle before es) less here) good (omega (arith, more))
      (subst (λ (l : List TroveParts). HoldsRecords Two x (n - 1) l good last) same.0 held.2) (undone fs m)
      (subst (λ (l : List state.Entry). CanUndoAll good (undone l m)) same.1 can.1)

-- ---- a saved content

-- what is saved isn't damaged
saved_whole : (x : Tree) (n : ℕ) (w : Want) (m : Mark) (path : Name) → is_staged w ≡ false → fingerprint (node_of w) ≡ m → IsSaved x n w → IsDamagedOld x n m path → ⊥
saved_whole x n w m path given marked saved damaged = at w given saved (subst (λ (k : Mark). IsDamagedOld x n k path) (sym marked) damaged)
  where
    at : (v : Want) → is_staged v ≡ false → IsSaved x n v → IsDamagedOld x n (fingerprint (node_of v)) path → ⊥
    at want.Nothing plain there h = h
    at (want.Dir mode) plain there h = h
    at (want.File mode bytes) plain there h = h.1 bytes (record { there = there; content = record { long = refl; named = refl } })
    at (want.Link target) plain there h = h
    at (want.Staged mode id size name) plain there h = absurd (cc plain)

-- ---- all jobs told

record AreTold (x : Tree) (count n : ℕ) (after : List TroveParts) : Type 0 where
  pub jobs : List (List state.Entry)
  pub before : List TroveParts
  pub long : length jobs ≡ count
  pub holds : HoldsRecords Two x n after jobs before

told_records : (x : Tree) (count n : ℕ) (after : List TroveParts) (notes : List NotedJob) → AreNotes x count n after notes → AreTold x count n after
told_records x zero n after [] are = record { jobs = []; before = after; long = refl; holds = refl }
told_records x zero n after (note ∷ notes) are = absurd are
told_records x (suc count) n after [] are = absurd are
told_records x (suc count) n after (note ∷ notes) are =
    let rest = told_records x count (n - 1) are.0 notes are.4 in
    let long = rest.long in
    record { jobs = are.1 ∷ rest.jobs; before = rest.before; long = ap suc long; holds = (are.0, are.2, rest.holds) }

pub told_whole : (one : OneRecord) (x : Tree) (db : Db) (notes : List NotedJob) → AreNotes x (job_count db.oldest db.newest) db.newest db.installed notes → NoneIs (IsDamagedOfAll x db)
told_whole one x db notes are path damaged =
    let told = told_records x (job_count db.oldest db.newest) db.newest db.installed notes are in
    let long = told.long in
    let fewer = damaged.fewer in
    held_whole one x db.newest db.installed told.before told.jobs told.holds damaged.good damaged.before (omega (arith, long, fewer)) damaged.holds damaged.none

-- ---- jobs taken back

-- a job that can be taken back isn't refused
not_both : (es : List state.Entry) (m : Marks) (why : Refusal) → CanUndo es m → IsUndoRefusal es m why → ⊥
not_both es m (Edited path) can is = all_middle (λ (e : state.Entry). IsEdited es m e → ⊥) is.front is.first is.rest (subst (All (λ (e : state.Entry). IsEdited es m e → ⊥)) is.split can.unedited) is.edited
not_both es m (Parent path) can is = can.no_orphan path is.orphan
not_both es m _ can is = absurd is

-- one is refused when its turn comes
job_refused : (one : OneRecord) (x : Tree) (db : Db) (number : ℕ) (why : Refusal) → IsRefusedJob x db number why → NoneIs (IsDamagedJob x db number)
job_refused one x db number why is path damaged = ⊎_elim earlier later (split_at (length damaged.jobs) (length is.jobs))
  where
    read : HoldsRecords Two x db.newest db.installed (is.jobs ++ is.es ∷ []) is.before
    read = records_push Two x db.newest db.installed is.after is.before is.jobs is.es is.at.holds is.holds

    earlier : length damaged.jobs ≤ length is.jobs → ⊥
    earlier few = held_whole one x db.newest db.installed is.before (is.jobs ++ is.es ∷ []) read damaged.jobs damaged.after
        (let long = length-append is.jobs (is.es ∷ []) in omega (arith, few, long)) damaged.at.holds damaged.none

    later : length is.jobs < length damaged.jobs → ⊥
    later more = not_both is.es (undone_all is.jobs (marks_of x)) why
        (turn_taken one x db.newest db.installed is.after is.before damaged.after is.jobs is.es is.at.holds is.holds damaged.jobs more damaged.at.holds (marks_of x) damaged.at.can)
        is.refused

several_refused : (one : OneRecord) (told : Bool) (x : Tree) (db : Db) (number : ℕ) → IsTrue told → (why : Refusal) → IsBackRefusal told x db number why → NoneIs (IsDamagedJob x db number)
several_refused one told x db number tells StackEmpty h path damaged =
    let some = damaged.at.on_stack.some in
    let kept = damaged.at.on_stack.kept in
    let made = damaged.at.on_stack.made in
    omega (arith, some, kept, made, h)
several_refused one told x db number tells (NoJob n) h path damaged =
    let kept = damaged.at.on_stack.kept in
    let made = damaged.at.on_stack.made in
    ⊎_elim (λ low. omega (arith, kept, low)) (λ high. omega (arith, made, high)) h.2
several_refused one told x db number tells _ h path damaged = job_refused one x db number _ (h.1 tells) path damaged

-- all were taken back
module _ (one : OneRecord) (x : Tree) (db : Db) (number : ℕ) (step : Back) (is : IsStepTo x db number step) where
  no_record : NoneIs (IsDamagedJob x db number)
  no_record path damaged =
      let count = is.jobs_are.count in
      let above = damaged.at.above in
      held_whole one x db.newest db.installed is.before is.jobs is.jobs_are.holds damaged.jobs damaged.after (omega (arith, count, above)) damaged.at.holds damaged.none

  abbrev IsOldPut : Put → Type 0
  IsOldPut p = (n : ℕ) × (oldest_with db.newest is.jobs p.path ≡ Some n) × IsOldWant x n (undone_all is.jobs (marks_of x) p.path) p.want

  no_content : NoneIs (IsUnsavedContent x db number)
  no_content path content = ⊎_elim
      (λ stays. subst (λ (m : Mark). IsDamagedOld x content.job m path) stays.wanted damaged)
      (λ wanted. written wanted.0 (All-contains IsOldPut is.nodes (record { path = content.place; want = wanted.0 }) is.nodes_are.old wanted.1))
      (is.nodes_are.all content.place content.job named)
    where
      same : content.jobs ≡ is.jobs
      same =
          let mine = is.jobs_are.count in
          let its = content.count in
          same_jobs one x db.newest db.installed content.before is.before content.jobs is.jobs (omega (arith, mine, its)) content.holds is.jobs_are.holds

      named : oldest_with db.newest is.jobs content.place ≡ Some content.job
      named = subst (λ (l : List (List state.Entry)). oldest_with db.newest l content.place ≡ Some content.job) same content.named

      damaged : IsDamagedOld x content.job (undone_all is.jobs (marks_of x) content.place) path
      damaged = subst (λ (l : List (List state.Entry)). IsDamagedOld x content.job (undone_all l (marks_of x) content.place) path) same content.damaged

      written : (w : Want) → IsOldPut (record { path = content.place; want = w }) → ⊥
      written w old =
          let job_is : old.0 ≡ content.job = same_some old.0 content.job (sym old.1 ∙ named) in
          let put : IsOldWant x content.job (undone_all is.jobs (marks_of x) content.place) w = subst (λ (k : ℕ). IsOldWant x k (undone_all is.jobs (marks_of x) content.place) w) job_is old.2 in
          saved_whole x content.job w (undone_all is.jobs (marks_of x) content.place) path put.marked.given put.marked.marked put.bytes damaged

-- ---- how the commands end

-- all jobs told
list_stop : (told : Bool) (x : Tree) (db : Db) (count n : ℕ) (after : List TroveParts) (rose : Type 0) (e : Stop) → IsAllStop told x count n after rose e → ListsWhole {A = List ℕ} x db (Err (root_failure e))
list_stop told x db count n after rose (stop.Refused why) h = absurd h
list_stop told x db count n after rose _ h = tt

pub list_failed : (told : Bool) (x : Tree) (db : Db) (count n : ℕ) (after : List TroveParts) (rose : Type 0) (r : Result (List NotedJob) Stop) (f : Failure) → root_result r ≡ Err f → IfErr r (IsAllStop told x count n after rose) → ListsWhole {A = List ℕ} x db (Err f)
list_failed told x db count n after rose (Ok jobs) f is h = absurd (cc is)
list_failed told x db count n after rose (Err e) f is h = subst (λ (y : Result (List NotedJob) Failure). IfErr y (λ g. ListsWhole {A = List ℕ} x db (Err g))) is (list_stop told x db count n after rose e h)

-- jobs taken back
module _ {T : Type 0} (root_disk : DiskModel T) (root root' : T) (db db' : Db) (one : OneRecord) (number : Option ℕ) (told : IsTrue root_disk.tells) where
  abbrev Whole : Result (List ℕ) Failure → Type 0
  Whole r = TakesBackWhole {A = List ℕ} number (root_disk.reads root) db r

  back_stop : (e : Stop) → StopsTo root_disk db (last_job number db) root root' e → Whole (Err (root_failure e))
  back_stop (stop.Refused why) h = several_refused one root_disk.tells (root_disk.reads root) db (last_job number db) told why h.answer
  back_stop _ h = tt

  stop_at : (r : Result ℕ Stop) (f : Failure) → root_result r ≡ Err f → IfErr r (StopsTo root_disk db (last_job number db) root root') → Whole (Err f)
  stop_at (Ok n) f is h = absurd (cc is)
  stop_at (Err e) f is h = subst (λ (x : Result ℕ Failure). IfErr x (λ g. Whole (Err g))) is (back_stop e h)

  done_at : (r : Result ℕ Stop) (n : ℕ) → root_result r ≡ Ok n → IfOk r (HasTakenBackTo root_disk db db' (last_job number db) root root') → Whole (Ok [])
  done_at (Ok m) n is h path damaged = ⊎_elim
      (no_record one (root_disk.reads root) db (last_job number db) h.step h.step_is path)
      (no_content one (root_disk.reads root) db (last_job number db) h.step h.step_is path)
      damaged
  done_at (Err e) n is h path damaged = absurd (cc is)

  module _ (last : ℕ) (last_is : last ≡ last_job number db) (r : Result ℕ Stop) where
    pub back_failed : (f : Failure) → root_result r ≡ Err f → IfErr r (StopsTo root_disk db last root root') → Whole (Err f)
    back_failed f is h = stop_at r f is (subst (λ (n : ℕ). IfErr r (StopsTo root_disk db n root root')) last_is h)

    pub back_done : (n : ℕ) → root_result r ≡ Ok n → IfOk r (HasTakenBackTo root_disk db db' last root root') → Whole (Ok [])
    back_done n is h = done_at r n is (subst (λ (k : ℕ). IfOk r (HasTakenBackTo root_disk db db' k root root')) last_is h)
