-- How a job ends by the root's tree and its database, also on a root that stores no system.
use Rattle.std.proofs.Common.{◌≡◌, ⊎_elim, inl, inr, ℕ, ◌≤◌, false, List, Option, Some, None, Result, Ok, Err, IfErr, All, refl, sym, ap, ◌∙◌, subst, arith}
use Rattle.std.specs.FinMap.{get}
use Rattle.std.specs.Prelude.{◌≢◌, Contains, IsTrue}
use Rattle.std.proofs.lemmas.List.Elements.{All-contains, All-contains_itself, All-weaker}
use Rattle.cli_call.specs.cny-base.Count.{Rose}
use Rattle.cli_call.specs.cny-base.declared.limits.TheConstants.{JOBS_LIMIT}
use Rattle.cli_call.specs.cny-base.declared.refusal.Refusal.{Refusal}
use Rattle.cli_call.specs.cny-base.declared.stop.Stop.{Stop}
use Rattle.cli_call.specs.cny-base.declared.stop.Stop.TheVariants as stop
use Rattle.cli_call.specs.cny-base.Reserved.{is_reserved}
use Rattle.cli_call.specs.journal-log.declared.put.Put.{Put}
use Rattle.cli_call.specs.journal-log.Targets.{with_targets}
use Rattle.cli_call.specs.tree-disk.Confined.{LeavesOnly}
use Rattle.cli_call.specs.tree-disk.Disk.{DiskModel, HasRead, IsDisk}
use Rattle.cli_call.specs.tree-disk.Tree.{Name, Tree}
use Rattle.cli_call.proofs.tree-disk.ConfinedLaws.{leaves_weaker}
use Rattle.cli_call.specs.trove-stream.Trove.{IsTrove}
use Rattle.cli_call.specs.trove-stream.declared.parts.TroveParts.{TroveParts}
use Rattle.local_db.proofs.cny-base.Lists.{contains_at}
use Rattle.local_db.specs.declared.db.Db.{Db}
use Rattle.local_db.specs.declared.format.Format.TheVariants.{Two}
use Rattle.local_db.specs.Steps.{after_job, old_of}
use Rattle.local_db.specs.Stores.{HoldsDatabase}
use Rattle.repo_load.specs.Files.{HoldsCatalogue}
use Rattle.repo_load.specs.State.{catalogue_of}
use Rattle.local_db.specs.SystemState.{newest, IsSystemState}
use Rattle.update_job.specs.declared.comparing.Change.{Change}
use Rattle.update_job.specs.Changes.{AreChanges}
use Rattle.update_job.specs.Lists.{IsErased, IsOld, IsUpdated, Stays}
use Rattle.cli_call.specs.system-core.declared.done.Done.{Done}
use Rattle.cli_call.specs.system-core.Answers.{AnswersCall, AnswersDone, AnswersRefusal, DoneMoves, HasWrites, StepMoves, collided, last, moves, no_list, only_read, untested}
use Rattle.cli_call.specs.system-core.Job as job
use Rattle.cli_call.specs.system-core.Job.{IsTestRefusal, IsTested, PassesTests, Sources, db_of}
use Rattle.cli_call.specs.system-core.JobWriting.{AnswersJob, MovesTrees, RecoversToHeld}
use Rattle.cli_call.specs.system-core.Last.{ChangesNeither, IsRefusedLast, PassesLast, db_after}
use Rattle.cli_call.specs.system-core.Lists.{ListStep}
use Rattle.cli_call.specs.system-core.Steps as steps
use Rattle.cli_call.specs.system-core.Steps.{HasOwnCause, IsRefusal}
use Rattle.cli_call.proofs.system-core.CallLaws.{erased_allowed, updated_allowed}
use Rattle.cli_call.proofs.system-core.JobNumbers.{number_is, oldest_pushed}
use Rattle.cli_call.proofs.system-core.Managed.{IsManaged, KeepsOut}
use Rattle.cli_call.proofs.system-core.ManagedTargets.{test_refusal_managed, tested_managed}
use Rattle.cli_call.proofs.system-core.TreesMoved.{targets_alike}
use Rattle.cny_report.specs.Jobs.{changes_text}
use Rattle.cli_call.specs.cny-laws.declared.failure.Failure.{Failure}
use Rattle.cli_call.specs.cny-laws.declared.failure.Failure.TheVariants as failure
use Rattle.cli_call.specs.cny-laws.declared.opened.Opened.{Opened}
use Rattle.cli_call.specs.cny-laws.Call.{HasOpened, IsHeldOf}
use Rattle.cli_call.specs.cny-laws.Report.{status_of}
use Rattle.cli_call.specs.cny-laws.State.{nothing, on_root, tree_of, IsNext, Meaning, RootState, State}
use Rattle.cli_call.specs.cny-laws.Stops.{root_failure, root_result}
use Rattle.cli_call.specs.Alone.{AnswersByOpened, AnswersOpened}
use Rattle.cli_call.specs.Command.{AnswersAs, AreReady, disks}
use Rattle.cli_call.proofs.OpenedEnds.{catalogue_held, database_held, root_moments, same_holds}
use Rattle.cli_call.proofs.RootResults.{root_ok}
use Rattle.root_commands.specs.JobOutcome.{JobOutcome}
use Rattle.root_commands.proofs.SpecifiedEnds.{reads_refused}

-- ---- lists that may follow

stays_trove : (list : List TroveParts) (IsNamed : List ℕ → Type 0) (t : TroveParts) → All IsTrove list → Stays list IsNamed t → IsTrove t
stays_trove list IsNamed t all stays = All-contains IsTrove list t all (contains_at list stays.place t stays.there)

-- what an update leads to keeps the rules of troves, and records no path that no trove may record
pub updated_out : (installed come list : List TroveParts) → KeepsOut installed → KeepsOut come → IsUpdated installed come list → KeepsOut list
updated_out installed come list old fresh is = record {
  troves = All-weaker (Contains list) IsTrove
      (λ t among. ⊎_elim
      (λ (new : Contains come t). All-contains IsTrove come t fresh.troves new)
      (λ (was : IsOld installed come t). stays_trove installed _ t old.troves was.stays)
      (is.from t among))
      list (All-contains_itself list);
  allowed = updated_allowed installed come list old.allowed fresh.allowed is;
}

-- nor an erasure
pub erased_out : (installed : List TroveParts) (names : List (List ℕ)) (list : List TroveParts) → KeepsOut installed → IsErased installed names list → KeepsOut list
erased_out installed names list old is = record {
  troves = All-weaker (Contains list) IsTrove (λ t among. stays_trove installed _ t old.troves (is.stays t among)) list (All-contains_itself list);
  allowed = erased_allowed installed names list old.allowed is;
}

-- ---- the database after a job

-- it is that of the system after it
after_database : (s : RootState) → IsSystemState s → (puts : List Put) (list : List TroveParts) → newest s.stack ≢ JOBS_LIMIT → db_after (db_of s) list ≡ db_of (after_job puts list s)
after_database s system puts list room =
    let low = oldest_pushed (old_of puts s) s.stack system.numbered system.few refl system.number room in
    let high = number_is (newest s.stack) system.number room in
    λ i. record { installed = list; oldest = sym low i; newest = high i }

-- ---- how a job ends

-- the effect of a job
job_effect : (from : Sources) (step : ListStep) (s : RootState) (list : List TroveParts) → step.leads list → (puts : List Put) → PassesTests from s list puts → (changes : List Change) → AreChanges s.installed list changes → PassesLast (db_of s) list puts
    → JobOutcome from step s (Ok (record { change = on_root (after_job puts list s); out = changes_text changes }))
job_effect from step s list leads puts passes changes are passed = record { list = list; leads = leads; puts = puts; passes = passes; changes = changes; are = are; change = inr (passed, refl); out = refl }

module _ {T P : Type 0} {root_disk : DiskModel T} {repo_disk : DiskModel P} (root_disk_laws : IsDisk root_disk) (root root' : T) (repo repo' : P) (opened opened' : Opened) (ready : AreReady root_disk repo_disk (disks root repo opened)) (same_repo : IsTrue repo_disk.tells → repo_disk.reads repo' ≡ repo_disk.reads repo)
    (from : Sources) (step : List TroveParts → ListStep) (keeps : (list : List TroveParts) → (step opened.db.installed).leads list → KeepsOut list) where
  abbrev means : Meaning
  means = record { takes_input = false; IsOutcome = λ s input. JobOutcome from (step s.root.installed) s.root }

  abbrev pub Answered : List ℕ → Result (List ℕ) Failure → Type 0
  Answered input f = AnswersByOpened root_disk repo_disk means input (disks root repo opened) (disks root' repo' opened') f

  -- on one state
  abbrev pub AnsweredOn : State → Result (List ℕ) Failure → Type 0
  AnsweredOn s f = AnswersOpened root_disk repo_disk (JobOutcome from (step s.root.installed) s.root) s (disks root repo opened) (disks root' repo' opened') f

  abbrev pub Calls : Result Done Stop → Type 0
  Calls r = AnswersCall root_disk from (step opened.db.installed) opened.db root root' opened'.db r

  abbrev pub Moves : Type 0
  Moves = IsTrue root_disk.tells → StepMoves root_disk from (step opened.db.installed) opened.db root root'

  olds : KeepsOut opened.db.installed
  olds = record { troves = ready.database.installed.troves; allowed = ready.database.installed.allowed }

  -- ---- by a state that has the tree and the database

  module _ (told : IsTrue root_disk.tells) (s : State) (has : HasOpened root_disk root opened s) where
    list_is : opened.db.installed ≡ s.root.installed
    list_is = sym (ap (λ (d : Db). d.installed) has.database)

    managed : IsManaged (root_disk.reads root) s.root.tree
    managed = record { formed = root_disk_laws.reads_well_formed root; managed_formed = has.system.tree; agrees = has.outer; empty = has.system.managed }

    leads_in : (list : List TroveParts) → (step opened.db.installed).leads list → (step s.root.installed).leads list
    leads_in list leads = subst (λ (l : List TroveParts). (step l).leads list) list_is leads

    passes_in : (list : List TroveParts) → KeepsOut list → (puts : List Put) → HasWrites from opened.db.installed list (root_disk.reads root) puts → PassesTests from s.root list puts
    passes_in list out puts writes = (
      writes.0,
      writes.1,
      subst (λ (l : List TroveParts). IsTested from l list s.root.tree writes.0) list_is (tested_managed from opened.db.installed list (root_disk.reads root) s.root.tree managed olds out writes.0 writes.2),
    )

    refused_in : (why : Refusal) → AnswersRefusal root_disk from (step opened.db.installed) opened.db root root' why → IsRefusal from (step s.root.installed) s.root why
    refused_in why (no_list is same) = steps.no_list (subst (λ (l : List TroveParts). (step l).refuses why) list_is is)
    refused_in why (untested list leads is reads) =
        steps.no_job list (leads_in list leads) (job.untested (subst (λ (l : List TroveParts). IsTestRefusal from l list s.root.tree why) list_is
        (test_refusal_managed from opened.db.installed list (root_disk.reads root) s.root.tree managed olds (keeps list leads) why (reads told).answer)))
    refused_in why (last list leads passes puts refused reads) =
        steps.no_job list (leads_in list leads) (job.last puts (passes_in list (keeps list leads) puts (reads told).answer) (subst (λ (d : Db). IsRefusedLast d list puts why) (sym has.database) refused))
    refused_in why (collided list leads passes puts collides) = absurd (collides.collision.untold told)

    -- ---- what a crash leaves

    still : HasRead root_disk root root' (Unit {0}) → (next : State) → IsTrue root_disk.tells → LeavesOnly root_disk root root' (IsHeldOf s next)
    still read next = root_moments root_disk_laws (disks root repo opened) (disks root' repo' opened') ready (λ t. read) s next has

    abbrev after : List Put → List TroveParts → State
    after puts list = record { root = after_job puts list s.root; repository = s.repository }

    passed_in : (list : List TroveParts) (puts : List Put) → PassesLast opened.db list puts → PassesLast (db_of s.root) list puts
    passed_in list puts passed = subst (λ (b : Db). PassesLast b list puts) (sym has.database) passed

    database_after : (list : List TroveParts) (puts : List Put) → PassesLast opened.db list puts → db_after opened.db list ≡ db_of (after_job puts list s.root)
    database_after list puts passed = let room = passed_in list puts passed in ap (λ (b : Db). db_after b list) (sym has.database) ∙ after_database s.root has.system puts list room.room

    outer_after : (puts : List Put) (q : Name) → is_reserved q ≡ false → get (with_targets puts (root_disk.reads root)) q ≡ get (with_targets puts s.root.tree) q
    outer_after puts q out = targets_alike puts (root_disk.reads root) s.root.tree q (has.outer q out)

    moved : (list : List TroveParts) (puts : List Put) → PassesLast opened.db list puts → MovesTrees root_disk puts opened.db (db_after opened.db list) root root' → LeavesOnly root_disk root root' (IsHeldOf s (after puts list))
    moved list puts passed goes = leaves_weaker (λ image h. ⊎_elim (λ was. inl (before image was)) (λ now. inr (behind image now)) h) goes
      where
        before : (image : Tree) → RecoversToHeld (root_disk.reads root) opened.db image → RecoversToHeld (tree_of s.root) (db_of s.root) image
        before image was = record {
          recovered = was.recovered;
          recovers = was.recovers;
          outer = λ q out. was.outer q out ∙ has.outer q out;
          holds = subst (λ (b : Db). HoldsDatabase Two was.recovered b.installed b.oldest b.newest) (sym has.database) was.holds;
        }

        behind : (image : Tree) → RecoversToHeld (with_targets puts (root_disk.reads root)) (db_after opened.db list) image → RecoversToHeld (tree_of (after_job puts list s.root)) (db_of (after_job puts list s.root)) image
        behind image now = record {
          recovered = now.recovered;
          recovers = now.recovers;
          outer = λ q out. now.outer q out ∙ outer_after puts q out;
          holds = subst (λ (b : Db). HoldsDatabase Two now.recovered b.installed b.oldest b.newest) (database_after list puts passed) now.holds;
        }

    -- ---- it is done, and this was told

    module _ (made : Done) (text : List ℕ) (text_is : text ≡ changes_text made.changes) (d : AnswersDone root_disk from (step opened.db.installed) opened.db root root' opened'.db made) (held : HoldsDatabase Two (root_disk.reads root') opened'.db.installed opened'.db.oldest opened'.db.newest) where
      passes : PassesTests from s.root d.list d.puts
      passes = passes_in d.list (keeps d.list d.leads) d.puts (d.tested told)

      are : AreChanges s.root.installed d.list made.changes
      are = subst (λ (l : List TroveParts). AreChanges l d.list made.changes) list_is d.changes

      held_by : (db : Db) → opened'.db ≡ db → HoldsDatabase Two (root_disk.reads root') db.installed db.oldest db.newest
      held_by db is = subst (λ (b : Db). HoldsDatabase Two (root_disk.reads root') b.installed b.oldest b.newest) is held

      catalogue_stays : IsTrue repo_disk.tells → HoldsCatalogue (repo_disk.reads repo') (catalogue_of s.repository.commits)
      catalogue_stays t = catalogue_held root opened s has (repo_disk.reads repo') (subst (λ (u : Tree). HoldsCatalogue u opened.catalogue) (sym (same_repo t)) (ready.repo t).catalogue)

      by_number : (number : Option ℕ) → AnswersJob opened.db d.list d.puts opened'.db (Ok number) → DoneMoves root_disk d.puts opened.db d.list root root' number → AnsweredOn s (Ok text)
      by_number None answers read =
          let none : ChangesNeither (db_of s.root) d.list d.puts = subst (λ (b : Db). ChangesNeither b d.list d.puts) (sym has.database) answers.1 in
          record {
            next = s;
            answers = record {
              effect = record { change = nothing; out = changes_text made.changes };
              is = record {
                list = d.list;
                leads = leads_in d.list d.leads;
                puts = d.puts;
                passes = passes;
                changes = made.changes;
                are = are;
                change = inl (none, refl);
                out = refl;
              };
              leads = refl;
              bytes = sym text_is;
            };
            holds = λ le. record {
              outer = λ t q out. ap (λ (u : Tree). get u q) read.same.reads ∙ has.outer q out;
              database = λ t. database_held root opened s has (root_disk.reads root') (held_by opened.db answers.0);
              catalogue = catalogue_stays;
            };
            moments = still read s;
          }
      by_number (Some number) answers goes = record {
        next = after d.puts d.list;
        answers = record {
          effect = record { change = on_root (after_job d.puts d.list s.root); out = changes_text made.changes };
          is = job_effect from (step s.root.installed) s.root d.list (leads_in d.list d.leads) d.puts passes made.changes are (passed_in d.list d.puts answers.2);
          leads = refl;
          bytes = sym text_is;
        };
        holds = λ le. record {
          outer = λ t q out. d.outer t q out ∙ outer_after d.puts q out;
          database = λ t. held_by (db_of (after_job d.puts d.list s.root)) (answers.1 ∙ database_after d.list d.puts answers.2);
          catalogue = catalogue_stays;
        };
        moments = λ t. moved d.list d.puts answers.2 goes;
      }

      pub done_in : AnsweredOn s (Ok text)
      done_in = by_number made.number d.answers (d.moments told)

      -- no memory was left to tell it
      pub untold_in : AnsweredOn s (Err failure.Memory)
      untold_in =
          let by = done_in in
          let takes = by.answers in
          record { next = by.next; answers = inr (record { effect = takes.effect; is = takes.is; leads = takes.leads; bytes = tt }); holds = λ le. absurd (omega (arith, le)); moments = by.moments }

    -- ---- it stopped

    -- so far the root was only read, or it was on its way
    on_the_way : (f : Failure) → (status_of (Err f) ≤ 4 → ⊥) → ((next : State) → IsNext (JobOutcome from (step s.root.installed) s.root) s next → AnswersAs (JobOutcome from (step s.root.installed) s.root) s next (Err f))
        → StepMoves root_disk from (step opened.db.installed) opened.db root root' → AnsweredOn s (Err f)
    on_the_way f high answers (only_read read) = record { next = s; answers = answers s (inl refl); holds = λ le. absurd (high le); moments = still read s }
    on_the_way f high answers (moves list leads puts writes passed changes are goes) = record {
      next = after puts list;
      answers = answers (after puts list) (inr (record {
        effect = record { change = on_root (after_job puts list s.root); out = changes_text changes };
        is = job_effect from (step s.root.installed) s.root list (leads_in list leads) puts (passes_in list (keeps list leads) puts writes) changes (subst (λ (l : List TroveParts). AreChanges l list changes) list_is are) (passed_in list puts passed);
        leads = refl;
        bytes = tt;
      }));
      holds = λ le. absurd (high le);
      moments = λ t. moved list puts passed goes;
    }

    pub stopped_in : (e : Stop) → Calls (Err e) → Moves → status_of (Err (root_failure e)) ≤ 7 → AnsweredOn s (Err (root_failure e))
    stopped_in (stop.Refused why) calls goes whole =
        let read = reads_refused root_disk_laws from (step opened.db.installed) opened.db root root' opened'.db (Err (stop.Refused why)) calls in
        record {
          next = s;
          answers = (refused_in why calls, refl);
          holds = λ le. same_holds (disks root repo opened) (disks root' repo' opened') ready (λ t. let at = read t in at.same.reads) same_repo s has;
          moments = still (read told) s;
        }
    stopped_in stop.Failed calls goes whole = on_the_way failure.RootFault (λ le. omega (arith, le)) (λ next is. is) (goes told)
    stopped_in stop.Memory calls goes whole = on_the_way failure.Memory (λ le. omega (arith, le)) (λ next is. is) (goes told)
    stopped_in (stop.Damaged path) calls goes whole = absurd calls
    stopped_in stop.FarFailed calls goes whole = record { next = s; answers = inl refl; holds = λ le. absurd (omega (arith, le)); moments = still (calls.1 told) s }
    stopped_in (stop.FarDamaged path) calls goes whole = absurd (omega (arith, whole))

  -- ---- by the result

  stopped : (input : List ℕ) (e : Stop) → Calls (Err e) → Moves → HasOwnCause (Rose (root_disk.faults root) (root_disk.faults root')) e → Answered input (Err (root_failure e))
  stopped input (stop.Refused why) calls goes cause = λ told s has. stopped_in told s has (stop.Refused why) calls goes (omega arith)
  stopped input stop.Failed calls goes cause = λ told s has. stopped_in told s has stop.Failed calls goes (omega arith)
  stopped input stop.Memory calls goes cause = λ told s has. stopped_in told s has stop.Memory calls goes (omega arith)
  stopped input (stop.Damaged path) calls goes cause = absurd calls
  stopped input stop.FarFailed calls goes cause = absurd cause
  stopped input (stop.FarDamaged path) calls goes cause = absurd cause

  pub failed_opened : (input : List ℕ) (r : Result Done Stop) (f : Failure) → root_result r ≡ Err f → Calls r → Moves → IfErr r (HasOwnCause (Rose (root_disk.faults root) (root_disk.faults root'))) → Answered input (Err f)
  failed_opened input (Ok made) f is calls goes causes = absurd (cc is)
  failed_opened input (Err e) f is calls goes causes = subst (λ (x : Result Done Failure). IfErr x (λ k. Answered input (Err k))) is (stopped input e calls goes causes)

  pub told_opened : (input : List ℕ) (r : Result Done Stop) (made : Done) (text : List ℕ) → root_result r ≡ Ok made → Calls r → (IsTrue root_disk.tells → HoldsDatabase Two (root_disk.reads root') opened'.db.installed opened'.db.oldest opened'.db.newest) → text ≡ changes_text made.changes → Answered input (Ok text)
  told_opened input r made text is calls held text_is = λ told s has. done_in told s has made text text_is (subst Calls (root_ok r made is) calls) (held told)

  pub untold_opened : (input : List ℕ) (r : Result Done Stop) (made : Done) → root_result r ≡ Ok made → Calls r → (IsTrue root_disk.tells → HoldsDatabase Two (root_disk.reads root') opened'.db.installed opened'.db.oldest opened'.db.newest) → Answered input (Err failure.Memory)
  untold_opened input r made is calls held = λ told s has. untold_in told s has made (changes_text made.changes) refl (subst Calls (root_ok r made is) calls) (held told)
