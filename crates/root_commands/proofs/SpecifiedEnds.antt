-- How a command ends that is a job without contents behind it.
use Rattle.std.proofs.Common.{◌≡◌, ◌≤◌, ℕ, false, List, Result, Ok, Err, OnOk, IfErr, refl, sym, subst, arith}
use Rattle.std.specs.Prelude.{IsTrue}
use Rattle.cli_call.specs.cny-base.Count.{Rose}
use Rattle.cli_call.specs.cny-base.declared.refusal.Refusal.{Refusal}
use Rattle.cli_call.specs.cny-base.declared.stop.Stop.{Stop}
use Rattle.cli_call.specs.cny-base.declared.stop.Stop.TheVariants as stop
use Rattle.cli_call.specs.tree-disk.Disk.{DiskModel, IsDisk, HasRead}
use Rattle.local_db.specs.declared.db.Db.{Db}
use Rattle.local_db.specs.declared.format.Format.TheVariants.{Two}
use Rattle.local_db.specs.Stores.{StoresIn}
use Rattle.cli_call.specs.system-core.Opening.{IsSettledRoot}
use Rattle.cli_call.specs.system-core.declared.done.Done.{Done}
use Rattle.cli_call.specs.system-core.Answers.{AnswersCall, AnswersRefusal, collided, no_list, untested, last}
use Rattle.cli_call.specs.system-core.Job.{Sources}
use Rattle.cli_call.specs.system-core.Lists.{ListStep}
use Rattle.cli_call.specs.system-core.Steps.{StepEnds, HasOwnCause}
use Rattle.cny_report.specs.Jobs.{changes_text}
use Rattle.cli_call.specs.cny-laws.declared.failure.Failure.{Failure}
use Rattle.cli_call.specs.cny-laws.declared.failure.Failure.TheVariants as failure
use Rattle.cli_call.specs.cny-laws.declared.opened.Opened.{Opened}
use Rattle.cli_call.specs.Alone.{PerformsAlone}
use Rattle.cli_call.proofs.ChangingRoot.{ChangesRoot, alone_on_root, performs_on_root}
use Rattle.cli_call.specs.Command.{disks, AreReady, HasFailureCause, Performs, end_of}
use Rattle.cli_call.specs.cny-laws.Report.{ChangesNothing as KeepsAll, status_of}
use Rattle.cli_call.specs.cny-laws.State.{Effect, Meaning, RootState, State}
use Rattle.cli_call.specs.cny-laws.Stops.{root_failure, root_result}
use Rattle.cli_call.specs.cny-laws.Store.{IsSettled, IsStore, NamesDamaged, RestsAt}
use Rattle.cli_call.proofs.StoreLaws.{nothing_done, read_settled}
use Rattle.cli_call.specs.cny-laws.Stores.{root_store, repository_store}
use Rattle.cli_call.proofs.RootResults.{root_ok, same_failure}
use Rattle.root_commands.specs.JobOutcome.{JobOutcome}
use Rattle.root_commands.proofs.Answering.{stored_two}
use Rattle.root_commands.proofs.JobStates as states
use Rattle.root_commands.proofs.JobStates.{IsUndamaged}
use Rattle.cli_call.proofs.system-core.Held.{OneDatabase}

-- what a refusal leaves, or a stop at a damaged content, on each root
abbrev pub ReadsAtRefusal : {D : Type 0} → DiskModel D → D → D → Stop → Type 0
ReadsAtRefusal disk old new (stop.Refused why) = HasRead disk old new (Unit {0})
ReadsAtRefusal disk old new (stop.FarDamaged path) = HasRead disk old new (Unit {0})
ReadsAtRefusal disk old new _ = Unit {0}

module _ {D : Type 0} {disk : DiskModel D} (laws : IsDisk disk) (from : Sources) (step : ListStep) (db : Db) (old new : D) (now : Db) where
  refused_read : (why : Refusal) → AnswersRefusal disk from step db old new why → IsTrue disk.tells → HasRead disk old new (Unit {0})
  refused_read why (no_list is same) told = subst (λ (d : D). HasRead disk old d (Unit {0})) (sym same) (nothing_done laws old)
  refused_read why (untested list leads is reads) told = let read = reads told in record { answer = tt; same = read.same; time = read.time }
  refused_read why (collided list leads passes puts collides) told = absurd (collides.collision.untold told)
  refused_read why (last list leads passes puts refused reads) told = let read = reads told in record { answer = tt; same = read.same; time = read.time }

  read_at : (e : Stop) → AnswersCall disk from step db old new now (Err e) → IsTrue disk.tells → ReadsAtRefusal disk old new e
  read_at (stop.Refused why) answers told = refused_read why answers told
  read_at (stop.FarDamaged path) answers told = answers.1 told
  read_at _ answers told = tt

  pub reads_refused : (r : Result Done Stop) → AnswersCall disk from step db old new now r → IsTrue disk.tells → IfErr r (ReadsAtRefusal disk old new)
  reads_refused (Ok made) answers told = tt
  reads_refused (Err e) answers told = read_at e answers told

-- no content lies behind it
own_undamaged : (rose : Type 0) (e : Stop) → HasOwnCause rose e → IsUndamaged e
own_undamaged rose (stop.FarDamaged path) cause = cause
own_undamaged rose _ cause = tt

-- a job ran: by each system that the root stores, and on each root
pub record Ran {T : Type 0} (root_disk : DiskModel T) (from : Sources) (step : RootState → ListStep) (root root' : T) (now : Db) (r : Result Done Stop) : Type 0 where
  pub ends : IsTrue root_disk.tells → (s : RootState) → StoresIn Two (root_disk.reads root) s → StepEnds root_disk from (step s) s root root' now r
  pub rests : IsTrue root_disk.tells → OnOk r (IsSettledRoot root_disk root')
  pub refused : IsTrue root_disk.tells → IfErr r (ReadsAtRefusal root_disk root root')
  pub causes : IfErr r (HasOwnCause (Rose (root_disk.faults root) (root_disk.faults root')))
  pub later : root_disk.faults root ≤ root_disk.faults root'

module _ {T P : Type 0} {root_disk : DiskModel T} (root_disk_laws : IsDisk root_disk) (law : OneDatabase) (root root' : T) (repo : P) (repo_disk : DiskModel P) (opened opened' : Opened) (ready : AreReady root_disk repo_disk (disks root repo opened))
    (from : Sources) (step : RootState → ListStep) where
  abbrev Runs : Result Done Stop → Type 0
  Runs r = Ran root_disk from step root root' opened'.db r

  abbrev IsOutcome : RootState → Result Effect Refusal → Type 0
  IsOutcome s = JobOutcome from (step s) s

  -- ---- by a state that the root stores

  module _ (told : IsTrue root_disk.tells) (s : State) (rests : RestsAt root_store root_disk root s.root) where
    stopped : (e : Stop) → Runs (Err e) → ChangesRoot root_disk (IsOutcome s.root) s root root' (Err (root_failure e))
    stopped e ran = states.stopped root_disk_laws root root' opened'.db from (step s.root) s rests e (ran.ends told s.root (stored_two law (disks root repo opened) ready told rests)) (own_undamaged (Rose (root_disk.faults root) (root_disk.faults root')) e ran.causes)

    told_text : (made : Done) (text : List ℕ) → text ≡ changes_text made.changes → Runs (Ok made) → ChangesRoot root_disk (IsOutcome s.root) s root root' (Ok text)
    told_text made text is ran = states.told_text root_disk_laws root root' opened'.db from (step s.root) s rests made text is (ran.ends told s.root (stored_two law (disks root repo opened) ready told rests))

    untold_text : (made : Done) → Runs (Ok made) → ChangesRoot root_disk (IsOutcome s.root) s root root' (Err failure.Memory)
    untold_text made ran = states.untold_text root_disk_laws root root' opened'.db from (step s.root) s rests made (ran.ends told s.root (stored_two law (disks root repo opened) ready told rests))

  -- ---- on each root

  caused : (e : Stop) → Runs (Err e) → HasFailureCause root_disk repo_disk (disks root repo opened) (disks root' repo opened') (Err (root_failure e))
  caused (stop.Refused why) ran = tt
  caused stop.Failed ran = ran.causes
  caused stop.Memory ran = tt
  caused (stop.Damaged path) ran = absurd ran.causes
  caused stop.FarFailed ran = absurd ran.causes
  caused (stop.FarDamaged path) ran = absurd ran.causes

  -- no damaged file is named
  abbrev Named : Result (List ℕ) Failure → Type 0
  Named f = NamesDamaged root_store root_disk root' f

  names : (e : Stop) → Runs (Err e) → Named (Err (root_failure e))
  names (stop.Refused why) ran = λ path named. absurd (cc named)
  names stop.Failed ran = λ path named. absurd (cc named)
  names stop.Memory ran = λ path named. absurd (cc named)
  names (stop.Damaged path) ran = absurd ran.causes
  names stop.FarFailed ran = absurd ran.causes
  names (stop.FarDamaged path) ran = absurd ran.causes

  settles : (e : Stop) → Runs (Err e) → status_of (Err (root_failure e)) ≤ 4 → IsTrue root_disk.tells → IsSettled root_disk root_store.base root'
  settles (stop.Refused why) ran le told = read_settled (ran.refused told) (ready.root told).flag_clear (ready.root told).synced
  settles _ ran le told = absurd (omega (arith, le))

  keeps : (e : Stop) → Runs (Err e) → KeepsAll (Err (root_failure e)) → IsTrue root_disk.tells → root_disk.reads root' ≡ root_disk.reads root
  keeps (stop.Refused why) ran none told = let read = ran.refused told in read.same.reads
  keeps (stop.Damaged path) ran none told = absurd ran.causes
  keeps stop.Failed ran none told = absurd none
  keeps stop.Memory ran none told = absurd none
  keeps stop.FarFailed ran none told = absurd none
  keeps (stop.FarDamaged path) ran none told = absurd ran.causes

  settled_done : (made : Done) → Runs (Ok made) → IsTrue root_disk.tells → IsSettled root_disk root_store.base root'
  settled_done made ran told = let rests = ran.rests told in record { flag_clear = rests.flag_clear; synced = rests.synced }

  -- ---- the clauses

  module _ (input : List ℕ) where
    abbrev means : Meaning
    means = record { takes_input = false; IsOutcome = λ s given. IsOutcome s.root }

    abbrev Alone : Result (List ℕ) Failure → Type 0
    Alone f = PerformsAlone root_disk repo_disk means input (disks root repo opened) (disks root' repo opened') f

    abbrev Performed : Result (List ℕ) Failure → Type 0
    Performed f = Performs root_disk repo_disk means input (disks root repo opened) (disks root' repo opened') f

    abbrev Changes : Result (List ℕ) Failure → Type 0
    Changes f = IsTrue root_disk.tells → (s : State) → RestsAt root_store root_disk root s.root → ChangesRoot root_disk (IsOutcome s.root) s root root' f

    alone_by : (f : Result (List ℕ) Failure) → Named f → Changes f → Alone f
    alone_by f named changes = alone_on_root repo_disk means input (disks root repo opened) (disks root' repo opened') f refl changes named

    pub failed_alone : (r : Result Done Stop) (f : Failure) → root_result r ≡ Err f → Runs r → Alone (Err f)
    failed_alone (Ok made) f is ran = absurd (cc is)
    failed_alone (Err e) f is ran = subst (λ (x : Failure). Alone (Err x)) (same_failure {X = Done} is) (alone_by (Err (root_failure e)) (names e ran) (λ told s rests. stopped told s rests e ran))

    pub memory_alone : (r : Result Done Stop) (made : Done) → root_result r ≡ Ok made → Runs r → Alone (Err failure.Memory)
    memory_alone r made is ran = alone_by (Err failure.Memory) (λ path named. absurd (cc named)) (λ told s rests. untold_text told s rests made (subst Runs (root_ok r made is) ran))

    pub told_alone : (r : Result Done Stop) (made : Done) (text : List ℕ) → root_result r ≡ Ok made → Runs r → text ≡ changes_text made.changes → Alone (Ok text)
    told_alone r made text is ran text_is = alone_by (Ok text) (λ path named. absurd (cc named)) (λ told s rests. told_text told s rests made text text_is (subst Runs (root_ok r made is) ran))

    module _ (repo_disk_laws : IsDisk repo_disk) (repo_laws : IsStore repository_store) where
      performed_by : (f : Result (List ℕ) Failure) → Changes f → root_disk.faults root ≤ root_disk.faults root' → HasFailureCause root_disk repo_disk (disks root repo opened) (disks root' repo opened') f
          → (status_of (end_of f) ≤ 4 → IsTrue root_disk.tells → IsSettled root_disk root_store.base root')
          → (KeepsAll (end_of f) → IsTrue root_disk.tells → root_disk.reads root' ≡ root_disk.reads root) → Performed f
      performed_by f changes later cause rest keep = performs_on_root repo_disk means input (disks root repo opened) (disks root' repo opened') f refl changes repo_disk_laws repo_laws ready later cause rest keep

      pub failed_performs : (r : Result Done Stop) (f : Failure) → root_result r ≡ Err f → Runs r → Performed (Err f)
      failed_performs (Ok made) f is ran = absurd (cc is)
      failed_performs (Err e) f is ran = subst (λ (x : Failure). Performed (Err x)) (same_failure {X = Done} is)
          (performed_by (Err (root_failure e)) (λ told s rests. stopped told s rests e ran) ran.later (caused e ran) (settles e ran) (keeps e ran))

      pub memory_performs : (r : Result Done Stop) (made : Done) → root_result r ≡ Ok made → Runs r → Performed (Err failure.Memory)
      memory_performs r made is ran =
          let now : Runs (Ok made) = subst Runs (root_ok r made is) ran in
          performed_by (Err failure.Memory) (λ told s rests. untold_text told s rests made now) now.later tt (λ le told. absurd (omega (arith, le))) (λ none told. absurd none)

      pub told_performs : (r : Result Done Stop) (made : Done) (text : List ℕ) → root_result r ≡ Ok made → Runs r → text ≡ changes_text made.changes → Performed (Ok text)
      told_performs r made text is ran text_is =
          let now : Runs (Ok made) = subst Runs (root_ok r made is) ran in
          performed_by (Ok text) (λ told s rests. told_text told s rests made text text_is now) now.later tt (λ le told. settled_done made now told) (λ none told. absurd none)
