-- How a command ends that is a job with the contents of the repository behind it.
use Rattle.std.proofs.Common.{◌≡◌, ◌≤◌, ℕ, List, Result, Ok, Err, OnOk, IfErr, refl, sym, ap, ◌∙◌, subst, inl, inr, arith}
use Rattle.std.specs.Prelude.{IsTrue, Option}
use Rattle.cli_call.specs.cny-base.Count.{Rose}
use Rattle.cli_call.specs.cny-base.declared.options.Options.{Options}
use Rattle.cli_call.specs.cny-base.declared.stop.Stop.{Stop}
use Rattle.cli_call.specs.cny-base.declared.stop.Stop.TheVariants as stop
use Rattle.cli_call.specs.tree-disk.Tree.{Name, Tree}
use Rattle.cli_call.specs.tree-disk.Disk.{DiskModel, IsDisk}
use Rattle.cli_call.specs.tree-disk.Clear.{is_within}
use Rattle.cli_call.specs.tree-disk.Confined.{Among}
use Rattle.cli_call.proofs.tree-disk.ConfinedLaws.{confined_read}
use Rattle.cli_call.specs.tree-journal.Recovery.{is_committed}
use Rattle.cli_call.specs.change-set.declared.change.Carried.{Carried}
use Rattle.cli_call.specs.trove-stream.declared.parts.TroveParts.{TroveParts}
use Rattle.repo_index.specs.Catalogue.{CatalogueParts}
use Rattle.repo_load.specs.Files.{repository_base, HoldsCatalogue, StoresRepository}
use Rattle.repo_load.specs.State.{catalogue_of, troves_of, RepositoryState}
use Rattle.repo_load.specs.Contents.{FindsContent, IsDamagedContent}
use Rattle.repo_load.specs.RepoContents.{repo_contents, HasSearched}
use Rattle.repo_load.specs.declared.repo_contents.RepoContents.{RepoContents}
use Rattle.local_db.specs.declared.db.Db.{Db}
use Rattle.local_db.specs.declared.format.Format.TheVariants.{Two}
use Rattle.local_db.specs.Stores.{StoresIn}
use Rattle.cli_call.specs.system-core.Opening.{IsSettledRoot}
use Rattle.cli_call.specs.system-core.declared.done.Done.{Done}
use Rattle.cli_call.specs.system-core.Job.{Sources, sources_of}
use Rattle.cli_call.specs.system-core.Lists.{ListStep}
use Rattle.cli_call.specs.system-core.Steps as steps
use Rattle.cli_call.specs.system-core.Steps.{StepEnds}
use Rattle.cny_report.specs.Jobs.{changes_text}
use Rattle.cli_call.specs.cny-laws.declared.failure.Failure.{Failure}
use Rattle.cli_call.specs.cny-laws.declared.failure.Failure.TheVariants as failure
use Rattle.cli_call.specs.cny-laws.declared.opened.Opened.{Opened}
use Rattle.cli_call.proofs.ChangingRoot.{ChangesRoot}
use Rattle.cli_call.specs.Command.{disks, AreReady, HasFailureCause, Performs, StandsFor, end_of}
use Rattle.cli_call.specs.cny-laws.Report.{ChangesNothing, status_of}
use Rattle.cli_call.proofs.CommandLaws.{goes_read}
use Rattle.cli_call.specs.cny-laws.State.{Meaning, RootState, State}
use Rattle.cli_call.specs.cny-laws.Stops.{root_failure, root_result}
use Rattle.cli_call.specs.cny-laws.Store.{HasDamagedFile, IsSettled, IsStore}
use Rattle.cli_call.specs.cny-laws.Stores.{repository_store, root_store}
use Rattle.cli_call.proofs.StoreLaws.{read_settled}
use Rattle.cli_call.proofs.RootResults.{root_ok, same_failure}
use Rattle.root_commands.specs.Update.{answers_of, job_from, JobFrom}
use Rattle.root_commands.proofs.Answering.{stored_two}
use Rattle.root_commands.proofs.SpecifiedEnds.{ReadsAtRefusal}
use Rattle.root_commands.proofs.JobStates as states
use Rattle.root_commands.proofs.JobStates.{IsUndamaged}
use Rattle.root_commands.proofs.MoreAnswers.{ends_more}
use Rattle.cli_call.proofs.system-core.Held.{OneDatabase}

-- the laws of repositories that are called upon
pub record RepositoryLaws : Type 0 where
  pub catalogue : (x : Tree) (r : RepositoryState) (c : CatalogueParts) → StoresRepository x r → HoldsCatalogue x c → c ≡ catalogue_of r.commits
  pub content : (x : Tree) (r : RepositoryState) (name : List ℕ) (found : Option (List ℕ)) → StoresRepository x r → FindsContent (troves_of r.commits) name x found → found ≡ r.contents name
  pub contents : (x : Tree) (r : RepositoryState) (name : List ℕ) (path : Name) → StoresRepository x r → IsDamagedContent (troves_of r.commits) name x path → ⊥
  pub store : IsStore repository_store

-- a job ran of the list that follows so: by each system that the root stores, and on each root
pub record RanFar {T P : Type 0} (root_disk : DiskModel T) (repo_disk : DiskModel P) (options : Options) (carried : List Carried) (step : List TroveParts → ListStep) (root root' : T) (far far' : RepoContents P) (now : Db) (r : Result Done Stop) : Type 0 where
  pub ends : IsTrue root_disk.tells → (s : RootState) → StoresIn Two (root_disk.reads root) s
      → StepEnds root_disk (sources_of carried (let contents = repo_contents repo_disk in contents.answers far) options) (step s.installed) s root root' now r
  pub rests : IsTrue root_disk.tells → OnOk r (IsSettledRoot root_disk root')
  pub refused : IsTrue root_disk.tells → IfErr r (ReadsAtRefusal root_disk root root')
  pub causes : IfErr r (steps.HasStepCause (repo_contents repo_disk) far far' (Rose (root_disk.faults root) (root_disk.faults root')))
  pub later : root_disk.faults root ≤ root_disk.faults root'
  pub searched : HasSearched repo_disk far far'

module _ {T P : Type 0} {root_disk : DiskModel T} {repo_disk : DiskModel P} (root_disk_laws : IsDisk root_disk) (repo_disk_laws : IsDisk repo_disk) (law : OneDatabase) (laws : RepositoryLaws) (root root' : T) (far far' : RepoContents P) (opened opened' : Opened)
    (known : far.catalogue.now ≡ opened.catalogue) (ready : AreReady root_disk repo_disk (disks root far.disk.now opened)) (options : Options) (carried : List Carried) (step : List TroveParts → ListStep) (input : List ℕ) where
  abbrev pub Runs : Result Done Stop → Type 0
  Runs r = RanFar root_disk repo_disk options carried step root root' far far' opened'.db r

  abbrev pub repo : P
  repo = far.disk.now

  abbrev pub repo' : P
  repo' = far'.disk.now

  abbrev pub Performed : Result (List ℕ) Failure → Type 0
  Performed f = Performs root_disk repo_disk (job_from options carried step) input (disks root repo opened) (disks root' repo' opened') f

  -- what is searched is the repository's
  pub holds : IsTrue repo_disk.tells → HoldsCatalogue (repo_disk.reads repo) far.catalogue.now
  holds told = subst (HoldsCatalogue (repo_disk.reads repo)) (sym known) (ready.repo told).catalogue

  -- ---- by a state that both disks store

  module _ (root_told : IsTrue root_disk.tells) (told : IsTrue repo_disk.tells) (s : State) (stands : StandsFor root_disk repo_disk (disks root repo opened) s) where
    same_troves : far.catalogue.now.troves ≡ troves_of s.repository.commits
    same_troves = ap (λ (c : CatalogueParts). c.troves) (laws.catalogue (repo_disk.reads repo) s.repository far.catalogue.now stands.repo.stored (holds told))

    answered : (name : List ℕ) (found : Option (List ℕ)) → (let contents = repo_contents repo_disk in contents.answers far name found) → answers_of s.repository.contents name found
    answered name found is = laws.content (repo_disk.reads repo) s.repository name found stands.repo.stored
        (subst (λ (t : List TroveParts). FindsContent t name (repo_disk.reads repo) found) same_troves (is.stands told))

    ends : (r : Result Done Stop) → Runs r → StepEnds root_disk (sources_of carried (answers_of s.repository.contents) options) (step s.root.installed) s.root root root' opened'.db r
    ends r ran = ends_more carried options (let contents = repo_contents repo_disk in contents.answers far) (answers_of s.repository.contents) answered s.root root_disk (step s.root.installed) root root' opened'.db r (ran.ends root_told s.root (stored_two law (disks root repo opened) ready root_told stands.root))

    whole : (e : Stop) → Runs (Err e) → IsUndamaged e
    whole (stop.FarDamaged path) ran =
        let at = ran.causes.damaged told in
        laws.contents (repo_disk.reads repo) s.repository at.name path stands.repo.stored
        (subst (λ (t : List TroveParts). IsDamagedContent t at.name (repo_disk.reads repo) path) same_troves at.damaged)
    whole _ ran = tt

    abbrev Changes : Result (List ℕ) Failure → Type 0
    Changes f = ChangesRoot root_disk (JobFrom options carried step s) s root root' f

    abbrev from : Sources
    from = sources_of carried (answers_of s.repository.contents) options

    abbrev follows : ListStep
    follows = step s.root.installed

    stopped : (e : Stop) → Runs (Err e) → Changes (Err (root_failure e))
    stopped e ran = states.stopped root_disk_laws root root' opened'.db from follows s stands.root e (ends (Err e) ran) (whole e ran)

    told_text : (made : Done) (text : List ℕ) → text ≡ changes_text made.changes → Runs (Ok made) → Changes (Ok text)
    told_text made text is ran = states.told_text root_disk_laws root root' opened'.db from follows s stands.root made text is (ends (Ok made) ran)

    untold_text : (made : Done) → Runs (Ok made) → Changes (Err failure.Memory)
    untold_text made ran = states.untold_text root_disk_laws root root' opened'.db from follows s stands.root made (ends (Ok made) ran)

  -- ---- on each pair of disks

  pub damaged_file : (path : Name) → Runs (Err (stop.FarDamaged path)) → IsTrue repo_disk.tells → HasDamagedFile repository_store (repo_disk.reads repo') path
  damaged_file path ran told =
      let at = ran.causes.damaged told in
      let read = ran.searched.same told in
      let back : repo_disk.reads repo ≡ repo_disk.reads repo' = sym read.same.reads in record {
        flag_clear = ap (is_committed repository_store.base) read.same.reads ∙ (ready.repo told).settled.flag_clear;
        damaged = inr (inl (record {
          catalogue = far.catalogue.now;
          holds = subst (λ (t : Tree). HoldsCatalogue t far.catalogue.now) back (holds told);
          name = at.name;
          damaged = subst (λ (t : Tree). IsDamagedContent far.catalogue.now.troves at.name t path) back at.damaged;
        }));
      }

  pub caused : (e : Stop) → Runs (Err e) → HasFailureCause root_disk repo_disk (disks root repo opened) (disks root' repo' opened') (Err (root_failure e))
  caused (stop.Refused why) ran = tt
  caused stop.Failed ran = ran.causes
  caused stop.Memory ran = tt
  caused (stop.Damaged path) ran = absurd ran.causes
  caused stop.FarFailed ran = ran.causes
  caused (stop.FarDamaged path) ran = inr (damaged_file path ran)

  pub settles : (e : Stop) → Runs (Err e) → status_of (Err (root_failure e)) ≤ 4 → IsTrue root_disk.tells → IsSettled root_disk root_store.base root'
  settles (stop.Refused why) ran le told = read_settled (ran.refused told) (ready.root told).flag_clear (ready.root told).synced
  settles _ ran le told = absurd (omega (arith, le))

  pub keeps : (e : Stop) → Runs (Err e) → ChangesNothing (Err (root_failure e)) → IsTrue root_disk.tells → root_disk.reads root' ≡ root_disk.reads root
  keeps (stop.Refused why) ran none told = let read = ran.refused told in read.same.reads
  keeps (stop.Damaged path) ran none told = absurd ran.causes
  keeps stop.Failed ran none told = absurd none
  keeps stop.Memory ran none told = absurd none
  keeps stop.FarFailed ran none told = absurd none
  keeps (stop.FarDamaged path) ran none told = let read = ran.refused told in read.same.reads

  pub settled_done : (made : Done) → Runs (Ok made) → IsTrue root_disk.tells → IsSettled root_disk root_store.base root'
  settled_done made ran told = let rests = ran.rests told in record { flag_clear = rests.flag_clear; synced = rests.synced }

  -- ---- the clause

  pub performed_by : (f : Result (List ℕ) Failure) → HasSearched repo_disk far far' → root_disk.faults root ≤ root_disk.faults root' → HasFailureCause root_disk repo_disk (disks root repo opened) (disks root' repo' opened') f
      → (status_of (end_of f) ≤ 4 → IsTrue root_disk.tells → IsSettled root_disk root_store.base root')
      → (ChangesNothing (end_of f) → IsTrue root_disk.tells → root_disk.reads root' ≡ root_disk.reads root)
      → (IsTrue root_disk.tells → IsTrue repo_disk.tells → (s : State) → StandsFor root_disk repo_disk (disks root repo opened) s → ChangesRoot root_disk (JobFrom options carried step s) s root root' f)
      → Performed f
  performed_by f searched later cause rest keep changes = record {
    root_later = later;
    repo_later = searched.later;
    cause = cause;
    rest = λ le. record {
      root = rest le;
      repo = λ told. read_settled (searched.same told) (ready.repo told).settled.flag_clear (ready.repo told).settled.synced;
    };
    same = λ none. record { root = keep none; repo = λ told. (searched.same told).same.reads };
    within = λ told. confined_read repo_disk_laws (Among (is_within repository_base)) (searched.same told);
    told = λ root_told told s stands. let c = changes root_told told s stands in record {
      next = record { root = c.next; repository = s.repository };
      answers = c.answers;
      apart = inr refl;
      root = c.goes;
      repo = goes_read laws.store repo_disk_laws repo repo' s.repository (end_of f) (searched.same told) stands.repo;
      outside = c.outside;
      seen = c.seen;
    };
  }

  pub failed_performs : (r : Result Done Stop) (f : Failure) → root_result r ≡ Err f → Runs r → Performed (Err f)
  failed_performs (Ok made) f is ran = absurd (cc is)
  failed_performs (Err e) f is ran = subst (λ (x : Failure). Performed (Err x)) (same_failure {X = Done} is)
      (performed_by (Err (root_failure e)) ran.searched ran.later (caused e ran) (settles e ran) (keeps e ran) (λ root_told told s stands. stopped root_told told s stands e ran))

  pub memory_performs : (r : Result Done Stop) (made : Done) → root_result r ≡ Ok made → Runs r → Performed (Err failure.Memory)
  memory_performs r made is ran =
      let now : Runs (Ok made) = subst Runs (root_ok r made is) ran in
      performed_by (Err failure.Memory) now.searched now.later tt (λ le told. absurd (omega (arith, le))) (λ none told. absurd none) (λ root_told told s stands. untold_text root_told told s stands made now)

  pub told_performs : (r : Result Done Stop) (made : Done) (text : List ℕ) → root_result r ≡ Ok made → Runs r → text ≡ changes_text made.changes → Performed (Ok text)
  told_performs r made text is ran text_is =
      let now : Runs (Ok made) = subst Runs (root_ok r made is) ran in
      performed_by (Ok text) now.searched now.later tt (λ le told. settled_done made now told) (λ none told. absurd none) (λ root_told told s stands. told_text root_told told s stands made text text_is now)

-- ---- the same disks under other names

module _ {T P : Type 0} {root_disk : DiskModel T} {repo_disk : DiskModel P} (root root' : T) (opened opened' : Opened) where
  pub ready_at : (a b : P) → a ≡ b → AreReady root_disk repo_disk (disks root b opened) → AreReady root_disk repo_disk (disks root a opened)
  ready_at a b same ready = subst (λ (d : P). AreReady root_disk repo_disk (disks root d opened)) (sym same) ready

  pub performed_at : (m : Meaning) (input : List ℕ) (result : Result (List ℕ) Failure) (a b c d : P) → a ≡ b → c ≡ d → Performs root_disk repo_disk m input (disks root a opened) (disks root' c opened') result
      → Performs root_disk repo_disk m input (disks root b opened) (disks root' d opened') result
  performed_at m input result a b c d before after done =
      subst (λ (x : P). Performs root_disk repo_disk m input (disks root x opened) (disks root' d opened') result) before
      (subst (λ (x : P). Performs root_disk repo_disk m input (disks root a opened) (disks root' x opened') result) after done)
