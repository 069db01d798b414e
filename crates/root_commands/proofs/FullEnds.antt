-- How `verify` ends with the contents of the repository.
use Rattle.std.proofs.Common.{◌≡◌, ℕ, List, Result, Ok, Err, OnOk, IfOk, IfErr, refl, sym, ap, ◌∙◌, subst, inl, inr, arith}
use Rattle.std.specs.Prelude.{IsTrue, Option}
use Rattle.cli_call.specs.cny-base.declared.stop.Stop.{Stop}
use Rattle.cli_call.specs.cny-base.declared.stop.Stop.TheVariants as stop
use Rattle.cli_call.specs.tree-disk.Tree.{Name, Tree}
use Rattle.cli_call.specs.tree-disk.Disk.{DiskModel, IsDisk}
use Rattle.cli_call.specs.tree-journal.Recovery.{is_committed}
use Rattle.cli_call.specs.trove-stream.declared.parts.TroveParts.{TroveParts}
use Rattle.cli_call.specs.content-store.Contents.{ContentMap}
use Rattle.repo_index.specs.Catalogue.{CatalogueParts}
use Rattle.repo_load.specs.Files.{HoldsCatalogue, StoresRepository}
use Rattle.repo_load.specs.State.{catalogue_of, troves_of, RepositoryState}
use Rattle.local_db.specs.declared.db.Db.{Db}
use Rattle.repo_load.specs.Contents.{FindsContent, IsDamagedContent}
use Rattle.repo_load.specs.RepoContents.{repo_contents, HoldsContents}
use Rattle.repo_load.specs.declared.repo_contents.RepoContents.{RepoContents}
use Rattle.cli_call.specs.tree-scan.declared.verification.Verified.{Verified}
use Rattle.update_job.specs.Lists.{AreInstalled, IsNotInstalled}
use Rattle.root_edits.specs.Verify.{asked, verified}
use Rattle.root_edits.proofs.Answered.{verified_by_map}
use Rattle.cny_report.specs.Verified.{verified_text}
use Rattle.cli_call.specs.cny-laws.declared.failure.Failure.{Failure}
use Rattle.cli_call.specs.cny-laws.declared.failure.Failure.TheVariants as failure
use Rattle.cli_call.specs.cny-laws.declared.opened.Opened.{Opened}
use Rattle.cli_call.specs.Alone.{AnswersByContents, AnswersOpened}
use Rattle.cli_call.specs.Command.{disks, AnswersAs, AreReady, HasFailureCause, Performs, StandsFor}
use Rattle.cli_call.specs.cny-laws.Call.{HasOpened, HasWholeContents}
use Rattle.cli_call.proofs.OpenedEnds.{root_moments, same_holds}
use Rattle.cli_call.proofs.CommandLaws.{AnswersReading, AreRead, performs_reading}
use Rattle.cli_call.proofs.RootLaws.{root_laws}
use Rattle.cli_call.specs.cny-laws.State.{State}
use Rattle.cli_call.specs.cny-laws.Stops.{root_failure, root_result}
use Rattle.cli_call.specs.cny-laws.Store.{HasDamagedFile, IsStore}
use Rattle.cli_call.specs.cny-laws.Stores.{repository_store}
use Rattle.cli_call.specs.Answer.{answer}
use Rattle.root_commands.specs.Verifying.{verify_fully}
use Rattle.root_commands.proofs.Answering.{installed_are, opened_seen}
use Rattle.root_commands.proofs.VerifyEnds.{found_of_seen, found_of_system, Searched}
use Rattle.cli_call.proofs.system-core.Held.{OneDatabase}

-- the laws of repositories that are called upon
pub record VerifyingLaws : Type 0 where
  pub catalogue : (x : Tree) (r : RepositoryState) (c : CatalogueParts) → StoresRepository x r → HoldsCatalogue x c → c ≡ catalogue_of r.commits
  pub contents : (x : Tree) (r : RepositoryState) (name : List ℕ) (path : Name) → StoresRepository x r → IsDamagedContent (troves_of r.commits) name x path → ⊥
  pub store : IsStore repository_store

module _ {T P : Type 0} {root_disk : DiskModel T} {repo_disk : DiskModel P} (root_disk_laws : IsDisk root_disk) (repo_disk_laws : IsDisk repo_disk) (law : OneDatabase) (laws : VerifyingLaws) (names : List (List ℕ)) (input : List ℕ)
    (root root' : T) (far far' : RepoContents P) (opened : Opened) (known : far.catalogue.now ≡ opened.catalogue) (ready : AreReady root_disk repo_disk (disks root far.disk.now opened)) where
  abbrev pub repo : P
  repo = far.disk.now

  abbrev pub repo' : P
  repo' = far'.disk.now

  abbrev pub Run : Result Verified Stop → Type 0
  Run r = Searched root_disk (repo_contents repo_disk) names opened.db.installed root root' far far' r

  abbrev pub Ends : Result (List ℕ) Failure → Type 0
  Ends result = AnswersReading root_disk repo_disk (verify_fully names) input (disks root repo opened) result

  abbrev pub Caused : Result (List ℕ) Failure → Type 0
  Caused result = HasFailureCause root_disk repo_disk (disks root repo opened) (disks root' repo' opened) result

  abbrev pub Performed : Result (List ℕ) Failure → Type 0
  Performed result = Performs root_disk repo_disk (verify_fully names) input (disks root repo opened) (disks root' repo' opened) result

  -- what is searched is the repository's
  pub holds : IsTrue repo_disk.tells → HoldsCatalogue (repo_disk.reads repo) far.catalogue.now
  holds told = subst (HoldsCatalogue (repo_disk.reads repo)) (sym known) (ready.repo told).catalogue

  -- ---- by a state that both disks store

  module _ (told : IsTrue repo_disk.tells) (s : State) (stands : StandsFor root_disk repo_disk (disks root repo opened) s) where
    catalogue_is : far.catalogue.now ≡ catalogue_of s.repository.commits
    catalogue_is = laws.catalogue (repo_disk.reads repo) s.repository far.catalogue.now stands.repo.stored (holds told)

    held : HoldsContents (repo_disk.reads repo) far.catalogue.now s.repository.contents
    held = record { state = s.repository; stores = stands.repo.stored; catalogue_is = catalogue_is; contents = λ name. refl }

    undamaged : (path : Name) → Run (Err (stop.FarDamaged path)) → ⊥
    undamaged path run =
        let at = run.ends.damaged told in
        laws.contents (repo_disk.reads repo) s.repository at.name path stands.repo.stored
        (subst (λ (c : CatalogueParts). IsDamagedContent c.troves at.name (repo_disk.reads repo) path) catalogue_is at.damaged)

  -- ---- it stopped

  pub damaged_file : (path : Name) → Run (Err (stop.FarDamaged path)) → IsTrue repo_disk.tells → HasDamagedFile repository_store (repo_disk.reads repo') path
  damaged_file path run told =
      let at = run.ends.damaged told in
      let read = run.keeps.searched.same told in
      let back : repo_disk.reads repo ≡ repo_disk.reads repo' = sym read.same.reads in record {
        flag_clear = ap (is_committed repository_store.base) read.same.reads ∙ (ready.repo told).settled.flag_clear;
        damaged = inr (inl (record {
          catalogue = far.catalogue.now;
          holds = subst (λ (t : Tree). HoldsCatalogue t far.catalogue.now) back (holds told);
          name = at.name;
          damaged = subst (λ (t : Tree). IsDamagedContent far.catalogue.now.troves at.name t path) back at.damaged;
        }));
      }

  pub stopped_ends : (e : Stop) → Run (Err e) → Ends (Err (root_failure e)) × Caused (Err (root_failure e))
  stopped_ends (stop.Refused why) run = (λ root_told told s stands. subst (λ (l : List TroveParts). IsNotInstalled l names why) (installed_are law (disks root repo opened) ready root_told s stands.root) run.ends, tt)
  stopped_ends stop.Failed run = (tt, run.ends)
  stopped_ends stop.Memory run = (tt, tt)
  stopped_ends (stop.Damaged path) run = absurd run.ends
  stopped_ends stop.FarFailed run = (tt, run.ends)
  stopped_ends (stop.FarDamaged path) run = (λ root_told told s stands. undamaged told s stands path run, inr (damaged_file path run))

  -- ---- the clause

  pub are_read : (r : Result Verified Stop) → Run r → AreRead root_disk repo_disk (disks root repo opened) (disks root' repo' opened)
  are_read r run = record { root_later = run.later; repo_later = run.keeps.searched.later; root = run.same; repo = run.keeps.searched.same }

  pub performed : (r : Result Verified Stop) → Run r → (f : Result (List ℕ) Failure) → Caused f → Ends f → Performed f
  performed r run f cause ends =
      performs_reading root_disk_laws repo_disk_laws root_laws laws.store (verify_fully names) input (disks root repo opened) (disks root' repo' opened) ready (are_read r run) f cause ends

  pub failed_performs : (r : Result Verified Stop) (f : Failure) → root_result r ≡ Err f → Run r → Performed (Err f)
  failed_performs (Ok found) f is run = absurd (cc is)
  failed_performs (Err e) f is run =
      let ends = stopped_ends e run in
      subst (λ (x : Result Verified Failure). IfErr x (λ g. Performed (Err g))) is (performed (Err e) run (Err (root_failure e)) ends.1 ends.0)

  pub memory_performs : (r : Result Verified Stop) → Run r → Performed (Err failure.Memory)
  memory_performs r run = performed r run (Err failure.Memory) tt tt

  -- what is found with each map that the repository holds
  abbrev pub Mapped : Result Verified Stop → Type 0
  Mapped r = (map : ContentMap) → IsTrue root_disk.tells → (let contents = repo_contents repo_disk in contents.holds far map) → IfOk r (λ found. found ≡ verified map (root_disk.reads root) (asked names opened.db.installed))

  pub found_ends : (found : Verified) (text : List ℕ) → Mapped (Ok found) → AreInstalled opened.db.installed names → text ≡ verified_text found → Ends (Ok text)
  found_ends found text mapped installed is root_told told s stands =
      let contents = s.repository.contents in (
        subst (λ (l : List TroveParts). AreInstalled l names) (installed_are law (disks root repo opened) ready root_told s stands.root) installed,
        ap answer (is ∙ ap verified_text (mapped contents root_told (told, held told s stands) ∙ found_of_system root_disk repo_disk law (disks root repo opened) ready root_told names contents s stands.root)),
      )

  pub told_performs : (r : Result Verified Stop) (found : Verified) (text : List ℕ) → root_result r ≡ Ok found → Run r → Mapped r → OnOk r (AreInstalled opened.db.installed names) → text ≡ verified_text found → Performed (Ok text)
  told_performs (Err e) found text is run mapped installed text_is = absurd (cc is)
  told_performs (Ok made) found text is run mapped installed text_is =
      let same : found ≡ made = cc is in
      performed (Ok made) run (Ok text) tt (found_ends made text mapped installed (text_is ∙ ap verified_text same))

-- ---- by what was read when the disks were opened, and the contents that stand whole

module _ {T P : Type 0} {root_disk : DiskModel T} {repo_disk : DiskModel P} (root_disk_laws : IsDisk root_disk) (names : List (List ℕ)) (input : List ℕ) (root root' : T) (far far' : RepoContents P) (opened : Opened) (known : far.catalogue.now ≡ opened.catalogue)
    (ready : AreReady root_disk repo_disk (disks root far.disk.now opened)) where
  abbrev pub Found : Result Verified Stop → Type 0
  Found r = Searched root_disk (repo_contents repo_disk) names opened.db.installed root root' far far' r

  abbrev pub Whole : Result (List ℕ) Failure → Type 0
  Whole f = AnswersByContents root_disk repo_disk (verify_fully names) input (disks root far.disk.now opened) (disks root' far'.disk.now opened) f

  -- both disks were only read
  on_state : (r : Result Verified Stop) → Found r → (f : Result (List ℕ) Failure) → (s : State) → HasOpened root_disk root opened s → (let m = verify_fully names in AnswersAs (m.IsOutcome s input) s s f)
      → (let m = verify_fully names in AnswersOpened root_disk repo_disk (m.IsOutcome s input) s (disks root far.disk.now opened) (disks root' far'.disk.now opened) f)
  on_state r run f s has answers = record {
    next = s;
    answers = answers;
    holds = λ le. same_holds (disks root far.disk.now opened) (disks root' far'.disk.now opened) ready (λ t. (run.same t).same.reads) (λ t. let read = run.keeps.searched.same t in read.same.reads) s has;
    moments = root_moments root_disk_laws (disks root far.disk.now opened) (disks root' far'.disk.now opened) ready run.same s s has;
  }

  list_in : (s : State) → HasOpened root_disk root opened s → opened.db.installed ≡ s.root.installed
  list_in s has = ap (λ (d : Db). d.installed) (sym has.database)

  stopped_whole : (e : Stop) → Found (Err e) → Whole (Err (root_failure e))
  stopped_whole (stop.Refused why) run = λ told repo_told low s has whole. on_state (Err (stop.Refused why)) run (Err (failure.Refused why)) s has (subst (λ (l : List TroveParts). IsNotInstalled l names why) (list_in s has) run.ends, refl)
  stopped_whole stop.Failed run = λ told repo_told low s has whole. on_state (Err stop.Failed) run (Err failure.RootFault) s has (inl refl)
  stopped_whole stop.Memory run = λ told repo_told low s has whole. on_state (Err stop.Memory) run (Err failure.Memory) s has (inl refl)
  stopped_whole (stop.Damaged path) run = absurd run.ends
  stopped_whole stop.FarFailed run = λ told repo_told low s has whole. on_state (Err stop.FarFailed) run (Err failure.RepositoryFault) s has (inl refl)
  stopped_whole (stop.FarDamaged path) run = λ told repo_told low. absurd (omega (arith, low))

  pub failed_whole : (r : Result Verified Stop) (f : Failure) → root_result r ≡ Err f → Found r → Whole (Err f)
  failed_whole (Ok found) f is run = absurd (cc is)
  failed_whole (Err e) f is run = subst (λ (x : Result Verified Failure). IfErr x (λ g. Whole (Err g))) is (stopped_whole e run)

  pub memory_whole : (r : Result Verified Stop) → Found r → Whole (Err failure.Memory)
  memory_whole r run = λ told repo_told low s has whole. on_state r run (Err failure.Memory) s has (inl refl)

  -- what a search answers is so of the state's contents
  answered : IsTrue repo_disk.tells → (s : State) → HasWholeContents repo_disk far.disk.now opened s → (name : List ℕ) (found : Option (List ℕ)) → (let contents = repo_contents repo_disk in contents.answers far name found) → found ≡ s.repository.contents name
  answered told s whole name found is = whole name found (subst (λ (c : CatalogueParts). FindsContent c.troves name (repo_disk.reads far.disk.now) found) known (is.stands told))

  pub told_whole : (r : Result Verified Stop) (found : Verified) (text : List ℕ) → root_result r ≡ Ok found → Found r → OnOk r (AreInstalled opened.db.installed names) → text ≡ verified_text found → Whole (Ok text)
  told_whole (Err e) found text is run installed text_is = absurd (cc is)
  told_whole (Ok made) found text is run installed text_is = λ told repo_told low s has whole.
      let same : found ≡ made = cc is in
      let map = s.repository.contents in
      let by_map : made ≡ verified map (root_disk.reads root) (asked names opened.db.installed) =
      verified_by_map (let contents = repo_contents repo_disk in contents.answers far) map (answered repo_told s whole) (root_disk.reads root) (asked names opened.db.installed) made (run.ends told) in
      on_state (Ok made) run (Ok text) s has (record {
        effect = answer text;
        is = (
          subst (λ (l : List TroveParts). AreInstalled l names) (list_in s has) installed,
          ap answer (text_is ∙ ap verified_text (same ∙ by_map ∙ found_of_seen root_disk root opened names map s (opened_seen root opened s has))),
        );
        leads = refl;
        bytes = refl;
      })

-- the same of disks under other names
module _ {T P : Type 0} {root_disk : DiskModel T} {repo_disk : DiskModel P} (root : T) (opened : Opened) where
  pub ready_at : (a b : P) → a ≡ b → AreReady root_disk repo_disk (disks root b opened) → AreReady root_disk repo_disk (disks root a opened)
  ready_at a b same ready = subst (λ (d : P). AreReady root_disk repo_disk (disks root d opened)) (sym same) ready

  pub performed_at : (names : List (List ℕ)) (input : List ℕ) (root' : T) (result : Result (List ℕ) Failure) (a b c d : P) → a ≡ b → c ≡ d → Performs root_disk repo_disk (verify_fully names) input (disks root a opened) (disks root' c opened) result
      → Performs root_disk repo_disk (verify_fully names) input (disks root b opened) (disks root' d opened) result
  performed_at names input root' result a b c d before after done =
      subst (λ (x : P). Performs root_disk repo_disk (verify_fully names) input (disks root x opened) (disks root' d opened) result) before
      (subst (λ (x : P). Performs root_disk repo_disk (verify_fully names) input (disks root a opened) (disks root' x opened) result) after done)
